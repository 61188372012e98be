-- A plan is feasible, or some rule is the first that it breaks.
use Rattle.std.proofs.Common.{◌+◌, ◌-◌, ◌*◌, ◌⊎◌, ⊎_elim, inl, inr, ℕ, refl, Ok, Err}
use Rattle.std.proofs.lemmas.Bool.{cases_eq}
use Rattle.lot_sizing.specs.Problem.{Problem, item_at, item_count, resource_count, capacity, demand}
use Rattle.lot_sizing.specs.Plan.{Plan, IsSetup, IsBalanced, IsMadeWithSetup, IsWithinCapacity, IsEndStock, IsBacklogAllowed, IsLot, IsInHorizon, IsFeasible, arriving, backlog_after, cost, stock_after, time_used, used_up}
use Rattle.plan_rules.specs.Held.{AllFit, plan_of}
use Rattle.plan_rules.specs.Cells.{Cells, Fits}
use Rattle.plan_rules.specs.Broken.{IsBroken, IsJudged, balance_left, balance_right}
use Rattle.plan_rules.specs.declared.broken.Broken.{Broken}
use Rattle.plan_rules.specs.declared.broken.Broken.TheVariants.{Shape, SetupRange, Balance, SetupMissing, Capacity, EndStock, BacklogNotAllowed, Lot, Late}
use Rattle.plan_rules.specs.declared.plan.Plan as grids
use Rattle.existence.specs.Plans.{GridsAreJudged, PlansAreJudged}
use Rattle.existence.proofs.Deciding.{Decided, all_or_first, both_or_not, each_or_first, if_or_not, le_or_not, lt_or_not, none_or_not, within_or_not}

module _ (m : Problem) (p : Plan) where
  setup_or_not : (i t : ℕ) → Decided (IsSetup p i t)
  setup_or_not i t = le_or_not (p.setup i t) 1

  balanced_or_not : (i t : ℕ) → Decided (IsBalanced m p i t)
  balanced_or_not i t = cases_eq (stock_after m p i (t - 1) + arriving m p.make i t + p.backlog i t) (demand m i t + used_up m p.make i t + p.stock i t + backlog_after p i (t - 1))

  made_or_not : (i t : ℕ) → Decided (IsMadeWithSetup p i t)
  made_or_not i t = if_or_not (lt_or_not 0 (p.make i t)) (cases_eq (p.setup i t) 1)

  time_or_not : (k t : ℕ) → Decided (IsWithinCapacity m p k t)
  time_or_not k t = le_or_not (time_used m p k t) (capacity m k t)

  end_or_not : (i : ℕ) → Decided (IsEndStock m p i)
  end_or_not i = both_or_not (le_or_not (item_at m i).end_min (p.stock i m.periods)) (le_or_not (p.stock i m.periods) (item_at m i).end_max)

  backlog_or_not : (i t : ℕ) → Decided (IsBacklogAllowed m p i t)
  backlog_or_not i t = both_or_not
      (if_or_not (none_or_not (item_at m i).backlog_cost) (cases_eq (p.backlog i t) 0))
      (if_or_not (cases_eq t m.periods) (cases_eq (p.backlog i t) 0))

  lot_or_not : (i t : ℕ) → Decided (IsLot m p i t)
  lot_or_not i t = both_or_not (le_or_not ((item_at m i).min_lot * p.setup i t) (p.make i t)) (within_or_not (item_at m i).max_lot (p.make i t))

  horizon_or_not : (i t : ℕ) → Decided (IsInHorizon m p i t)
  horizon_or_not i t = if_or_not (lt_or_not m.periods (t + (item_at m i).lead)) (cases_eq (p.make i t) 0)

  pub plan_judged : IsFeasible m p ⊎ ((rule : Broken) × IsBroken m p rule)
  plan_judged =
      ⊎_elim
      (λ setup. ⊎_elim
      (λ balance. ⊎_elim
      (λ made. ⊎_elim
      (λ time. ⊎_elim
      (λ ends. ⊎_elim
      (λ backlog. ⊎_elim
      (λ lots. ⊎_elim
      (λ horizon. inl (record { balance = balance; setup = setup; made = made; capacity = time; end_stock = ends; backlog = backlog; lots = lots; horizon = horizon }))
      (λ f. inr (Late f.0 f.1, (((((((setup, balance), made), time), ends), backlog), lots), f.2)))
      (each_or_first (item_count m) m.periods (IsInHorizon m p) horizon_or_not))
      (λ f. inr (Lot f.0 f.1, ((((((setup, balance), made), time), ends), backlog), f.2)))
      (each_or_first (item_count m) m.periods (IsLot m p) lot_or_not))
      (λ f. inr (BacklogNotAllowed f.0 f.1, (((((setup, balance), made), time), ends), f.2)))
      (each_or_first (item_count m) m.periods (IsBacklogAllowed m p) backlog_or_not))
      (λ f. inr (EndStock f.0, ((((setup, balance), made), time), record { low = f.1; high = f.2; broken = f.3; before = f.4 })))
      (all_or_first (IsEndStock m p) end_or_not (item_count m)))
      (λ f. inr (Capacity f.0 f.1 (time_used m p f.0 f.1), (((setup, balance), made), f.2, refl)))
      (each_or_first (resource_count m) m.periods (IsWithinCapacity m p) time_or_not))
      (λ f. inr (SetupMissing f.0 f.1, ((setup, balance), f.2)))
      (each_or_first (item_count m) m.periods (IsMadeWithSetup p) made_or_not))
      (λ f. inr (Balance f.0 f.1 (balance_left m p f.0 f.1) (balance_right m p f.0 f.1), (setup, f.2, refl, refl)))
      (each_or_first (item_count m) m.periods (IsBalanced m p) balanced_or_not))
      (λ f. inr (SetupRange f.0 f.1, f.2))
      (each_or_first (item_count m) m.periods (IsSetup p) setup_or_not)

  -- a plan that breaks a rule isn't feasible
  breaks : (rule : Broken) → IsBroken m p rule → IsFeasible m p → ⊥
  breaks Shape b f = b
  breaks (SetupRange i t) b f = b.broken (f.setup i t b.row_low b.row_high b.column_low b.column_high)
  breaks (Balance i t left right) b f = b.1.broken (f.balance i t b.1.row_low b.1.row_high b.1.column_low b.1.column_high)
  breaks (SetupMissing i t) b f = b.1.broken (f.made i t b.1.row_low b.1.row_high b.1.column_low b.1.column_high)
  breaks (Capacity k t used) b f = b.1.broken (f.capacity k t b.1.row_low b.1.row_high b.1.column_low b.1.column_high)
  breaks (EndStock i) b f = b.1.broken (f.end_stock i b.1.low b.1.high)
  breaks (BacklogNotAllowed i t) b f = b.1.broken (f.backlog i t b.1.row_low b.1.row_high b.1.column_low b.1.column_high)
  breaks (Lot i t) b f = b.1.broken (f.lots i t b.1.row_low b.1.row_high b.1.column_low b.1.column_high)
  breaks (Late i t) b f = b.1.broken (f.horizon i t b.1.row_low b.1.row_high b.1.column_low b.1.column_high)

  pub feasible_or_not : Decided (IsFeasible m p)
  feasible_or_not = ⊎_elim (λ feasible. inl feasible) (λ b. inr (breaks b.0 b.1)) plan_judged

pub plans_judged : PlansAreJudged
plans_judged m p = ⊎_elim (λ feasible. inl feasible) (λ b. inr (breaks m p b.0 b.1, b.0, b.1)) (plan_judged m p)

fits_or_not : (m : Problem) (g : Cells) → Decided (Fits m g)
fits_or_not m g = ⊎_elim
    (λ items. ⊎_elim
    (λ periods. inl (record { items = items; periods = periods }))
    (λ no. inr (λ fits. no fits.periods))
    (cases_eq g.periods m.periods))
    (λ no. inr (λ fits. no fits.items))
    (cases_eq g.items (item_count m))

all_fit_or_not : (m : Problem) (p : grids.Plan) → Decided (AllFit m p)
all_fit_or_not m p = ⊎_elim
    (λ make. ⊎_elim
    (λ setup. ⊎_elim
    (λ stock. ⊎_elim
    (λ backlog. inl (record { make = make; setup = setup; stock = stock; backlog = backlog }))
    (λ no. inr (λ fits. no fits.backlog))
    (fits_or_not m p.backlog))
    (λ no. inr (λ fits. no fits.stock))
    (fits_or_not m p.stock))
    (λ no. inr (λ fits. no fits.setup))
    (fits_or_not m p.setup))
    (λ no. inr (λ fits. no fits.make))
    (fits_or_not m p.make)

broken_grids : (m : Problem) (p : grids.Plan) → AllFit m p → (rule : Broken) → IsBroken m (plan_of p) rule → IsJudged m p (Err rule)
broken_grids m p fits Shape b = absurd b
broken_grids m p fits (SetupRange i t) b = (fits, b)
broken_grids m p fits (Balance i t left right) b = (fits, b)
broken_grids m p fits (SetupMissing i t) b = (fits, b)
broken_grids m p fits (Capacity k t used) b = (fits, b)
broken_grids m p fits (EndStock i) b = (fits, b)
broken_grids m p fits (BacklogNotAllowed i t) b = (fits, b)
broken_grids m p fits (Lot i t) b = (fits, b)
broken_grids m p fits (Late i t) b = (fits, b)

pub grids_judged : GridsAreJudged
grids_judged m p = ⊎_elim
    (λ fits. ⊎_elim
    (λ feasible. (Ok (cost m (plan_of p)), (fits, feasible, refl)))
    (λ b. (Err b.0, broken_grids m p fits b.0 b.1))
    (plan_judged m (plan_of p)))
    (λ no. (Err Shape, no))
    (all_fit_or_not m p)

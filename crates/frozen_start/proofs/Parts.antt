-- A plan is feasible where its start stands and its later part is feasible in the rest.
use Rattle.std.proofs.Common.{◌≡◌, ◌≤◌, ◌+◌, ◌-◌, ◌*◌, ◌∙◌, ⊎_elim, ℕ, zero, suc, refl, sym, ap, subst, arith}
use Rattle.std.specs.Prelude.{IfSome}
use Rattle.std.proofs.lemmas.Bool.{cases_lt}
use Rattle.lot_sizing.specs.Sums.{sum_to}
use Rattle.lot_sizing.specs.Problem.{Problem, backlog_cost, hold_cost, item_at, item_count, per_unit, resource_count, setup_cost, setup_time, unit_cost, unit_time}
use Rattle.lot_sizing.specs.Plan.{Each, IsBacklogAllowed, IsBalanced, IsFeasible, IsLot, IsMadeWithSetup, IsSetup, IsWithinCapacity, Plan, Table, arriving, backlog_after, cost, cost_at, stock_after, time_used, used_up}
use Rattle.lot_sizing.specs.Least.{least_backlog, least_plan, least_stock}
use Rattle.lot_sizing.proofs.Sums.{sum_to-add, sum_to-same}
use Rattle.lot_sizing.proofs.Plans.{backlog_after_some, stock_after_some}
use Rattle.lot_sizing.proofs.Lots.{arriving_now}
use Rattle.lot_sizing.proofs.Least.{least_balanced}
use Rattle.frozen_start.specs.Starts.{Agrees, HasNoLeads, StartStands, spent}
use Rattle.frozen_start.specs.Rests.{IsRestOf}
use Rattle.frozen_start.proofs.Places.{at_place, capacity_at, may_be_late, may_be_late_there, per_unit_at, setup_time_at, unit_time_at}

-- a plan begins with the start of another, with the least stocks and backlogs
pub record StartsWith (m : Problem) (p : Plan) (first : ℕ) (f : Plan) : Type 0 where
  pub agrees : Agrees m p f first
  pub stock : Each (item_count m) first (λ i t. f.stock i t ≡ least_stock m p.make i t)
  pub backlog : Each (item_count m) first (λ i t. f.backlog i t ≡ least_backlog m p.make i t)

-- and goes on with another
pub record GoesOnWith (first : ℕ) (f q : Plan) : Type 0 where
  pub make : (i u : ℕ) → 1 ≤ u → f.make i (first + u) ≡ q.make i u
  pub setup : (i u : ℕ) → 1 ≤ u → f.setup i (first + u) ≡ q.setup i u
  pub stock : (i u : ℕ) → 1 ≤ u → f.stock i (first + u) ≡ q.stock i u
  pub backlog : (i u : ℕ) → 1 ≤ u → f.backlog i (first + u) ≡ q.backlog i u

-- what holds in the first periods and in the later ones holds in all
by_parts : (rows first n T : ℕ) (R : ℕ → ℕ → Type 0) → T ≡ first + n → Each rows first R → Each rows n (λ i u. R i (first + u)) → Each rows T R
by_parts rows first n T R size start later i t low high t_low t_high =
    ⊎_elim
    (λ late.
    let e : first + (t - first) ≡ t = omega (arith, late) in
    subst (λ k. R i k) e (later i (t - first) low high (omega (arith, late)) (omega (arith, t_high, size, late))))
    (λ early. start i t low high t_low (omega (arith, early)))
    (cases_lt first t)

pub sum_to-parts : (first n : ℕ) (f : ℕ → ℕ) → sum_to (first + n) f ≡ sum_to first f + sum_to n (λ u. f (first + u))
sum_to-parts first zero f = let e : first + zero ≡ first = omega arith in omega (arith, ap (λ k. sum_to k f) e)
sum_to-parts first (suc n) f =
    let e : first + suc n ≡ suc (first + n) = omega arith in
    omega (arith, ap (λ k. sum_to k f) e, ap f e, sum_to-parts first n f)

-- the start

least_stock_at : (m : Problem) (make setup : Table) (i t : ℕ) → stock_after m (least_plan m make setup) i t ≡ least_stock m make i t
least_stock_at m make setup i zero = omega arith
least_stock_at m make setup i (suc t) = refl

least_backlog_at : (m : Problem) (make setup : Table) (i t : ℕ) → backlog_after (least_plan m make setup) i t ≡ least_backlog m make i t
least_backlog_at m make setup i zero = omega arith
least_backlog_at m make setup i (suc t) = refl

start_stock : (m : Problem) (p : Plan) (first : ℕ) (f : Plan) → StartsWith m p first f → (i t : ℕ) → 1 ≤ i → i ≤ item_count m → t ≤ first → stock_after m f i t ≡ least_stock m p.make i t
start_stock m p first f s i zero low high h = omega arith
start_stock m p first f s i (suc t) low high h = s.stock i (suc t) low high (omega arith) h

start_backlog : (m : Problem) (p : Plan) (first : ℕ) (f : Plan) → StartsWith m p first f → (i t : ℕ) → 1 ≤ i → i ≤ item_count m → t ≤ first → backlog_after f i t ≡ least_backlog m p.make i t
start_backlog m p first f s i zero low high h = omega arith
start_backlog m p first f s i (suc t) low high h = s.backlog i (suc t) low high (omega arith) h

pub used_up_start : (m : Problem) (p f : Plan) (first : ℕ) → Agrees m p f first → (i t : ℕ) → 1 ≤ t → t ≤ first → used_up m p.make i t ≡ used_up m f.make i t
used_up_start m p f first a i t low high = sum_to-same (item_count m) _ _ (λ j j_low j_high. ap (λ n. per_unit m i j * n) (a.make j t j_low j_high low high))

pub arriving_start : (m : Problem) (p f : Plan) (first : ℕ) → HasNoLeads m → Agrees m p f first → (i t : ℕ) → 1 ≤ i → i ≤ item_count m → 1 ≤ t → t ≤ first → arriving m p.make i t ≡ arriving m f.make i t
arriving_start m p f first leadless a i t low high t_low t_high =
    arriving_now m p.make i t (leadless i low high) t_low ∙ a.make i t low high t_low t_high ∙ sym (arriving_now m f.make i t (leadless i low high) t_low)

start_balanced : (m : Problem) (p : Plan) (first : ℕ) (f : Plan) → HasNoLeads m → StartsWith m p first f → Each (item_count m) first (IsBalanced m f)
start_balanced m p first f leadless s i t low high t_low t_high =
    let before : t - 1 ≤ first = omega (arith, t_high) in
    omega (
      arith,
      least_balanced m p.make p.setup i t t_low,
      least_stock_at m p.make p.setup i (t - 1),
      least_backlog_at m p.make p.setup i (t - 1),
      start_stock m p first f s i (t - 1) low high before,
      start_backlog m p first f s i (t - 1) low high before,
      s.stock i t low high t_low t_high,
      s.backlog i t low high t_low t_high,
      used_up_start m p f first s.agrees i t t_low t_high,
      arriving_start m p f first leadless s.agrees i t low high t_low t_high,
    )

pub time_start : (m : Problem) (p f : Plan) (first : ℕ) → Agrees m p f first → (k t : ℕ) → 1 ≤ t → t ≤ first → time_used m p k t ≡ time_used m f k t
time_start m p f first a k t low high =
    sum_to-same (item_count m) _ _ (λ i i_low i_high.
    omega (arith, ap (λ n. unit_time m i k * n) (a.make i t i_low i_high low high), ap (λ n. setup_time m i k * n) (a.setup i t i_low i_high low high)))

-- the later part

later_arriving : (m : Problem) (p : Plan) (first : ℕ) (rest : Problem) (f q : Plan) → HasNoLeads m → IsRestOf m p first rest → GoesOnWith first f q → (i u : ℕ) → 1 ≤ i → i ≤ item_count m → 1 ≤ u → arriving m f.make i (first + u) ≡ arriving rest q.make i u
later_arriving m p first rest f q leadless r g i u low high u_low =
    let none : (item_at rest i).lead ≡ 0 = (r.items i low high).lead ∙ leadless i low high in
    arriving_now m f.make i (first + u) (leadless i low high) (omega (arith, u_low)) ∙ g.make i u u_low ∙ sym (arriving_now rest q.make i u none u_low)

later_used : (m : Problem) (p : Plan) (first : ℕ) (rest : Problem) (f q : Plan) → IsRestOf m p first rest → GoesOnWith first f q → (i u : ℕ) → 1 ≤ u → used_up m f.make i (first + u) ≡ used_up rest q.make i u
later_used m p first rest f q r g i u low =
    sum_to-same (item_count m) (λ j. per_unit m i j * f.make j (first + u)) (λ j. per_unit rest i j * q.make j u) (λ j j_low j_high.
    ap (λ n. per_unit m i j * n) (g.make j u low) ∙ ap (λ n. n * q.make j u) (sym (per_unit_at m p first rest r i j j_low j_high))) ∙ ap (λ n. sum_to n (λ j. per_unit rest i j * q.make j u)) (sym r.item_count)

later_time : (m : Problem) (p : Plan) (first : ℕ) (rest : Problem) (f q : Plan) → IsRestOf m p first rest → GoesOnWith first f q → (k u : ℕ) → 1 ≤ u → time_used m f k (first + u) ≡ time_used rest q k u
later_time m p first rest f q r g k u low =
    sum_to-same (item_count m) (λ i. unit_time m i k * f.make i (first + u) + setup_time m i k * f.setup i (first + u)) (λ i. unit_time rest i k * q.make i u + setup_time rest i k * q.setup i u) (λ i i_low i_high.
    omega (
      arith,
      ap (λ n. unit_time m i k * n) (g.make i u low),
      ap (λ n. setup_time m i k * n) (g.setup i u low),
      ap (λ n. n * q.make i u) (unit_time_at m p first rest r i k i_low i_high),
      ap (λ n. n * q.setup i u) (setup_time_at m p first rest r i k i_low i_high),
    )) ∙ ap (λ n. sum_to n (λ i. unit_time rest i k * q.make i u + setup_time rest i k * q.setup i u)) (sym r.item_count)

later_cost : (m : Problem) (p : Plan) (first : ℕ) (rest : Problem) (f q : Plan) → IsRestOf m p first rest → GoesOnWith first f q → (i u : ℕ) → 1 ≤ i → i ≤ item_count m → 1 ≤ u → cost_at m f i (first + u) ≡ cost_at rest q i u
later_cost m p first rest f q r g i u low high u_low =
    let is = at_place m p first rest r i u low high u_low in
    omega (
      arith,
      ap (λ n. unit_cost m i (first + u) * n) (g.make i u u_low),
      ap (λ n. setup_cost m i (first + u) * n) (g.setup i u u_low),
      ap (λ n. hold_cost m i (first + u) * n) (g.stock i u u_low),
      ap (λ n. backlog_cost m i (first + u) * n) (g.backlog i u u_low),
      ap (λ n. n * q.make i u) is.unit_cost,
      ap (λ n. n * q.setup i u) is.setup_cost,
      ap (λ n. n * q.stock i u) is.hold_cost,
      ap (λ n. n * q.backlog i u) is.backlog_cost,
    )

-- the whole balances in a later period where the rest does
record HaveSameBalance (m : Problem) (f : Plan) (rest : Problem) (q : Plan) (i t u : ℕ) : Type 0 where
  there : IsBalanced rest q i u → IsBalanced m f i t
  back : IsBalanced m f i t → IsBalanced rest q i u

later_balance : (m : Problem) (p : Plan) (first : ℕ) (rest : Problem) (f q : Plan) → HasNoLeads m → IsRestOf m p first rest → StartsWith m p first f → GoesOnWith first f q → (i u : ℕ) → 1 ≤ i → i ≤ item_count m → 1 ≤ u → HaveSameBalance m f rest q i (first + u) u
later_balance m p first rest f q leadless r s g i zero low high u_low = absurd (omega (arith, u_low))
later_balance m p first rest f q leadless r s g i (suc zero) low high u_low =
    let before : first + suc zero - 1 ≡ first = omega arith in
    let is = at_place m p first rest r i (suc zero) low high u_low in
    let stock = ap (stock_after m f i) before in
    let backlog = ap (backlog_after f i) before in
    let stock_is = start_stock m p first f s i first low high (omega arith) in
    let backlog_is = start_backlog m p first f s i first low high (omega arith) in
    let left = (r.items i low high).opening in
    let asked = is.demand_first refl in
    let come = later_arriving m p first rest f q leadless r g i (suc zero) low high u_low in
    let gone = later_used m p first rest f q r g i (suc zero) u_low in
    let stays = g.stock i (suc zero) u_low in
    let owes = g.backlog i (suc zero) u_low in
    record {
      there = λ h. omega (arith, h, stock, backlog, stock_is, backlog_is, left, asked, come, gone, stays, owes);
      back = λ h. omega (arith, h, stock, backlog, stock_is, backlog_is, left, asked, come, gone, stays, owes);
    }
later_balance m p first rest f q leadless r s g i (suc (suc u)) low high u_low =
    let before : first + suc (suc u) - 1 ≡ first + suc u = omega arith in
    let some : 1 ≤ suc u = omega arith in
    let there : suc (suc u) - 1 ≡ suc u = omega arith in
    let stock_there = ap (stock_after rest q i) there in
    let backlog_there = ap (backlog_after q i) there in
    let is = at_place m p first rest r i (suc (suc u)) low high u_low in
    let stock = ap (stock_after m f i) before in
    let backlog = ap (backlog_after f i) before in
    let stock_is = stock_after_some m f i (first + suc u) (omega arith) ∙ g.stock i (suc u) some in
    let backlog_is = backlog_after_some f i (first + suc u) (omega arith) ∙ g.backlog i (suc u) some in
    let asked = is.demand_later (omega arith) in
    let come = later_arriving m p first rest f q leadless r g i (suc (suc u)) low high u_low in
    let gone = later_used m p first rest f q r g i (suc (suc u)) u_low in
    let stays = g.stock i (suc (suc u)) u_low in
    let owes = g.backlog i (suc (suc u)) u_low in
    record {
      there = λ h. omega (arith, h, stock, backlog, stock_there, backlog_there, stock_is, backlog_is, asked, come, gone, stays, owes);
      back = λ h. omega (arith, h, stock, backlog, stock_there, backlog_there, stock_is, backlog_is, asked, come, gone, stays, owes);
    }

-- a lot is within its bounds where the same lot of the same item is
lot_moves : (m rest : Problem) (f q : Plan) (i t u : ℕ) → (item_at rest i).min_lot ≡ (item_at m i).min_lot → (item_at rest i).max_lot ≡ (item_at m i).max_lot → f.make i t ≡ q.make i u → f.setup i t ≡ q.setup i u → IsLot rest q i u → IsLot m f i t
lot_moves m rest f q i t u least most x y lot = (
  omega (arith, x, ap (λ n. (item_at m i).min_lot * n) y, ap (λ n. n * q.setup i u) least, lot.0),
  subst (λ o. IfSome o (λ bound. f.make i t ≤ bound)) most (subst (λ n. IfSome (item_at rest i).max_lot (λ bound. n ≤ bound)) (sym x) lot.1),
)

periods_are : (m : Problem) (p : Plan) (first : ℕ) (rest : Problem) → IsRestOf m p first rest → m.periods ≡ first + rest.periods
periods_are m p first rest r = omega (arith, r.periods, r.some_later)

-- the whole is feasible where the start stands and the rest is feasible
pub whole_is_feasible : (m : Problem) (p : Plan) (first : ℕ) (rest : Problem) (f q : Plan) → HasNoLeads m → IsRestOf m p first rest → StartsWith m p first f → GoesOnWith first f q → StartStands m p first → IsFeasible rest q → IsFeasible m f
whole_is_feasible m p first rest f q leadless r s g stands h =
    let size = periods_are m p first rest r in
    let T = m.periods in
    let n = rest.periods in
    let count = item_count m in
    let inside : (i : ℕ) → i ≤ count → i ≤ item_count rest = λ i high. omega (arith, high, r.item_count) in
    record {
      balance = by_parts count first n T (IsBalanced m f) size (start_balanced m p first f leadless s)
          (λ i u low high u_low u_high. (later_balance m p first rest f q leadless r s g i u low high u_low).there (h.balance i u low (inside i high) u_low u_high));
      setup = by_parts count first n T (IsSetup f) size
          (λ i t low high t_low t_high. omega (arith, s.agrees.setup i t low high t_low t_high, stands.setup i t low high t_low t_high))
          (λ i u low high u_low u_high. omega (arith, g.setup i u u_low, h.setup i u low (inside i high) u_low u_high));
      made = by_parts count first n T (IsMadeWithSetup f) size
          (λ i t low high t_low t_high some. sym (s.agrees.setup i t low high t_low t_high) ∙ stands.made i t low high t_low t_high (omega (arith, some, s.agrees.make i t low high t_low t_high)))
          (λ i u low high u_low u_high some. g.setup i u u_low ∙ h.made i u low (inside i high) u_low u_high (omega (arith, some, g.make i u u_low)));
      capacity = by_parts (resource_count m) first n T (IsWithinCapacity m f) size
          (λ k t low high t_low t_high. omega (arith, time_start m p f first s.agrees k t t_low t_high, stands.capacity k t low high t_low t_high))
          (λ k u low high u_low u_high. omega (arith, later_time m p first rest f q r g k u u_low, capacity_at m p first rest r k u low high u_low, h.capacity k u low (omega (arith, high, r.resource_count)) u_low u_high));
      end_stock = λ i low high.
          let some : 1 ≤ n = omega (arith, r.periods, r.some_later) in
          let last : f.stock i T ≡ q.stock i n = ap (f.stock i) size ∙ g.stock i n some in
          let end = h.end_stock i low (inside i high) in
          (omega (arith, last, end.0, (r.items i low high).end_min), omega (arith, last, end.1, (r.items i low high).end_max));
      backlog = by_parts count first n T (IsBacklogAllowed m f) size
          (λ i t low high t_low t_high. (λ none. s.backlog i t low high t_low t_high ∙ stands.in_time i t low high t_low t_high none, λ last. absurd (omega (arith, last, t_high, r.some_later))))
          (λ i u low high u_low u_high.
          let owed = g.backlog i u u_low in
          let rule = h.backlog i u low (inside i high) u_low u_high in
          (λ none. owed ∙ rule.0 (may_be_late_there m p first rest r i low high none), λ last. owed ∙ rule.1 (omega (arith, last, size))));
      lots = by_parts count first n T (IsLot m f) size
          (λ i t low high t_low t_high. lot_moves m m f p i t t refl refl (sym (s.agrees.make i t low high t_low t_high)) (sym (s.agrees.setup i t low high t_low t_high)) (stands.lots i t low high t_low t_high))
          (λ i u low high u_low u_high. lot_moves m rest f q i (first + u) u (r.items i low high).min_lot (r.items i low high).max_lot (g.make i u u_low) (g.setup i u u_low) (h.lots i u low (inside i high) u_low u_high));
      horizon = λ i t low high t_low t_high late. absurd (omega (arith, late, t_high, leadless i low high));
    }

-- a feasible plan's quantities and setups make a start that stands
pub start_stands : (m : Problem) (p : Plan) (first : ℕ) (f : Plan) → first ≤ m.periods → StartsWith m p first f → IsFeasible m f → StartStands m p first
start_stands m p first f inside s h =
    let within : (t : ℕ) → t ≤ first → t ≤ m.periods = λ t high. omega (arith, high, inside) in
    record {
      setup = λ i t low high t_low t_high. omega (arith, s.agrees.setup i t low high t_low t_high, h.setup i t low high t_low (within t t_high));
      made = λ i t low high t_low t_high some. s.agrees.setup i t low high t_low t_high ∙ h.made i t low high t_low (within t t_high) (omega (arith, some, s.agrees.make i t low high t_low t_high));
      capacity = λ k t low high t_low t_high. omega (arith, time_start m p f first s.agrees k t t_low t_high, h.capacity k t low high t_low (within t t_high));
      lots = λ i t low high t_low t_high. lot_moves m m p f i t t refl refl (s.agrees.make i t low high t_low t_high) (s.agrees.setup i t low high t_low t_high) (h.lots i t low high t_low (within t t_high));
      in_time = λ i t low high t_low t_high none. sym (s.backlog i t low high t_low t_high) ∙ (h.backlog i t low high t_low (within t t_high)).0 none;
    }

-- and its later part is feasible in the rest
pub later_is_feasible : (m : Problem) (p : Plan) (first : ℕ) (rest : Problem) (f q : Plan) → HasNoLeads m → IsRestOf m p first rest → StartsWith m p first f → GoesOnWith first f q → IsFeasible m f → IsFeasible rest q
later_is_feasible m p first rest f q leadless r s g h =
    let size = periods_are m p first rest r in
    let within : (u : ℕ) → u ≤ rest.periods → first + u ≤ m.periods = λ u high. omega (arith, high, size) in
    let some : (u : ℕ) → 1 ≤ u → 1 ≤ first + u = λ u low. omega (arith, low) in
    let inside : (i : ℕ) → i ≤ item_count rest → i ≤ item_count m = λ i high. omega (arith, high, r.item_count) in
    record {
      balance = λ i u low high u_low u_high. (later_balance m p first rest f q leadless r s g i u low (inside i high) u_low).back (h.balance i (first + u) low (inside i high) (some u u_low) (within u u_high));
      setup = λ i u low high u_low u_high. omega (arith, g.setup i u u_low, h.setup i (first + u) low (inside i high) (some u u_low) (within u u_high));
      made = λ i u low high u_low u_high made. sym (g.setup i u u_low) ∙ h.made i (first + u) low (inside i high) (some u u_low) (within u u_high) (omega (arith, made, g.make i u u_low));
      capacity = λ k u low high u_low u_high.
          let k_high : k ≤ resource_count m = omega (arith, high, r.resource_count) in
          omega (arith, later_time m p first rest f q r g k u u_low, capacity_at m p first rest r k u low k_high u_low, h.capacity k (first + u) low k_high (some u u_low) (within u u_high));
      end_stock = λ i low high.
          let n = rest.periods in
          let some : 1 ≤ n = omega (arith, r.periods, r.some_later) in
          let last : f.stock i m.periods ≡ q.stock i n = ap (f.stock i) size ∙ g.stock i n some in
          let end = h.end_stock i low (inside i high) in
          let is = r.items i low (inside i high) in
          (omega (arith, last, end.0, is.end_min), omega (arith, last, end.1, is.end_max));
      backlog = λ i u low high u_low u_high.
          let owed = sym (g.backlog i u u_low) in
          let rule = h.backlog i (first + u) low (inside i high) (some u u_low) (within u u_high) in
          (λ none. owed ∙ rule.0 (may_be_late m p first rest r i low (inside i high) none), λ last. owed ∙ rule.1 (omega (arith, last, size)));
      lots = λ i u low high u_low u_high.
          let is = r.items i low (inside i high) in
          lot_moves rest m q f i u (first + u) (sym is.min_lot) (sym is.max_lot) (sym (g.make i u u_low)) (sym (g.setup i u u_low)) (h.lots i (first + u) low (inside i high) (some u u_low) (within u u_high));
      horizon = λ i u low high u_low u_high late. absurd (omega (arith, late, u_high, (r.items i low (inside i high)).lead, leadless i low (inside i high)));
    }

start_cost : (m : Problem) (p : Plan) (first : ℕ) (f : Plan) → StartsWith m p first f → (i t : ℕ) → 1 ≤ i → i ≤ item_count m → 1 ≤ t → t ≤ first → cost_at m f i t ≡ cost_at m (least_plan m p.make p.setup) i t
start_cost m p first f s i t low high t_low t_high =
    omega (
      arith,
      ap (λ n. unit_cost m i t * n) (s.agrees.make i t low high t_low t_high),
      ap (λ n. setup_cost m i t * n) (s.agrees.setup i t low high t_low t_high),
      ap (λ n. hold_cost m i t * n) (s.stock i t low high t_low t_high),
      ap (λ n. backlog_cost m i t * n) (s.backlog i t low high t_low t_high),
    )

-- the whole costs what the start and the rest cost
pub whole_costs : (m : Problem) (p : Plan) (first : ℕ) (rest : Problem) (f q : Plan) → IsRestOf m p first rest → StartsWith m p first f → GoesOnWith first f q → cost m f ≡ spent m p first + cost rest q
whole_costs m p first rest f q r s g =
    let size = periods_are m p first rest r in
    let n = rest.periods in
    let count = item_count m in
    let L = least_plan m p.make p.setup in
    let each = sum_to-same count (λ i. sum_to m.periods (λ t. cost_at m f i t)) (λ i. sum_to first (λ t. cost_at m L i t) + sum_to n (λ u. cost_at rest q i u)) (λ i low high.
    ap (λ k. sum_to k (λ t. cost_at m f i t)) size ∙ (sum_to-parts first n (λ t. cost_at m f i t) ∙ omega (
      arith,
      sum_to-same first (λ t. cost_at m f i t) (λ t. cost_at m L i t) (λ t t_low t_high. start_cost m p first f s i t low high t_low t_high),
      sum_to-same n (λ u. cost_at m f i (first + u)) (λ u. cost_at rest q i u) (λ u u_low u_high. later_cost m p first rest f q r g i u low high u_low),
    ))) in
    each ∙ (sum_to-add count (λ i. sum_to first (λ t. cost_at m L i t)) (λ i. sum_to n (λ u. cost_at rest q i u)) ∙ ap (λ k. spent m p first + sum_to k (λ i. sum_to n (λ u. cost_at rest q i u))) (sym r.item_count))

-- Plans of items by themselves, and net plans.
use Rattle.std.proofs.Common.{◌≡◌, ◌≢◌, ◌≤◌, ◌+◌, ◌-◌, ◌*◌, ◌∙◌, ⊎_elim, ℕ, zero, suc, refl, sym, ap, subst, arith}
use Rattle.std.specs.Prelude.{IsNone, if◌then◌else◌, ◌==◌}
use Rattle.std.specs.List.{sum_by}
use Rattle.std.proofs.lemmas.Bool.{cases_eq}
use Rattle.std.proofs.Math.Nat.{mul-le-mul_left}
use Rattle.lot_sizing.specs.Sums.{sum_to}
use Rattle.lot_sizing.specs.Problem.{Problem, EachItem, IsUncoupled, item_at, item_count, demand, unit_time, setup_time, hold_cost, backlog_cost, backlog_price, entry}
use Rattle.lot_sizing.specs.Plan.{Plan, Table, IsFeasible, arriving, used_up, time_used, cost_at, cost}
use Rattle.lot_sizing.specs.Best.{IsFloor}
use Rattle.lot_sizing.specs.Least.{outflow, least_stock, least_backlog, least_plan}
use Rattle.lot_sizing.specs.Single.{Single, NetPlan, IsNetPlan, net_demand, net_cost, net_cost_at}
use Rattle.lot_sizing.specs.Net.{Asked, asked_to, needed_to, net_in, left_after, asked_of, IsSingleOf, held_left, item_cost, HasRoom, ServesItem, IsBestChoice, choice}
use Rattle.lot_sizing.proofs.Sums.{sum_to-same, sum_to-le, sum_to-add, sum_to-zero}
use Rattle.lot_sizing.proofs.Bounds.{none_used_up}
use Rattle.lot_sizing.proofs.Plans.{stock_after_some, backlog_after_some}
use Rattle.lot_sizing.proofs.Lots.{arrived_now, no_bound}
use Rattle.lot_sizing.proofs.Least.{balance_so_far, least_balanced}

pub end_here : (a : Asked) (t : ℕ) → t ≡ a.periods → (if t == a.periods then a.end_min else 0) ≡ a.end_min
end_here a t h = grind (arith, h)

end_later : (a : Asked) (t : ℕ) → t ≢ a.periods → (if t == a.periods then a.end_min else 0) ≡ 0
end_later a t h = grind (arith, h)

-- more is asked for later
asked_step : (a : Asked) (t : ℕ) → suc t ≤ a.periods → asked_to a t + a.demand (suc t) ≤ asked_to a (suc t)
asked_step a t h = omega (arith, end_later a t (λ same. omega (arith, same, h)))

asked_none : (a : Asked) → 1 ≤ a.periods → asked_to a 0 ≡ 0
asked_none a h = omega (arith, end_later a 0 (λ same. omega (arith, same, h)))

-- the net demands up to a period
pub net_so_far : (a : Asked) → 1 ≤ a.periods → (t : ℕ) → t ≤ a.periods → sum_to t (net_in a) ≡ needed_to a t
net_so_far a some zero h = omega (arith, asked_none a some)
net_so_far a some (suc t) h =
    let e : suc t - 1 ≡ t = omega arith in
    omega (arith, net_so_far a some t (omega (arith, h)), asked_step a t h, ap (needed_to a) e)

net_of_single : (m : Problem) (i : ℕ) (s : Single) → IsSingleOf m i s → 1 ≤ m.periods → (t : ℕ) → t ≤ m.periods → sum_to t (net_demand s) ≡ needed_to (asked_of m i) t
net_of_single m i s single some t h = sum_to-same t (net_demand s) (net_in (asked_of m i)) (λ k low high. single.net k low (omega (arith, high, h))) ∙ net_so_far (asked_of m i) some t h

-- no item goes into another
none_used : (m : Problem) → IsUncoupled m → (i : ℕ) (make : ℕ → ℕ → ℕ) (t : ℕ) → used_up m make i t ≡ 0
none_used m free i make t = none_used_up m make free.needs i t

plain_outflow : (m : Problem) → IsUncoupled m → (i : ℕ) (make : ℕ → ℕ → ℕ) (t : ℕ) → outflow m make i t ≡ sum_to t (demand m i)
plain_outflow m free i make t = sum_to-same t _ _ (λ u low high. omega (arith, none_used m free i make u))

plain_supply : (m : Problem) → IsUncoupled m → (i : ℕ) → 1 ≤ i → i ≤ item_count m → (make : ℕ → ℕ → ℕ) (t : ℕ) → sum_to t (arriving m make i) ≡ sum_to t (make i)
plain_supply m free i low high make t = arrived_now m make i t (free.plain i low high).lead

-- what a plan holds and owes of an item by itself
plan_balance : (m : Problem) (p : Plan) → IsUncoupled m → IsFeasible m p → (i t : ℕ) → 1 ≤ i → i ≤ item_count m → 1 ≤ t → t ≤ m.periods → p.stock i t + sum_to t (demand m i) ≡ (item_at m i).opening + sum_to t (p.make i) + p.backlog i t
plan_balance m p free f i t low high t_low t_high = omega (arith, balance_so_far m p i low high f.balance t t_high, plain_outflow m free i p.make t, plain_supply m free i low high p.make t, stock_after_some m p i t t_low, backlog_after_some p i t t_low)

-- a plan holds what is left and what is over, and owes what is short
record IsKept (m : Problem) (p : Plan) (i t : ℕ) : Type 0 where
  held : left_after (asked_of m i) t + (sum_to t (p.make i) - needed_to (asked_of m i) t) ≤ p.stock i t
  owed : needed_to (asked_of m i) t - sum_to t (p.make i) ≤ p.backlog i t

kept : (m : Problem) (p : Plan) → IsUncoupled m → IsFeasible m p → (i t : ℕ) → 1 ≤ i → i ≤ item_count m → 1 ≤ t → t ≤ m.periods → IsKept m p i t
kept m p free f i t low high t_low t_high =
    let a = asked_of m i in
    let balance = plan_balance m p free f i t low high t_low t_high in
    ⊎_elim
    (λ last.
    let end = end_here a t last in
    let stock : (item_at m i).end_min ≤ p.stock i t = omega (arith, (f.end_stock i low high).0, ap (p.stock i) last) in
    let none = (f.backlog i t low high t_low t_high).1 last in
    record { held = omega (arith, balance, end, stock, none); owed = omega (arith, balance, end, stock, none) })
    (λ before.
    let end = end_later a t before in
    record { held = omega (arith, balance, end); owed = omega (arith, balance, end) })
    (cases_eq t m.periods)

served_last : (m : Problem) (p : Plan) → IsUncoupled m → IsFeasible m p → 1 ≤ m.periods → (i : ℕ) → 1 ≤ i → i ≤ item_count m → needed_to (asked_of m i) m.periods ≤ sum_to m.periods (p.make i)
served_last m p free f some i low high =
    let T = m.periods in
    let none = (f.backlog i T low high some (omega arith)).1 refl in
    omega (arith, plan_balance m p free f i T low high some (omega arith), end_here (asked_of m i) T refl, (f.end_stock i low high).0, none)

served_in_time : (m : Problem) (p : Plan) → IsUncoupled m → IsFeasible m p → (i t : ℕ) → 1 ≤ i → i ≤ item_count m → 1 ≤ t → t ≤ m.periods → IsNone (item_at m i).backlog_cost → needed_to (asked_of m i) t ≤ sum_to t (p.make i)
served_in_time m p free f i t low high t_low t_high no_backlog =
    omega (arith, (kept m p free f i t low high t_low t_high).owed, (f.backlog i t low high t_low t_high).0 no_backlog)

-- the quantities and setups of an item
abbrev pub choice_of : Plan → ℕ → NetPlan
choice_of p i = record { make = p.make i; setup = p.setup i }

pub is_net_plan : (m : Problem) (p : Plan) → IsUncoupled m → IsFeasible m p → 1 ≤ m.periods → (i : ℕ) → 1 ≤ i → i ≤ item_count m → (s : Single) → IsSingleOf m i s → IsNetPlan s (choice_of p i)
is_net_plan m p free f some i low high s single = record {
  setup = λ t t_low t_high. f.setup i t low high t_low (omega (arith, t_high, single.periods));
  made = λ t t_low t_high. f.made i t low high t_low (omega (arith, t_high, single.periods));
  served = omega (arith, net_of_single m i s single some m.periods (omega arith), served_last m p free f some i low high, ap (λ n. sum_to n (net_demand s)) single.periods, ap (λ n. sum_to n (p.make i)) single.periods);
  in_time = λ none t t_low t_high.
      let h : t ≤ m.periods = omega (arith, t_high, single.periods) in
      omega (arith, net_of_single m i s single some t h, served_in_time m p free f i t low high t_low h (subst IsNone single.back none));
}

-- a period of a plan costs at least what its net plan and what is left cost
cost_in : (m : Problem) (p : Plan) → IsUncoupled m → IsFeasible m p → 1 ≤ m.periods → (i : ℕ) → 1 ≤ i → i ≤ item_count m → (s : Single) → IsSingleOf m i s → (t : ℕ) → 1 ≤ t → t ≤ m.periods → net_cost_at s (choice_of p i) t + hold_cost m i t * left_after (asked_of m i) t ≤ cost_at m p i t
cost_in m p free f some i low high s single t t_low t_high =
    let k = kept m p free f i t low high t_low t_high in
    let net = net_of_single m i s single some t t_high in
    let x = sum_to t (p.make i) in
    let over : x - sum_to t (net_demand s) ≡ x - needed_to (asked_of m i) t = omega (arith, net) in
    let short : sum_to t (net_demand s) - x ≡ needed_to (asked_of m i) t - x = omega (arith, net) in
    omega (
      arith,
      ap (λ c. entry c t * p.setup i t) single.setup,
      ap (λ c. entry c t * p.make i t) single.unit,
      ap (λ c. entry c t * (x - sum_to t (net_demand s))) single.hold,
      ap (λ c. backlog_price c t * (sum_to t (net_demand s) - x)) single.back,
      ap (λ n. hold_cost m i t * n) over,
      ap (λ n. backlog_cost m i t * n) short,
      mul-le-mul_left (hold_cost m i t) k.held,
      mul-le-mul_left (backlog_cost m i t) k.owed,
    )

pub costs_more : (m : Problem) (p : Plan) → IsUncoupled m → IsFeasible m p → 1 ≤ m.periods → (i : ℕ) → 1 ≤ i → i ≤ item_count m → (s : Single) → IsSingleOf m i s → net_cost s (choice_of p i) + held_left m i ≤ item_cost m p i
costs_more m p free f some i low high s single =
    let T = m.periods in
    omega (
      arith,
      sum_to-add T (net_cost_at s (choice_of p i)) (λ t. hold_cost m i t * left_after (asked_of m i) t),
      sum_to-le T (λ t. net_cost_at s (choice_of p i) t + hold_cost m i t * left_after (asked_of m i) t) (cost_at m p i) (λ t t_low t_high. cost_in m p free f some i low high s single t t_low t_high),
      ap (λ n. sum_to n (net_cost_at s (choice_of p i))) single.periods,
    )

-- the opening stock leaves room for the largest stock in the end
pub room : (m : Problem) (p : Plan) → IsUncoupled m → IsFeasible m p → 1 ≤ m.periods → (i : ℕ) → 1 ≤ i → i ≤ item_count m → HasRoom m i
room m p free f some i low high =
    let T = m.periods in
    let none = (f.backlog i T low high some (omega arith)).1 refl in
    omega (arith, plan_balance m p free f i T low high some (omega arith), (f.end_stock i low high).1, none)

-- the least stocks and backlogs of a net plan
record IsLeft (m : Problem) (make : Table) (i t : ℕ) : Type 0 where
  stock : least_stock m make i t ≡ left_after (asked_of m i) t + (sum_to t (make i) - needed_to (asked_of m i) t)
  backlog : least_backlog m make i t ≡ needed_to (asked_of m i) t - sum_to t (make i)

left_is : (m : Problem) (make : Table) → IsUncoupled m → (i t : ℕ) → 1 ≤ i → i ≤ item_count m → 1 ≤ t → t ≤ m.periods → sum_to m.periods (make i) ≡ needed_to (asked_of m i) m.periods → IsLeft m make i t
left_is m make free i t i_low i_high low high even =
    let a = asked_of m i in
    let out = plain_outflow m free i make t in
    let all = plain_supply m free i i_low i_high make t in
    ⊎_elim
    (λ last.
    let end = end_here a t last in
    let even_here : sum_to t (make i) ≡ needed_to a t = ap (λ n. sum_to n (make i)) last ∙ even ∙ ap (needed_to a) (sym last) in
    record { stock = omega (arith, out, all, end, even_here); backlog = omega (arith, out, all, end, even_here) })
    (λ before.
    let end = end_later a t before in
    record { stock = omega (arith, out, all, end); backlog = omega (arith, out, all, end) })
    (cases_eq t m.periods)

even_of : (m : Problem) (i : ℕ) (s : Single) (q : NetPlan) → 1 ≤ m.periods → ServesItem m i s q → sum_to m.periods q.make ≡ needed_to (asked_of m i) m.periods
even_of m i s q some serves = ap (λ n. sum_to n q.make) (sym serves.single.periods) ∙ serves.even ∙ ap (λ n. sum_to n (net_demand s)) serves.single.periods ∙ net_of_single m i s serves.single some m.periods (omega arith)

least_cost_in : (m : Problem) (make setup : Table) → IsUncoupled m → 1 ≤ m.periods → (i : ℕ) → 1 ≤ i → i ≤ item_count m → (s : Single) → ServesItem m i s (choice make setup i) → (t : ℕ) → 1 ≤ t → t ≤ m.periods → cost_at m (least_plan m make setup) i t ≡ net_cost_at s (choice make setup i) t + hold_cost m i t * left_after (asked_of m i) t
least_cost_in m make setup free some i i_low i_high s serves t low high =
    let single = serves.single in
    let left = left_is m make free i t i_low i_high low high (even_of m i s (choice make setup i) some serves) in
    let net = net_of_single m i s single some t high in
    let x = sum_to t (make i) in
    let over : x - sum_to t (net_demand s) ≡ x - needed_to (asked_of m i) t = omega (arith, net) in
    let short : sum_to t (net_demand s) - x ≡ needed_to (asked_of m i) t - x = omega (arith, net) in
    omega (
      arith,
      ap (λ c. entry c t * setup i t) single.setup,
      ap (λ c. entry c t * make i t) single.unit,
      ap (λ c. entry c t * (x - sum_to t (net_demand s))) single.hold,
      ap (λ c. backlog_price c t * (sum_to t (net_demand s) - x)) single.back,
      ap (λ n. hold_cost m i t * n) over,
      ap (λ n. backlog_cost m i t * n) short,
      ap (λ n. hold_cost m i t * n) left.stock,
      ap (λ n. backlog_cost m i t * n) left.backlog,
    )

pub least_cost_is : (m : Problem) (make setup : Table) → IsUncoupled m → 1 ≤ m.periods → (i : ℕ) → 1 ≤ i → i ≤ item_count m → (s : Single) → ServesItem m i s (choice make setup i) → item_cost m (least_plan m make setup) i ≡ net_cost s (choice make setup i) + held_left m i
least_cost_is m make setup free some i i_low i_high s serves =
    let T = m.periods in
    omega (
      arith,
      sum_to-add T (net_cost_at s (choice make setup i)) (λ t. hold_cost m i t * left_after (asked_of m i) t),
      sum_to-same T (cost_at m (least_plan m make setup) i) (λ t. net_cost_at s (choice make setup i) t + hold_cost m i t * left_after (asked_of m i) t) (λ t low high. least_cost_in m make setup free some i i_low i_high s serves t low high),
      ap (λ n. sum_to n (net_cost_at s (choice make setup i))) serves.single.periods,
    )

-- no feasible plan costs less than one whose items have net plans of least cost
pub items_floor : (m : Problem) (make setup : Table) (single : ℕ → Single) → IsUncoupled m → 1 ≤ m.periods → EachItem m (λ i. IsBestChoice m i (single i) (choice make setup i)) → IsFloor m (cost m (least_plan m make setup))
items_floor m make setup single free some best p f =
    sum_to-le (item_count m) (item_cost m (least_plan m make setup)) (item_cost m p) (λ i low high.
    let b = best i low high in
    let net = is_net_plan m p free f some i low high (single i) b.serves.single in
    omega (arith, least_cost_is m make setup free some i low high (single i) b.serves, costs_more m p free f some i low high (single i) b.serves.single, b.least (choice_of p i) net))

no_time : (m : Problem) → IsUncoupled m → (p : Plan) (k t : ℕ) → time_used m p k t ≡ 0
no_time m free p k t =
    sum_to-same (item_count m) (λ i. unit_time m i k * p.make i t + setup_time m i k * p.setup i t) (λ _. 0) (λ i low high.
    let uses = free.uses i low high in
    let unit : unit_time m i k ≡ 0 = ap (λ u. sum_by (λ usage. if usage.resource == k then usage.unit else 0) u) uses in
    let setup : setup_time m i k ≡ 0 = ap (λ u. sum_by (λ usage. if usage.resource == k then usage.setup else 0) u) uses in
    omega (arith, ap (λ n. n * p.make i t) unit, ap (λ n. n * p.setup i t) setup)) ∙ sum_to-zero (item_count m)

-- with room in the end, the least plan of net plans is feasible
pub items_feasible : (m : Problem) (make setup : Table) (single : ℕ → Single) → IsUncoupled m → 1 ≤ m.periods → EachItem m (λ i. (item_at m i).end_min ≤ (item_at m i).end_max) → EachItem m (λ i. ServesItem m i (single i) (choice make setup i)) → EachItem m (HasRoom m) → IsFeasible m (least_plan m make setup)
items_feasible m make setup single free some ends serves rooms =
    let T = m.periods in
    let left = λ (i t : ℕ) (low : 1 ≤ i) (high : i ≤ item_count m) (t_low : 1 ≤ t) (t_high : t ≤ T). left_is m make free i t low high t_low t_high (even_of m i (single i) (choice make setup i) some (serves i low high)) in
    record {
      balance = λ i t low high t_low t_high. least_balanced m make setup i t t_low;
      setup = λ i t low high t_low t_high. (serves i low high).plan.setup t t_low (omega (arith, t_high, (serves i low high).single.periods));
      made = λ i t low high t_low t_high. (serves i low high).plan.made t t_low (omega (arith, t_high, (serves i low high).single.periods));
      capacity = λ k t low high t_low t_high. omega (arith, no_time m free (least_plan m make setup) k t);
      end_stock = λ i low high.
          let a = asked_of m i in
          let end = end_here a T refl in
          let here = (left i T low high some (omega arith)).stock in
          let even = even_of m i (single i) (choice make setup i) some (serves i low high) in
          (omega (arith, here, end, even), omega (arith, here, end, even, rooms i low high, ends i low high));
      backlog = λ i t low high t_low t_high.
          let here = left i t low high t_low t_high in
          let sv = serves i low high in
          let a = asked_of m i in (
            λ none. omega (arith, here.backlog, sv.plan.in_time (subst IsNone (sym sv.single.back) none) t t_low (omega (arith, t_high, sv.single.periods)), net_of_single m i (single i) sv.single some t t_high),
            λ last. omega (arith, here.backlog, even_of m i (single i) (choice make setup i) some sv, ap (λ n. sum_to n (make i)) last, ap (needed_to a) last),
          );
      lots = λ i t low high t_low t_high.
          let plain = free.plain i low high in
          (omega (arith, ap (λ n. n * setup i t) plain.min_lot), no_bound (item_at m i).max_lot (λ most. make i t ≤ most) plain.max_lot);
      horizon = λ i t low high t_low t_high late. absurd (omega (arith, late, t_high, (free.plain i low high).lead));
    }

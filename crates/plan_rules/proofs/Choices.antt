-- Plans with given quantities and setups.
use Rattle.std.proofs.Common.{⊎_elim, ◌≤◌, ◌<◌, ◌^◌, ◌+◌, ◌-◌, ℕ, suc, refl, sym, arith}
use Rattle.lot_sizing.specs.declared.limits.TheConstants.{MAX_TOTAL}
use Rattle.lot_sizing.specs.Sums.{sum_to}
use Rattle.lot_sizing.specs.Problem.{Problem, item_at, item_count, demand}
use Rattle.lot_sizing.specs.Plan.{Plan, Table, EachCell, IsFeasible, used_up}
use Rattle.lot_sizing.specs.Least.{HasChoice, least_backlog, least_plan, least_stock}
use Rattle.lot_sizing.proofs.Least.{least_of, least_costs, least_feasible}
use Rattle.lot_sizing.proofs.Sums.{sum_to-front}
use Rattle.lot_sizing.proofs.Lots.{arrived}
use Rattle.lot_sizing.proofs.Totals.{made_at_most}
use Rattle.lot_model.specs.Views.{IsInstance}
use Rattle.lot_sizing.proofs.Same.{SamePlan, feasible_same, cost_same}
use Rattle.plan_rules.specs.Rows.{HasLeast, HasTooLarge, HasNoPlan, IsLeastWith}

-- no feasible plan makes more than 10^12 of an item in all
made_small : (m : Problem) (p : Plan) → IsInstance m → IsFeasible m p → (i : ℕ) → 1 ≤ i → i ≤ item_count m → sum_to m.periods (p.make i) ≤ MAX_TOTAL
made_small m p within f i low high =
    let (rank, ranks) = within.ranked in
    let (total, totals, small) = within.totals in
    omega (arith, made_at_most m p rank total within.limits.some_period f ranks totals (suc (rank i)) i low high (omega arith), small i)

-- a feasible choice has small least stocks and backlogs
least_small : (m : Problem) (make setup : Table) (p : Plan) → IsInstance m → IsFeasible m p → HasChoice m make setup p → (i t : ℕ) → 1 ≤ i → i ≤ item_count m → 1 ≤ t → t ≤ m.periods → (least_stock m make i t < 2 ^ 64) × (least_backlog m make i t < 2 ^ 64)
least_small m make setup p within f choice i t low high t_low t_high =
    let least = least_feasible m make setup p within.limits.some_period f choice in
    let made = made_small m (least_plan m make setup) within least i low high in
    let last = (least.backlog i m.periods low high within.limits.some_period (omega arith)).1 refl in
    let opening = (within.limits.each_item i low high).opening in
    let lead = (item_at m i).lead in
    let front = sum_to-front (t - lead) m.periods (make i) (omega (arith, t_high)) in
    let all_front = sum_to-front (m.periods - lead) m.periods (make i) (omega arith) in
    let so_far = arrived m make i t in
    let in_all = arrived m make i m.periods in
    let out_front = sum_to-front t m.periods (λ u. demand m i u + used_up m make i u) t_high in
    (omega (arith, made, opening, front, so_far), omega (arith, made, opening, last, out_front, all_front, in_all))

-- a least stock or backlog that doesn't fit rules out every plan
pub none_too_large : (m : Problem) (make setup : Table) → IsInstance m → HasTooLarge m make → HasNoPlan m make setup
none_too_large m make setup within (i, t, low, high, t_low, t_high, large) = λ q f choice.
    let small = least_small m make setup q within f choice i t low high t_low t_high in
    ⊎_elim (λ h. omega (arith, h, small.0)) (λ h. omega (arith, h, small.1)) large

-- a plan with the least stocks and backlogs
filled : (m : Problem) (p : Plan) → EachCell m (HasLeast m p.make p.stock p.backlog) → SamePlan m (least_plan m p.make p.setup) p
filled m p has = record {
  make = λ i t low high t_low t_high. refl;
  setup = λ i t low high t_low t_high. refl;
  stock = λ i t low high t_low t_high. sym (has i t low high t_low t_high).0;
  backlog = λ i t low high t_low t_high. sym (has i t low high t_low t_high).1;
}

-- is feasible where any with its quantities and setups is
pub none_infeasible : (m : Problem) (p : Plan) → 1 ≤ m.periods → EachCell m (HasLeast m p.make p.stock p.backlog) → (IsFeasible m p → ⊥) → HasNoPlan m p.make p.setup
none_infeasible m p some has not = λ q f choice. not (feasible_same m (least_plan m p.make p.setup) p some (filled m p has) (least_feasible m p.make p.setup q some f choice))

-- and has the least of each
pub least_with : (m : Problem) (p : Plan) → EachCell m (HasLeast m p.make p.stock p.backlog) → IsLeastWith m p.make p.setup p
least_with m p has = record {
  stock = λ q f choice i t low high t_low t_high. omega (arith, (least_of m p.make p.setup q f choice i t low high t_low t_high).0, (has i t low high t_low t_high).0);
  backlog = λ q f choice i t low high t_low t_high. omega (arith, (least_of m p.make p.setup q f choice i t low high t_low t_high).1, (has i t low high t_low t_high).1);
  spent = λ q f choice. omega (arith, cost_same m (least_plan m p.make p.setup) p (filled m p has), least_costs m p.make p.setup q f choice);
}

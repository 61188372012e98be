-- Each lot of a feasible plan is within the capacities of resources.
use Rattle.std.proofs.Common.{◌≡◌, ◌≤◌, ◌-◌, ⊎_elim, ℕ, zero, suc, ap, arith}
use Rattle.std.proofs.lemmas.Bool.{cases_lt}
use Rattle.std.proofs.lemmas.List.Elements.{All-get_or}
use Rattle.lot_sizing.specs.declared.limits.TheConstants.{MAX_AMOUNT}
use Rattle.lot_sizing.specs.Problem.{IsWithinLimits, Problem, capacity, item_count, resource_at, resource_count}
use Rattle.lot_sizing.specs.Plan.{IsFeasible, Plan}
use Rattle.lot_sizing.specs.Sums.{sum_to}
use Rattle.lot_schedule.specs.Slots.{length_of}

item_within : (n i : ℕ) (f : ℕ → ℕ) → 1 ≤ i → i ≤ n → f i ≤ sum_to n f
item_within zero i f low high = absurd (omega (arith, low, high))
item_within (suc n) i f low high =
    ⊎_elim (λ before. omega (arith, item_within n i f low (omega (arith, before)))) (λ no. let e : i ≡ suc n = omega (arith, no, high) in omega (arith, ap f e)) (cases_lt i (suc n))

pub lots_fit : (m : Problem) (p : Plan) (k t : ℕ) → IsFeasible m p → 1 ≤ k → k ≤ resource_count m → 1 ≤ t → t ≤ m.periods → sum_to (item_count m) (length_of m p k t) ≤ capacity m k t
lots_fit m p k t feasible k_low k_high t_low t_high = feasible.capacity k t k_low k_high t_low t_high

pub lot_fits : (m : Problem) (p : Plan) (k t i : ℕ) → IsFeasible m p → 1 ≤ k → k ≤ resource_count m → 1 ≤ t → t ≤ m.periods → 1 ≤ i → i ≤ item_count m → length_of m p k t i ≤ capacity m k t
lot_fits m p k t i feasible k_low k_high t_low t_high low high =
    omega (arith, item_within (item_count m) i (length_of m p k t) low high, lots_fit m p k t feasible k_low k_high t_low t_high)

pub capacity_small : (m : Problem) → IsWithinLimits m → (k t : ℕ) → 1 ≤ k → k ≤ resource_count m → 1 ≤ t → t ≤ m.periods → capacity m k t ≤ MAX_AMOUNT
capacity_small m within k t k_low k_high t_low t_high =
    let series = (within.each_resource k k_low k_high).capacity in
    All-get_or (λ x. x ≤ MAX_AMOUNT) (resource_at m k).capacity (t - 1) 0 (omega (arith, series.size, t_low, t_high)) series.small

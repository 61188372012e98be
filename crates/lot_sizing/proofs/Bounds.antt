-- How large demands are, and what is used up where no item goes into another.
use Rattle.std.proofs.Common.{◌≡◌, ◌≤◌, ◌-◌, ◌^◌, ◌∙◌, ℕ, refl, arith, []}
use Rattle.lot_sizing.specs.Problem.{Problem, item_at, item_count, demand, per_unit, IsWithinLimits}
use Rattle.lot_sizing.specs.declared.limits.TheConstants.{MAX_AMOUNT}
use Rattle.lot_sizing.specs.Plan.{Table, used_up}
use Rattle.lot_sizing.proofs.Sums.{sum_to-same, sum_to-zero}

-- no item goes into another
abbrev pub HasNoNeeds : Problem → Type 0
HasNoNeeds m = (i : ℕ) → 1 ≤ i → i ≤ item_count m → (item_at m i).needs ≡ []

pub demand_small : (m : Problem) → IsWithinLimits m → (i t : ℕ) → 1 ≤ i → i ≤ item_count m → 1 ≤ t → t ≤ m.periods → demand m i t ≤ MAX_AMOUNT
demand_small m within i t low high t_low t_high =
    let series = (within.each_item i low high).lists.demand in
    series.small (t - 1) 0 (omega (arith, series.size))

none_in : (m : Problem) → HasNoNeeds m → (i j : ℕ) → 1 ≤ j → j ≤ item_count m → per_unit m i j ≡ 0
none_in m free i j low high = rw (free j low high) refl

pub none_used_up : (m : Problem) (make : Table) → HasNoNeeds m → (i t : ℕ) → used_up m make i t ≡ 0
none_used_up m make free i t =
    sum_to-same (item_count m) _ (λ _. 0) (λ j low high. let e : per_unit m i j ≡ 0 = none_in m free i j low high in rw e (omega arith)) ∙ sum_to-zero (item_count m)

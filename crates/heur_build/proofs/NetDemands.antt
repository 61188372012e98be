-- What remains to be made of an item, as it is added up by period.
use Rattle.std.proofs.Common.{◌≡◌, ◌≤◌, ◌+◌, ◌-◌, ◌∙◌, ℕ, ap, arith}
use Rattle.std.specs.Prelude.{if◌then◌else◌, ◌==◌}
use Rattle.lot_sizing.specs.Sums.{sum_to}
use Rattle.lot_sizing.specs.Problem.{Problem, demand, item_at}
use Rattle.lot_sizing.specs.Plan.{Table, used_up}
use Rattle.lot_sizing.specs.Net.{needed_to}
use Rattle.lot_sizing.proofs.Sums.{sum_to_at}
use Rattle.own_plan.specs.OwnPeriod.{asked_with}

-- what is asked for up to a period
pub asked_so_far : (m : Problem) (make : Table) (i t asked d used : ℕ) → 1 ≤ t → asked ≡ sum_to (t - 1) (λ u. demand m i u + used_up m make i u) → d ≡ demand m i t → used ≡ used_up m make i t → asked + (d + used) ≡ sum_to t (λ u. demand m i u + used_up m make i u)
asked_so_far m make i t asked d used low before here taken =
    omega (arith, before, here, taken, sum_to_at t (λ u. demand m i u + used_up m make i u) low)

-- and what must have been made up to it
pub needed_so_far : (m : Problem) (make : Table) (i t asked need : ℕ) → asked ≡ sum_to t (λ u. demand m i u + used_up m make i u) → need ≡ (asked + (if t == m.periods then (item_at m i).end_min else 0)) - (item_at m i).opening → need ≡ needed_to (asked_with m make i) t
needed_so_far m make i t asked need so_far is =
    is ∙ ap (λ s. (s + (if t == m.periods then (item_at m i).end_min else 0)) - (item_at m i).opening) so_far

use Rattle.std.proofs.Common.{◌≤◌, ◌<◌, ℕ}
use Rattle.lot_sizing.specs.Problem.{entry}
use Rattle.quantity_dp.specs.declared.limits.TheConstants.{MAX_PRICE}
use Rattle.reduced_groups.proofs.prices.first_large.Given as goal

abbrev pub invariant-loop-period : goal.invariant-loop-period
invariant-loop-period l = (u : ℕ) → 1 ≤ u → u < l.period → entry l.prices u ≤ MAX_PRICE

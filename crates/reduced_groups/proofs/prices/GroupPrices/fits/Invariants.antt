use Rattle.std.proofs.Common.{◌≤◌, ◌<◌, ℕ}
use Rattle.reduced_groups.specs.Prices.{HasRow}
use Rattle.reduced_groups.proofs.prices.GroupPrices.fits.Given as goal

abbrev pub invariant-loop-item : goal.invariant-loop-item
invariant-loop-item l = (i : ℕ) → 1 ≤ i → i < l.item → HasRow l.instance l.self i

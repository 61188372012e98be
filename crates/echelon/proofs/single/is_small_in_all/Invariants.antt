use Rattle.std.proofs.Common.{◌≡◌, ◌≤◌}
use Rattle.lot_sizing.specs.Sums.{sum_to}
use Rattle.lot_sizing.specs.declared.limits.TheConstants.{MAX_TOTAL}
use Rattle.lot_sizing.specs.Single.{net_demand}
use Rattle.echelon.specs.Views.{single_of_item}
use Rattle.echelon.proofs.single.is_small_in_all.Given as goal

abbrev pub invariant-loop-period : goal.invariant-loop-period
invariant-loop-period l = record {
  sum : l.sum ≡ sum_to l.period (net_demand (single_of_item l.single));
  small : l.sum ≤ MAX_TOTAL;
}

use Rattle.std.proofs.Common.{◌≡◌, ◌≤◌, ◌-◌, ◌*◌}
use Rattle.lot_sizing.specs.declared.limits.TheConstants.{MAX_TOTAL}
use Rattle.lot_sizing.specs.Sums.{sum_from}
use Rattle.lot_sizing.specs.Single.{net_demand, period_of}
use Rattle.echelon.specs.Views.{single_of_item}
use Rattle.uncoupled.proofs.lots.block_lot.Given as goal

abbrev pub invariant-loop-place : goal.invariant-loop-place
invariant-loop-place l =
    let s = single_of_item l.single in
    record {
      sum : l.lot ≡ sum_from l.fn.block.first (l.place - l.fn.block.first) (λ p. net_demand s (period_of s p));
      small : l.lot ≤ (l.place - l.fn.block.first) * MAX_TOTAL;
    }

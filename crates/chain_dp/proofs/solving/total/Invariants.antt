use Rattle.std.proofs.Common.{◌≡◌, ◌≤◌, ◌-◌, ◌*◌, ◌^◌}
use Rattle.lot_sizing.specs.Sums.{sum_to}
use Rattle.lot_sizing.specs.Problem.{entry}
use Rattle.chain_dp.proofs.solving.total.Given as goal

abbrev pub invariant-loop-units : goal.invariant-loop-units
invariant-loop-units l = record {
  sum : l.sum ≡ sum_to l.units-index (entry l.need);
  small : l.sum ≤ l.units-index * (2 ^ 64 - 1);
}

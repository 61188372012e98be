use Rattle.std.proofs.Common.{◌≡◌, take}
use Rattle.lot_sizing.specs.Problem.{item_at}
use Rattle.echelon.proofs.alone.single_of.Given as goal

abbrev pub invariant-loop-demand : goal.invariant-loop-demand
invariant-loop-demand l = l.demands.items ≡ take l.demand-index (item_at l.instance l.item).demand

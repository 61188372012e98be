use Rattle.uncoupled.specs.Floors.{ArePlannedBefore}
use Rattle.uncoupled.proofs.planning.cheapest_lots.Given as goal

abbrev pub invariant-loop-item : goal.invariant-loop-item
invariant-loop-item l = ArePlannedBefore l.instance l.make l.setup l.potentials.items l.item

use Rattle.chain_dp.specs.Tables.{IsPairPlane}
use Rattle.chain_dp.proofs.pairs.pair_plane.Given as goal

abbrev pub invariant-loop-lot : goal.invariant-loop-lot
invariant-loop-lot l = IsPairPlane l.low l.mid l.stretches l.firsts l.lot l.plane.items

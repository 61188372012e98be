use Rattle.chain_dp.specs.Tables.{AreFirsts}
use Rattle.chain_dp.proofs.pairs.pair_firsts.Given as goal

abbrev pub invariant-loop-lot : goal.invariant-loop-lot
invariant-loop-lot l = AreFirsts l.lot l.rows.items

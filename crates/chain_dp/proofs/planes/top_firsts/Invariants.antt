use Rattle.chain_dp.specs.Tables.{AreTopFirsts}
use Rattle.chain_dp.proofs.planes.top_firsts.Given as goal

abbrev pub invariant-loop-lot : goal.invariant-loop-lot
invariant-loop-lot l = AreTopFirsts l.low l.mid l.top l.planes l.to l.lot l.rows.items

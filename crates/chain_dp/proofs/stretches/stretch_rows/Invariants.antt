use Rattle.std.proofs.Common.{◌≡◌, length}
use Rattle.chain_dp.specs.Lists.{AreWide}
use Rattle.chain_dp.specs.Tables.{AreStretches}
use Rattle.chain_dp.proofs.stretches.stretch_rows.Given as goal

abbrev pub invariant-loop-first : goal.invariant-loop-first
invariant-loop-first l = record { size : length l.rows.items ≡ l.first; wide : AreWide (length l.level.asked.items) l.rows.items; rows : AreStretches l.level l.rows.items }

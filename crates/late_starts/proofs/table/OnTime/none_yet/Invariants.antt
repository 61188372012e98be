use Rattle.std.proofs.Common.{map}
use Rattle.must_start.proofs.Tables.{AreZeros}
use Rattle.late_starts.proofs.table.OnTime.none_yet.Given as goal

abbrev pub invariant-loop : goal.invariant-loop
invariant-loop l = AreZeros l.instance l.counter (map (λ v. v.items) l.rows.items)

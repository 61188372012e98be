use Rattle.std.proofs.Common.{◌≡◌, ◌≤◌, replicate}
use Rattle.instance_reader.proofs.reading.copies.Given as goal

abbrev pub invariant-loop-period : goal.invariant-loop-period
invariant-loop-period l = (l.list.items ≡ replicate l._period l.number) × (l._period ≤ l.periods)

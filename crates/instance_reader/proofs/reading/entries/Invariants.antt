use Rattle.std.proofs.Common.{◌≡◌}
use Rattle.instance_reader.specs.Reading.{entry}
use Rattle.instance_reader.proofs.Lists.{IsSoFar}
use Rattle.instance_reader.proofs.reading.entries.Given as goal

abbrev pub invariant-loop-value : goal.invariant-loop-value
invariant-loop-value l = (l.period ≡ l.value-index) × IsSoFar (entry l.place l.key) l.numbers.items l.value-index l.list

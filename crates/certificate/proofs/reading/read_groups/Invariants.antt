use Rattle.std.proofs.Common.{◌≡◌, ◌≤◌, ◌<◌, ◌+◌, ◌^◌, length}
use Rattle.certificate.specs.Values.{group_values}
use Rattle.certificate.specs.Rest.{AreRead}
use Rattle.certificate.proofs.reading.read_groups.Given as goal

abbrev pub invariant-loop : goal.invariant-loop
invariant-loop l = AreRead l.version l.fn.rest l.rest (group_values l.groups.items) × (length l.groups.items ≡ l.counter) × (l.rest.line + length l.rest.text.now ≤ l.fn.rest.line + length l.fn.rest.text.now) × (l.fn.rest.line + length l.fn.rest.text.now < 2 ^ 64)

use Rattle.std.proofs.Common.{◌≡◌, ◌≤◌, ◌<◌, ◌+◌, ◌^◌, length}
use Rattle.certificate.specs.Values.{part_values}
use Rattle.certificate.specs.Rest.{AreRead}
use Rattle.certificate.proofs.reading.read_parts.Given as goal

abbrev pub invariant-loop : goal.invariant-loop
invariant-loop l = AreRead l.version l.fn.rest l.rest (part_values l.parts.items) × (length l.parts.items ≡ l.counter) × (l.rest.line + length l.rest.text.now ≤ l.fn.rest.line + length l.fn.rest.text.now) × (l.fn.rest.line + length l.fn.rest.text.now < 2 ^ 64)

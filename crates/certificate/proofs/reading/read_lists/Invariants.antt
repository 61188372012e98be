use Rattle.std.proofs.Common.{◌≡◌, ◌≤◌, ◌<◌, ◌+◌, ◌^◌, length}
use Rattle.std.specs.Prelude.{map}
use Rattle.cert_lines.specs.Shapes.{list_shape}
use Rattle.certificate.specs.Values.{list_values}
use Rattle.certificate.specs.Rest.{AreRead}
use Rattle.certificate.proofs.reading.read_lists.Given as goal

abbrev pub invariant-loop : goal.invariant-loop
invariant-loop l = AreRead l.version l.fn.rest l.rest (list_values (map list_shape l.lists.items)) × (length l.lists.items ≡ l.counter) × (l.rest.line + length l.rest.text.now ≤ l.fn.rest.line + length l.fn.rest.text.now) × (l.fn.rest.line + length l.fn.rest.text.now < 2 ^ 64)

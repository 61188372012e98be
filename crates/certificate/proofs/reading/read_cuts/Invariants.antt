use Rattle.std.proofs.Common.{◌≡◌, ◌≤◌, ◌<◌, ◌+◌, ◌^◌, length}
use Rattle.std.specs.Prelude.{map}
use Rattle.cert_lines.specs.Shapes.{cut_shape}
use Rattle.certificate.specs.Values.{all_cut_values}
use Rattle.certificate.specs.Rest.{AreRead}
use Rattle.certificate.proofs.reading.read_cuts.Given as goal

abbrev pub invariant-loop : goal.invariant-loop
invariant-loop l = AreRead l.version l.fn.rest l.rest (all_cut_values (map cut_shape l.cuts.items)) × (length l.cuts.items ≡ l.counter) × (l.rest.line + length l.rest.text.now ≤ l.fn.rest.line + length l.fn.rest.text.now) × (l.fn.rest.line + length l.fn.rest.text.now < 2 ^ 64)

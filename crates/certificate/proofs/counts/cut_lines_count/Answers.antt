use Rattle.std.proofs.Common.{ap, arith, length}
use Rattle.std.proofs.lemmas.List.{length-map}
use Rattle.cert_lines.specs.Shapes.{PartLine, cut_parts, cut_shape}
use Rattle.certificate.proofs.counts.cut_lines_count.Goals as goal

pub returns : goal.returns
returns c = omega (arith, ap length c.parts.ensures, length-map (cut_parts (cut_shape c.args.cut.now)) (λ part. PartLine part))

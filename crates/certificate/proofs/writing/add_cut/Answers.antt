use Rattle.std.proofs.Common.{string_bytes}
use Rattle.cert_lines.specs.Shapes.{cut_first, cut_parts, cut_shape}
use Rattle.certificate.specs.Values.{part_values}
use Rattle.certificate.proofs.Joins.{line_joined}
use Rattle.certificate.proofs.writing.add_cut.Goals as goal

pub returns : goal.returns
returns c =
    let s = cut_shape c.args.cut.now in
    rw (c.in_ok-add_parts.ensures, c.in_ok-add_cut_line.ensures, c.parts.ensures) (line_joined (string_bytes c.args.text.now) (cut_first s) (part_values (cut_parts s)))

use Rattle.cert_lines.specs.Line.{IsWritten}
use Rattle.cert_lines.specs.Shapes.{LineShape, line_shape}
use Rattle.cert_lines.proofs.Alike.{unknown}
use Rattle.cert_lines.proofs.line.read_line.Goals as goal

-- a version that lacks the form of the value that the bytes have
pub returns-then-not-is_known-clause-no_form : goal.returns-then-not-is_known-clause-no_form
returns-then-not-is_known-clause-no_form c = λ _ m line.
    let value : LineShape = line_shape c.in-Ok.read in
    let is : IsWritten c.args.line.now value = c.in-Ok.ensures.value in
    unknown c.args.version c.args.line.now value m is.0 is.1.small (λ known. cc (c.if-not-is_known.ensures.1 known)) line

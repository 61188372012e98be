use Rattle.std.proofs.Common.{ap, arith, length, subst, sym}
use Rattle.cert_lines.specs.Forms.{IsLineOf}
use Rattle.cert_lines.specs.Shapes.{line_shape}
use Rattle.cert_lines.proofs.Splits.{words_in}
use Rattle.cert_lines.proofs.Meant.{line_read, line_written}
use Rattle.cert_lines.proofs.Listed.{given, nothing}
use Rattle.cert_lines.proofs.line.read_any.Goals as goal

pub returns-in-Some-clause-value : goal.returns-in-Some-clause-value
returns-in-Some-clause-value c =
    let form = given _ c.in_ok-read.field-0 c.in-Some.read c.in-Some.is c.in_ok-read.ensures.some in
    let (text, small) = line_read c.args.line.now (words_in c.in_ok-words.words.items) (line_shape c.in-Some.read) c.in_ok-words.ensures (subst (λ vs. IsLineOf (words_in vs) (line_shape c.in-Some.read)) c.deref.ensures.value form) in
    (text, record { small = small; short = omega (arith, ap length text, c.if-line-gt-MAX_LINE.false) })

pub returns-clause-no_form : goal.returns-clause-no_form
returns-clause-no_form c = λ _ l is.
    c.in_ok-read.ensures.none (nothing c.in_ok-read.field-0 c.in-None.is) l (subst (λ vs. IsLineOf (words_in vs) l) (sym c.deref.ensures.value) (line_written c.args.line.now (words_in c.in_ok-words.words.items) l c.in_ok-words.ensures is.0 is.1.small))

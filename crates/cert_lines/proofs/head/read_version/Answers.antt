use Rattle.std.proofs.Common.{◌∙◌, arith, codes, decimal, sym}
use Rattle.cert_lines.proofs.Numerals.{same_rest}
use Rattle.cert_lines.proofs.Splits.{same_number}
use Rattle.cert_lines.proofs.head.read_version.Goals as goal

pub returns-then-version-clause-none : goal.returns-then-version-clause-none
returns-then-version-clause-none c = λ _ v is same.
    let (text, most) = c.in-Some.ensures.some in
    let number = same_number v c.in-Some.version (omega (arith, is.1)) (omega (arith, most)) (same_rest (codes "lotcert ") (decimal v) (decimal c.in-Some.version) (sym same ∙ text)) in
    omega (arith, number, is.0, c.if-version.true)

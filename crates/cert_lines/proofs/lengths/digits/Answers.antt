use Rattle.std.proofs.Common.{arith}
use Rattle.std.proofs.lemmas.Fmt.{length-decimal-le_wide}
use Rattle.cert_lines.proofs.Digits.{one_digit, one_more}
use Rattle.cert_lines.proofs.lengths.digits.Goals as goal

pub overflow_add-count : goal.overflow_add-count
overflow_add-count c =
    let most = length-decimal-le_wide 39 c.args.number (omega arith) (omega (arith, c.ranges.number.fits)) (omega (arith, c.ranges.number.fits)) in
    record { fits = omega (arith, most, c.loop-rest.invariant.0) }

pub loop-rest-preserved : goal.loop-rest-preserved
loop-rest-preserved c =
    let more = one_more c.loop-rest.rest c.loop-rest-test.true (omega (arith, c.loop-rest.invariant.1, c.ranges.number.fits)) in
    (omega (arith, more, c.loop-rest.invariant.0), omega (arith, c.loop-rest.invariant.1))

pub returns-clause-value : goal.returns-clause-value
returns-clause-value c = omega (arith, c.loop-rest.invariant.0, one_digit c.loop-rest.rest (omega (arith, c.loop-rest-test.false)))

pub returns-clause-small : goal.returns-clause-small
returns-clause-small c =
    let most = length-decimal-le_wide 39 c.args.number (omega arith) (omega (arith, c.ranges.number.fits)) (omega (arith, c.ranges.number.fits)) in
    omega (arith, most, c.loop-rest.invariant.0, one_digit c.loop-rest.rest (omega (arith, c.loop-rest-test.false)))

use Rattle.std.proofs.Common.{◌+◌, slice_index_or, refl, arith}
use Rattle.std.proofs.lemmas.Int.Digits.{digits_value_more}
use Rattle.std.proofs.lemmas.Str.{digit_value_digit}
use Rattle.std.proofs.lemmas.Str.Parse.{digit_at, digits_value-take-le}
use Rattle.whole_numbers.proofs.digits.value_up_to.Goals as goal
use Rattle.whole_numbers.proofs.digits.value_up_to.Goals.{then-digit-most-via-then-digit-most, then-digit-most-via-else-digit-most+then-number-most}

pub overflow_sub-digit : goal.overflow_sub-digit
overflow_sub-digit c = (digit_at c.args.text.now c.loop-place.place c.requires.digits.1 c.loop-place-test.true).0

pub loop-place-preserved : goal.loop-place-preserved
loop-place-preserved c =
    let byte = slice_index_or c.args.text.now c.loop-place.place 0 in
    let at = digit_at c.args.text.now c.loop-place.place c.requires.digits.1 c.loop-place-test.true in
    let more = digits_value_more 10 c.args.text.now c.loop-place.place c.loop-place-test.true in
    record {
      value = omega (arith, c.loop-place.invariant.value, more, digit_value_digit byte at, at.0);
      most = omega (arith, c.if-digit-most.false, c.if-number-most.false);
    }

pub returns-then-digit-most-clause-too_large : goal.returns-then-digit-most-clause-too_large
returns-then-digit-most-clause-too_large c =
    let byte = slice_index_or c.args.text.now c.loop-place.place 0 in
    let at = digit_at c.args.text.now c.loop-place.place c.requires.digits.1 c.loop-place-test.true in
    let more = digits_value_more 10 c.args.text.now c.loop-place.place c.loop-place-test.true in
    let part = digits_value-take-le 10 c.args.text.now (c.loop-place.place + 1) (omega arith) in (
      refl,
      elim c.then-digit-most.branch [
        | then-digit-most-via-then-digit-most w ↦ omega (arith, c.loop-place.invariant.value, more, part, digit_value_digit byte at, at.0, w.if-digit-most.true)
        | then-digit-most-via-else-digit-most+then-number-most w ↦ omega (arith, c.loop-place.invariant.value, more, part, digit_value_digit byte at, at.0, w.if-digit-most.false, w.if-number-most.true)
      ],
    )

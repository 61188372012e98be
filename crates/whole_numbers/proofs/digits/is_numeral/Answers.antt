use Rattle.std.proofs.Common.{slice_index_or, arith}
use Rattle.std.proofs.lemmas.Int.Digits.{digits_more}
use Rattle.std.proofs.lemmas.Str.{digit_value_digit}
use Rattle.std.proofs.lemmas.Str.Parse.{digit_at}
use Rattle.whole_numbers.proofs.digits.is_numeral.Goals as goal
use Rattle.whole_numbers.proofs.digits.is_numeral.Goals.{then-byte-lt48-via-then-byte-lt48, then-byte-lt48-via-else-byte-lt48+then-byte-gt57}

pub loop-place-preserved : goal.loop-place-preserved
loop-place-preserved c =
    let byte = slice_index_or c.args.text.now c.loop-place.place 0 in
    digits_more 10 c.args.text.now c.loop-place.place c.loop-place-test.true c.loop-place.invariant (omega (arith, digit_value_digit byte (c.if-byte-lt48.false, c.if-byte-gt57.false)))

pub returns-then-byte-lt48 : goal.returns-then-byte-lt48
returns-then-byte-lt48 c = (
  λ no. cc no,
  λ numeral.
      let at = digit_at c.args.text.now c.loop-place.place numeral.1 c.loop-place-test.true in
      elim c.then-byte-lt48.branch [
        | then-byte-lt48-via-then-byte-lt48 w ↦ absurd (omega (arith, at.0, w.if-byte-lt48.true))
        | then-byte-lt48-via-else-byte-lt48+then-byte-gt57 w ↦ absurd (omega (arith, at.1, w.if-byte-gt57.true))
      ],
)

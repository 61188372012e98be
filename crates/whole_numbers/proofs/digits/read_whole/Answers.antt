use Rattle.std.proofs.Common.{rules, sym, subst, arith, IsTrue}
use Rattle.std.specs.Str.Parse.{IsNumeral}
use Rattle.whole_numbers.specs.Digits.{IsWholeText, StartsWithZero}
use Rattle.whole_numbers.proofs.Numerals.{decimal_is_whole, unwritten_of, written_of}
use Rattle.whole_numbers.proofs.digits.read_whole.Goals as goal

pub returns-then-not-is_numeral-clause-unwritten : goal.returns-then-not-is_numeral-clause-unwritten
returns-then-not-is_numeral-clause-unwritten c = λ n small is.
    let whole = decimal_is_whole n (omega (arith, small, c.ranges.most.fits)) in
    cc (subst IsTrue c.if-not-is_numeral.true (c.is_numeral.ensures.1 (subst (IsNumeral 10) (sym is) whole.0.digits)))

pub returns-then-text-eq48-clause-unwritten : goal.returns-then-text-eq48-clause-unwritten
returns-then-text-eq48-clause-unwritten c = λ n small is.
    let zero_first : StartsWithZero c.args.text.now = search rules in
    let whole = decimal_is_whole n (omega (arith, small, c.ranges.most.fits)) in
    whole.0.plain (subst StartsWithZero is zero_first)

pub returns-clause-written : goal.returns-clause-written
returns-clause-written c =
    let whole : IsWholeText c.args.text.now = search rules in
    written_of c.value_up_to.result c.args.text.now c.args.most (omega (arith, c.ranges.most.fits)) whole c.value_up_to.ensures.value c.value_up_to.ensures.most

pub returns-clause-unwritten : goal.returns-clause-unwritten
returns-clause-unwritten c = unwritten_of c.value_up_to.result c.args.text.now c.args.most (omega (arith, c.ranges.most.fits)) c.value_up_to.ensures.too_large

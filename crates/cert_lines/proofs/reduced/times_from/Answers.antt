use Rattle.std.proofs.Common.{◌≡◌, ◌+◌, ◌∙◌, ◌∷◌, ◌++◌, FitsSigned, [], ap, arith, length, of_z, refl, rules, subst, sym, to_z}
use Rattle.std.specs.Prelude.{ℤ}
use Rattle.std.specs.Fmt.{signed_decimal}
use Rattle.std.specs.Int.{w128}
use mir.Facts.{to_z-of_z}
use Rattle.cert_lines.specs.Words.{word_at}
use Rattle.cert_lines.proofs.Splits.{words_in}
use Rattle.cert_lines.proofs.Listed.{AreTimesTo, no_times, times_more}
use Rattle.cert_lines.proofs.reduced.times_from.Goals as goal

pub loop-place-preserved : goal.loop-place-preserved
loop-place-preserved c =
    let ws = words_in c.args.words.now in
    let read = c.loop-place.times.items in
    let x = c.in-Some.number in
    let fits : FitsSigned w128 x = search rules in
    let same : to_z w128 (of_z w128 x) ≡ x = to_z-of_z fits in
    let (text, small) = c.in-Some.ensures.some in
    subst (AreTimesTo ws c.args.from (c.loop-place.place + 1)) (sym (c.in_ok-push-in-Some.ensures.items ∙ ap (λ (z : ℤ). read ++ z ∷ []) same)) (times_more ws c.args.from c.loop-place.place read x text small c.loop-place.invariant)

pub returns-in-None-clause-none : goal.returns-in-None-clause-none
returns-in-None-clause-none c = λ _ times small size stands.
    let ws = words_in c.args.words.now in
    let read = c.loop-place.times.items in
    let at = c.loop-place.invariant.place in
    no_times ws c.args.from (length read) times small stands (omega (arith, at, size, c.loop-place-test.true)) (λ z low is. c.in-None.ensures.none refl z low (subst (λ k. word_at ws k ≡ signed_decimal z) (sym at) is))

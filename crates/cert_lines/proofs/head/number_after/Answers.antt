use Rattle.std.proofs.Common.{◌≡◌, ◌≢◌, ◌++◌, ◌∙◌, ℕ, sym, ap, subst, arith, List, decimal, MatchOption}
use Rattle.std.proofs.lemmas.Bool.Decides.{Decides-eqb}
use Rattle.std.proofs.lemmas.Slice.Eq.{strip_prefix_is}
use Rattle.cert_lines.proofs.Numerals.{no_fault, same_rest, whole_is_decimal}
use Rattle.cert_lines.proofs.head.number_after.Goals as goal

pub returns-in-None-clause-none : goal.returns-in-None-clause-none
returns-in-None-clause-none c = λ _ n small same.
    let cases = strip_prefix_is Decides-eqb c.args.line.now c.args.before.now c.strip_prefix.result c.strip_prefix.ensures.cases in
    let other : (rest : List ℕ) → c.args.line.now ≢ c.args.before.now ++ rest = subst (λ r. MatchOption r ((rest : List ℕ) → c.args.line.now ≢ c.args.before.now ++ rest) (λ x. c.args.line.now ≡ c.args.before.now ++ x.now)) c.in-None.is cases in
    other (decimal n) same

pub returns-in-Ok-clause-some : goal.returns-in-Ok-clause-some
returns-in-Ok-clause-some c =
    let cases = strip_prefix_is Decides-eqb c.args.line.now c.args.before.now c.strip_prefix.result c.strip_prefix.ensures.cases in
    let split : c.args.line.now ≡ c.args.before.now ++ c.in-Some.rest.now = subst (λ r. MatchOption r ((rest : List ℕ) → c.args.line.now ≢ c.args.before.now ++ rest) (λ x. c.args.line.now ≡ c.args.before.now ++ x.now)) c.in-Some.is cases in
    let text = whole_is_decimal c.in-Some.rest.now c.in-Ok.ensures.text (omega (arith, c.in-Ok.ensures.value, c.in-Ok.ensures.most, c.ranges.most.fits)) in
    (split ∙ ap (λ t. c.args.before.now ++ t) (text ∙ ap decimal (sym c.in-Ok.ensures.value)), c.in-Ok.ensures.most)

pub returns-in-Err-clause-none : goal.returns-in-Err-clause-none
returns-in-Err-clause-none c = λ _ n small same.
    let cases = strip_prefix_is Decides-eqb c.args.line.now c.args.before.now c.strip_prefix.result c.strip_prefix.ensures.cases in
    let split : c.args.line.now ≡ c.args.before.now ++ c.in-Some.rest.now = subst (λ r. MatchOption r ((rest : List ℕ) → c.args.line.now ≢ c.args.before.now ++ rest) (λ x. c.args.line.now ≡ c.args.before.now ++ x.now)) c.in-Some.is cases in
    let text = same_rest c.args.before.now c.in-Some.rest.now (decimal n) (sym split ∙ same) in
    no_fault c.in-Err.field-0 c.in-Some.rest.now c.args.most n c.in-Err.ensures.not_digits c.in-Err.ensures.leading_zero c.in-Err.ensures.too_large text small (omega (arith, small, c.ranges.most.fits))

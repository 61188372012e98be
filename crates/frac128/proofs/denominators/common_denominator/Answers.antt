use Rattle.std.proofs.Common.{rules, ◌≡◌, ◌∙◌, pos, sym, subst, refl, arith, FitsSigned, to_z, of_z, ◌*ℤ◌, get_or}
use Rattle.std.specs.Int.{w128}
use mir.Facts.{to_z-of_z}
use Rattle.std.proofs.lemmas.List.{get_or_default, take_all}
use Rattle.rational.specs.Rational.{ℚ, make, whole}
use Rattle.frac128.specs.Limits.{IsSmall}
use Rattle.frac128.specs.Denominators.{IsCommonDenominator}
use Rattle.frac128.proofs.LeastCommon.{common_stays, next_common, none_common, too_large}
use Rattle.frac128.proofs.denominators.common_denominator.Goals as goal

pub loop-fraction-init : goal.loop-fraction-init
loop-fraction-init c = (1, refl, none_common, omega arith)

pub returns-in-None-clause-none : goal.returns-in-None-clause-none
returns-in-None-clause-none c =
    let xs = c.args.fractions.now in
    let k = c.loop-fraction.fraction-index in
    let x : ℚ = c.fraction-item.result in
    let here : x ≡ get_or xs k (whole (pos 0)) = c.fraction-item.is ∙ get_or_default xs k x (whole (pos 0)) c.loop-fraction-test.true in
    let f : FitsSigned w128 c.den.result = search rules in
    ((λ _. too_large xs k (to_z w128 c.loop-fraction.den-bits) (to_z w128 (of_z w128 c.den.result)) x c.loop-fraction-test.true c.loop-fraction.invariant (to_z-of_z f ∙ c.den.ensures.value) here c.in-None.ensures), λ _. refl)

pub loop-fraction-preserved : goal.loop-fraction-preserved
loop-fraction-preserved c =
    let xs = c.args.fractions.now in
    let k = c.loop-fraction.fraction-index in
    let x : ℚ = c.fraction-item.result in
    let here : x ≡ get_or xs k (whole (pos 0)) = c.fraction-item.is ∙ get_or_default xs k x (whole (pos 0)) c.loop-fraction-test.true in
    let f : FitsSigned w128 c.den.result = search rules in
    let g : FitsSigned w128 c.in-Some.next = search rules in
    let den = to_z w128 c.loop-fraction.den-bits in
    let other = to_z w128 (of_z w128 c.den.result) in
    let value : to_z w128 (of_z w128 c.in-Some.next) ≡ den *ℤ (make den other).den = to_z-of_z g ∙ c.in-Some.ensures.1 in
    next_common xs k den other (to_z w128 (of_z w128 c.in-Some.next)) x c.loop-fraction-test.true c.loop-fraction.invariant (to_z-of_z f ∙ c.den.ensures.value) here value (subst IsSmall (sym value) c.in-Some.ensures.0)

pub returns-clause-some : goal.returns-clause-some
returns-clause-some c =
    let xs = c.args.fractions.now in
    subst (λ ys. IsCommonDenominator ys (to_z w128 c.loop-fraction.den-bits)) (take_all c.loop-fraction.fraction-index xs c.loop-fraction-test.false) c.loop-fraction.invariant

pub returns-clause-none : goal.returns-clause-none
returns-clause-none c =
    let xs = c.args.fractions.now in
    let den = to_z w128 c.loop-fraction.den-bits in
    let common : IsCommonDenominator xs den = subst (λ ys. IsCommonDenominator ys den) (take_all c.loop-fraction.fraction-index xs c.loop-fraction-test.false) c.loop-fraction.invariant in
    ((λ e. absurd (search (e, rules))), λ large. absurd (common_stays xs den common large))

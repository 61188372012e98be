use Rattle.std.proofs.Common.{refl, sym, subst, length, rules, FitsSigned, to_z, of_z, IfSome}
use Rattle.std.specs.Int.{w128}
use mir.Facts.{to_z-of_z}
use Rattle.tableau.specs.Outcomes.{number_at}
use Rattle.tableau.specs.Denominators.{AreNumerators, AreWholeMultipliers, HasLarge}
use Rattle.tableau.proofs.LeastCommon.{den_passes, numerator_passes, whole_is, whole_stays}
use Rattle.tableau.proofs.denominators.whole_multipliers.Goals as goal

pub returns-in_default-clause-none : goal.returns-in_default-clause-none
returns-in_default-clause-none c = ((λ _. den_passes c.args.fractions.now (c.in_default.ensures.none.0 refl)), λ _. refl)

pub returns-in_default-2-clause-none : goal.returns-in_default-2-clause-none
returns-in_default-2-clause-none c =
    let xs = c.args.fractions.now in
    let f : FitsSigned w128 c.in-Some.den = search rules in
    let large : HasLarge (length xs) (number_at xs) (to_z w128 (of_z w128 c.in-Some.den)) = c.in_ok-numerators.ensures.none (search rules) in
    ((λ _. numerator_passes xs c.in-Some.den c.in-Some.ensures.some (subst (HasLarge (length xs) (number_at xs)) (to_z-of_z f) large)), λ _. refl)

pub returns-clause-some : goal.returns-clause-some
returns-clause-some c =
    let f : FitsSigned w128 c.in-Some.den = search rules in
    let xs = c.args.fractions.now in
    let list = c.in-Some-2.numerators.items in
    let are : AreNumerators (length xs) (number_at xs) (to_z w128 (of_z w128 c.in-Some.den)) list = subst (λ o. IfSome o (λ l. AreNumerators (length xs) (number_at xs) (to_z w128 (of_z w128 c.in-Some.den)) l.items)) c.in-Some-2.is c.in_ok-numerators.ensures.some in
    subst (λ n. AreWholeMultipliers xs n list) (sym (to_z-of_z f)) (whole_is xs c.in-Some.den list c.in-Some.ensures.some (subst (λ n. AreNumerators (length xs) (number_at xs) n list) (to_z-of_z f) are))

pub returns-clause-none : goal.returns-clause-none
returns-clause-none c =
    let f : FitsSigned w128 c.in-Some.den = search rules in
    let xs = c.args.fractions.now in
    let list = c.in-Some-2.numerators.items in
    let are : AreNumerators (length xs) (number_at xs) (to_z w128 (of_z w128 c.in-Some.den)) list = subst (λ o. IfSome o (λ l. AreNumerators (length xs) (number_at xs) (to_z w128 (of_z w128 c.in-Some.den)) l.items)) c.in-Some-2.is c.in_ok-numerators.ensures.some in
    ((λ e. absurd (search (e, rules))), λ passes. absurd (whole_stays xs c.in-Some.den list (whole_is xs c.in-Some.den list c.in-Some.ensures.some (subst (λ n. AreNumerators (length xs) (number_at xs) n list) (to_z-of_z f) are)) passes))

use mir.Facts.{to_z-of_z}
use mir.Val.{SFits, of_z, to_z}
use mir.Syntax.{w128}
use Rattle.std.proofs.Common.{rules, ◌≡◌, refl, sym, subst}
use Rattle.std.specs.Prelude.{Err, Ok}
use Rattle.reduced_leaf.specs.declared.sums.ReducedSum.TheVariants.{NoChoice, Sum}
use Rattle.reduced_leaf.specs.declared.sums.ReducedFault.TheVariants.{TooLarge}
use Rattle.reduced_leaf.specs.Found.{IsAnswerFrom, IsSumWith, PassesSum}
use Rattle.reduced_leaf.proofs.sums.answer_of.Goals as goal

pub returns-in-NoChoice : goal.returns-in-NoChoice
returns-in-NoChoice c = subst (λ floor. IsAnswerFrom c.args.right floor (Ok NoChoice)) (sym c.in-NoChoice.is) refl

pub returns-in-Some : goal.returns-in-Some
returns-in-Some c =
    let right : to_z w128 (of_z w128 c.args.right) ≡ c.args.right = to_z-of_z c.ranges.right in
    let fits : SFits w128 c.in-Some.sum = search rules in
    let sum : to_z w128 (of_z w128 c.in-Some.sum) ≡ c.in-Some.sum = to_z-of_z fits in
    subst (λ z. IsAnswerFrom c.args.right c.args.floor (Ok (Sum z))) (sym sum)
    (subst (λ floor. IsAnswerFrom c.args.right floor (Ok (Sum c.in-Some.sum))) (sym c.in-Least.is)
    (subst (λ z. IsSumWith z c.in-Least.amount c.in-Some.sum) right c.in-Some.ensures))

pub returns-in-None : goal.returns-in-None
returns-in-None c =
    let right : to_z w128 (of_z w128 c.args.right) ≡ c.args.right = to_z-of_z c.ranges.right in
    subst (λ floor. IsAnswerFrom c.args.right floor (Err TooLarge)) (sym c.in-Least.is)
    (refl, subst (λ z. PassesSum z c.in-Least.amount) right c.in-None.ensures)

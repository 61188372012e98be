use mir.Facts.{to_z-of_z}
use mir.Val.{SFits, of_z, to_z}
use mir.Syntax.{w128}
use Rattle.std.proofs.Common.{rules, ◌≡◌, ◌∙◌, subst}
use Rattle.reduced_leaf.specs.Found.{IsAnswerFrom}
use Rattle.reduced_leaf.proofs.Answering.{answer_found, fault_found, stop_found}
use Rattle.reduced_leaf.proofs.sums.sum_apart.Goals as goal

pub returns-in-Ok-clause-answer : goal.returns-in-Ok-clause-answer
returns-in-Ok-clause-answer c =
    let (rank, ranks) = c.an_instance_breaks_no_rule.ensures.ranked in
    let fits : SFits w128 c.right.result = search rules in
    let right : to_z w128 (of_z w128 c.right.result) ≡ c.right.result = to_z-of_z fits in
    answer_found c.args.instance.now rank c.args.sums.now c.args.den c.args.groups.now c.known_exists.ensures ranks c.requires.costs c.requires.apart
    c.in-Ok.floor c.answer_of.result c.in-Ok.ensures.floor c.in-Ok.ensures.within c.in-Ok.ensures.charged
    (subst (λ z. IsAnswerFrom z c.in-Ok.floor c.answer_of.result) (right ∙ c.right.ensures) c.answer_of.ensures)

pub returns-in-Ok-clause-fault : goal.returns-in-Ok-clause-fault
returns-in-Ok-clause-fault c =
    let (rank, ranks) = c.an_instance_breaks_no_rule.ensures.ranked in
    let fits : SFits w128 c.right.result = search rules in
    let right : to_z w128 (of_z w128 c.right.result) ≡ c.right.result = to_z-of_z fits in
    fault_found c.args.instance.now rank c.args.sums.now c.args.den c.args.groups.now c.known_exists.ensures ranks c.requires.costs c.requires.apart
    c.in-Ok.floor c.answer_of.result c.in-Ok.ensures.floor c.in-Ok.ensures.within c.in-Ok.ensures.charged
    (subst (λ z. IsAnswerFrom z c.in-Ok.floor c.answer_of.result) (right ∙ c.right.ensures) c.answer_of.ensures)

pub returns-in-Err-clause-fault : goal.returns-in-Err-clause-fault
returns-in-Err-clause-fault c =
    let (rank, ranks) = c.an_instance_breaks_no_rule.ensures.ranked in
    stop_found c.args.instance.now rank c.args.sums.now c.args.den c.args.groups.now c.known_exists.ensures ranks c.requires.costs c.requires.apart
    c.in-Err.fault c.in-Err.ensures.fault

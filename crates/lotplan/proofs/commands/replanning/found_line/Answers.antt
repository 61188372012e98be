use Rattle.std.proofs.Common.{◌∙◌, ◌++◌, string_bytes, ap}
use Rattle.lotplan.specs.Planning.{plan_line, plan_meant}
use Rattle.lotplan.proofs.Continued.{lines_of}
use Rattle.lotplan.proofs.commands.replanning.found_line.Goals as goal

pub returns : goal.returns
returns c =
    let rest = c.args.rest.now in
    let found = c.args.found.now in
    let answer = plan_meant c.answer_of-answer.result in
    let whole = string_bytes c.in_ok-whole.whole in
    let both = lines_of rest.instance rest.spent found.certificate.claim found.plan found.root found.nodes answer c.answer_of-answer.ensures in
    let text = ap (λ x. x ++ whole) c.in_ok-lines.ensures ∙ (ap (λ y. plan_line answer ++ y) c.in_ok-whole.ensures ∙ both) in
    (answer, c.answer_of-answer.ensures, record { line = c.of.ensures.line ∙ (c.in_ok-format.ensures.ok ∙ text); status = c.of.ensures.status ∙ c.status.ensures })

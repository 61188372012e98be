use Rattle.std.proofs.Common.{◌≡◌, ◌∙◌, true, refl, rules}
use Rattle.std.specs.Result.{is_ok}
use Rattle.plan_rules.specs.Held.{plan_of}
use Rattle.report.specs.Summary.{json_line}
use Rattle.report.proofs.Floats.{no_float}
use Rattle.report.proofs.Texts.{text_is}
use Rattle.report.proofs.summing.summary.Goals as goal

pub returns : goal.returns
returns c =
    let m = c.args.instance.now in
    let p = plan_of c.args.plan.now in
    let good : is_ok c.push.result ≡ true = search rules in
    let items = rw good at c.push.ensures.items in
    let text = rw c.in_ok-summary_value.ensures.value at c.in_ok-text.ensures.text in
    let line : c.push.new.self.items ≡ json_line m p = items ∙ rw (text (no_float m p)) refl in
    record { text = line ∙ text_is m p c.in_ok-summary_value.ensures.instance.limits; json = line }

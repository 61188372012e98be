use Rattle.std.proofs.Common.{◌∙◌}
use Rattle.plan_rules.specs.Held.{plan_of}
use Rattle.plan_page.proofs.Sums.{totals_sum}
use Rattle.plan_page.proofs.totals.plan_cost.Goals as goal

pub returns-clause-value : goal.returns-clause-value
returns-clause-value c =
    let m = c.args.instance.now in
    let p = plan_of c.args.plan.now in
    let parts = c.plan_parts-parts.ensures.parts in
    rw (parts.unit, parts.setup, parts.hold, parts.backlog) (totals_sum m p ∙ c.parts_add_up.ensures m p)

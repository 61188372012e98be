use Rattle.std.proofs.Common.{refl}
use Rattle.plan_report.specs.Tables.{cost_line, plan_cost_line}
use Rattle.plan_report.proofs.tables.add_cost.Goals as goal

pub returns : goal.returns
unfolding cost_line plan_cost_line
returns c = rw (c.in_ok-write.ensures.bytes, c.plan_cost-total.ensures.value, c.part_total-setups.ensures.value, c.part_total-making.ensures.value, c.part_total-holding.ensures.value, c.part_total-backlog.ensures.value) refl

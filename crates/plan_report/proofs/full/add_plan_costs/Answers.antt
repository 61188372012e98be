use Rattle.std.proofs.Common.{refl}
use Rattle.plan_report.specs.Full.{plan_costs}
use Rattle.plan_report.proofs.full.add_plan_costs.Goals as goal

pub returns : goal.returns
unfolding plan_costs
returns c = rw (c.in_ok-add_costs.ensures, c.plan_cost-total.ensures.value, c.part_total-backlog.ensures.value, c.part_total-holding.ensures.value, c.part_total-making.ensures.value, c.part_total-setups.ensures.value) refl

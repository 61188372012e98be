use Rattle.std.proofs.Common.{refl}
use Rattle.plan_report.specs.Full.{item_costs}
use Rattle.plan_report.proofs.full.add_item_costs.Goals as goal

pub returns : goal.returns
unfolding item_costs
returns c = rw (c.in_ok-add_costs.ensures, c.item_cost-total.ensures.value, c.part_of-backlog.ensures.value, c.part_of-holding.ensures.value, c.part_of-making.ensures.value, c.part_of-setups.ensures.value) refl

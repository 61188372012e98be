use Rattle.std.proofs.Common.{refl}
use Rattle.plan_page.specs.Costs.{item_costs}
use Rattle.plan_page.proofs.costs.add_item.Goals as goal

pub returns : goal.returns
unfolding item_costs
returns c = rw (c.in_ok-add_cost_row.ensures, c.item_name-name.ensures.value, c.item_parts-parts.ensures.parts.setup, c.item_parts-parts.ensures.parts.unit, c.item_parts-parts.ensures.parts.hold, c.item_parts-parts.ensures.parts.backlog) refl

use Rattle.std.proofs.Common.{append_assoc}
use Rattle.plan_page.specs.Items.{item_text}
use Rattle.plan_page.proofs.items.add_item.Goals as goal

pub returns : goal.returns
unfolding item_text
returns c = rw (c.in_ok-push_str.ensures.bytes, c.in_ok-add_table.ensures, c.in_ok-add_chart.ensures, c.in_ok-add_costs.ensures, c.in_ok-add_lead.ensures, c.in_ok-add_amounts.ensures, c.in_ok-add_head.ensures, c.item_amounts-amounts.ensures.demand, c.item_amounts-amounts.ensures.used, c.item_amounts-amounts.ensures.made, c.item_amounts-amounts.ensures.setups, c.opening-opening.ensures.value, c.lead-lead.ensures.value, c.item_parts-parts.ensures.parts.setup, c.item_parts-parts.ensures.parts.unit, c.item_parts-parts.ensures.parts.hold, c.item_parts-parts.ensures.parts.backlog, c.item_chart-chart.ensures) (simp append_assoc)

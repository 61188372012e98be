use Rattle.std.proofs.Common.{append_assoc}
use Rattle.plan_page.specs.Costs.{costs_text}
use Rattle.plan_page.proofs.costs.add_costs.Goals as goal

pub returns : goal.returns
unfolding costs_text
returns c = rw (c.in_ok-push_str-2.ensures.bytes, c.in_ok-add_items.ensures, c.in_ok-add_part_rows.ensures, c.in_ok-add_bar.ensures, c.in_ok-push_str.ensures.bytes, c.plan_parts-parts.ensures.parts.setup, c.plan_parts-parts.ensures.parts.unit, c.plan_parts-parts.ensures.parts.hold, c.plan_parts-parts.ensures.parts.backlog, c.plan_cost-whole.ensures.value) (simp append_assoc)

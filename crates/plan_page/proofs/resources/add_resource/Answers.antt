use Rattle.std.proofs.Common.{append_assoc}
use Rattle.plan_page.specs.Resources.{resource_text}
use Rattle.plan_page.proofs.resources.add_resource.Goals as goal

pub returns : goal.returns
unfolding resource_text
returns c = rw (c.in_ok-push_str.ensures.bytes, c.in_ok-add_load_table.ensures, c.in_ok-add_legend.ensures, c.in_ok-add_chart.ensures, c.in_ok-add_load.ensures, c.in_ok-add_head.ensures, c.resource_load-load.ensures.load.used, c.resource_load-load.ensures.load.capacity, c.resource_chart-chart.ensures) (simp append_assoc)

use Rattle.std.proofs.Common.{append_assoc}
use Rattle.plan_page.specs.Resources.{load_chart}
use Rattle.plan_page.proofs.resources.add_chart.Goals as goal

pub returns : goal.returns
unfolding load_chart
returns c = rw (c.in_ok-close_chart.ensures, c.in_ok-add_capacity_line.ensures, c.in_ok-add_periods.ensures, c.in_ok-open_chart.ensures) (simp append_assoc)

use Rattle.std.proofs.Common.{append_assoc}
use Rattle.plan_page.specs.Items.{item_chart_text}
use Rattle.plan_page.proofs.items.add_chart.Goals as goal

pub returns : goal.returns
unfolding item_chart_text
returns c = rw (c.in_ok-close_chart.ensures, c.in_ok-add_stock_line.ensures, c.in_ok-add_periods.ensures, c.in_ok-open_chart.ensures) (simp append_assoc)

use Rattle.std.proofs.Common.{refl}
use Rattle.plan_page.specs.Marks.{chart_start}
use Rattle.plan_page.proofs.marks.open_chart.Goals as goal

pub returns : goal.returns
unfolding chart_start
returns c = rw (c.in_ok-write.ensures.bytes, c.width_of-width.ensures, c.foot.ensures.value) refl

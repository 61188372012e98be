use Rattle.std.proofs.Common.{refl}
use Rattle.plan_page.specs.Costs.{cost_mark}
use Rattle.plan_page.proofs.costs.add_mark.Goals as goal

pub returns : goal.returns
unfolding cost_mark
returns c = rw (c.in_ok-write.ensures.bytes, c.saturating_sub-width.ensures, c.shown_width.ensures, c.shown_width-x.ensures) refl

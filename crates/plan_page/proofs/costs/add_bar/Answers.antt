use Rattle.std.proofs.Common.{append_assoc}
use Rattle.plan_page.specs.Costs.{cost_bar}
use Rattle.plan_page.proofs.costs.add_bar.Goals as goal

pub returns : goal.returns
unfolding cost_bar
returns c = rw (c.in_ok-push_str-2.ensures.bytes, c.in_ok-add_mark-4.ensures, c.in_ok-add_mark-3.ensures, c.in_ok-add_mark-2.ensures, c.in_ok-add_mark.ensures, c.in_ok-push_str.ensures.bytes) (simp append_assoc)

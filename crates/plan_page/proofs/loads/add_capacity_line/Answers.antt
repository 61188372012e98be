use Rattle.std.proofs.Common.{append_assoc}
use Rattle.plan_page.specs.Loads.{capacity_line}
use Rattle.plan_page.proofs.loads.add_capacity_line.Goals as goal

pub returns : goal.returns
unfolding capacity_line
returns c = rw (c.in_ok-push_str.ensures.bytes, c.in_ok-add_steps.ensures, c.in_ok-add_first.ensures, c.capacity.ensures.value) (simp append_assoc)

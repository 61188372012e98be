use Rattle.std.proofs.Common.{append_assoc}
use Rattle.plan_page.specs.Framing.{contents}
use Rattle.plan_page.proofs.framing.add_contents.Goals as goal

pub returns : goal.returns
unfolding contents
returns c = rw (c.in_ok-push_str-3.ensures.bytes, c.in_ok-add_items.ensures, c.in_ok-push_str-2.ensures.bytes, c.in_ok-add_resources.ensures, c.in_ok-push_str.ensures.bytes) (simp append_assoc)

use Rattle.std.proofs.Common.{append_assoc}
use Rattle.plan_report.specs.Full.{full_text}
use Rattle.plan_report.proofs.full.add_line.Goals as goal

pub returns : goal.returns
unfolding full_text
returns c = rw (c.in_ok-push_str-3.ensures.bytes, c.in_ok-add_resources.ensures, c.in_ok-write.ensures.bytes, c.in_ok-add_items.ensures, c.in_ok-push_str-2.ensures.bytes, c.in_ok-add_plan_costs.ensures, c.in_ok-push_str.ensures.bytes, c.periods-periods.ensures.value) (simp append_assoc)

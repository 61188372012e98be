use Rattle.std.proofs.Common.{append_assoc}
use Rattle.plan_report.specs.Numbers.{named_list}
use Rattle.plan_report.proofs.numbers.add_named_list.Goals as goal

pub returns : goal.returns
unfolding named_list
returns c = rw (c.in_ok-push_str.ensures.bytes, c.in_ok-add_entries.ensures, c.in_ok-write.ensures.bytes, c.key_of-key.ensures) (simp append_assoc)

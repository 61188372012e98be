use Rattle.std.proofs.Common.{append_assoc}
use Rattle.plan_report.specs.Full.{item_object}
use Rattle.plan_report.proofs.full.add_item.Goals as goal

pub returns : goal.returns
unfolding item_object
returns c = rw (c.in_ok-push_str-5.ensures.bytes, c.in_ok-add_named_list-4.ensures, c.in_ok-push_str-4.ensures.bytes, c.in_ok-add_named_list-3.ensures, c.in_ok-add_name.ensures, c.in_ok-add_named_list-2.ensures, c.in_ok-push_str-3.ensures.bytes, c.in_ok-add_item_costs.ensures, c.in_ok-push_str-2.ensures.bytes, c.in_ok-add_named_list.ensures, c.in_ok-push_str.ensures.bytes, c.item_name-name.ensures.value) (simp append_assoc)

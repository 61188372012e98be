use Rattle.std.proofs.Common.{append_assoc}
use Rattle.plan_report.specs.Full.{item_entry}
use Rattle.plan_report.proofs.full.add_item_entry.Goals as goal

pub returns : goal.returns
unfolding item_entry
returns c = rw (c.in_ok-add_item.ensures, c.in_ok-add_comma.ensures) (simp append_assoc)

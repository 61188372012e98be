use Rattle.std.proofs.Common.{append_assoc}
use Rattle.plan_report.specs.Full.{resource_entry}
use Rattle.plan_report.proofs.full.add_resource_entry.Goals as goal

pub returns : goal.returns
unfolding resource_entry
returns c = rw (c.in_ok-add_resource.ensures, c.in_ok-add_comma.ensures) (simp append_assoc)

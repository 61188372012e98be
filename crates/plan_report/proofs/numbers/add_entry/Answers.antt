use Rattle.std.proofs.Common.{append_assoc}
use Rattle.plan_report.proofs.numbers.add_entry.Goals as goal

pub returns : goal.returns
returns c = rw (c.in_ok-add_quantity.ensures, c.in_ok-add_comma.ensures) (simp append_assoc)

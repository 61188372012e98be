use Rattle.plan_report.proofs.Sums.{item_parts, plan_parts}
use Rattle.plan_report.proofs.laws.parts_add_up.Goals as goal

pub returns : goal.returns
returns c = record { item = item_parts; plan = plan_parts }

use Rattle.plan_report.proofs.Shares.{are_shares}
use Rattle.plan_report.proofs.laws.loads_are_shares.Goals as goal

pub returns : goal.returns
returns c = are_shares

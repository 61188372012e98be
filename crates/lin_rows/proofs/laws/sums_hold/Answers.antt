use Rattle.lin_rows.proofs.Combined.{sums_hold_at}
use Rattle.lin_rows.proofs.laws.sums_hold.Goals as goal

pub returns : goal.returns
returns c = sums_hold_at

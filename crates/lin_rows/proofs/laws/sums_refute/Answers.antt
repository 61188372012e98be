use Rattle.lin_rows.proofs.Bounding.{sums_refute_at}
use Rattle.lin_rows.proofs.laws.sums_refute.Goals as goal

pub returns : goal.returns
returns c = sums_refute_at

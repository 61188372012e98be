use Rattle.lin_rows.proofs.Holding.{row_holds}
use Rattle.lin_rows.proofs.laws.base_rows_hold.Goals as goal

pub returns : goal.returns
returns c = λ m rank total some ranks totals p f name has. row_holds m p total name f some (c.totals_are_bounded.ensures m rank total some ranks totals p f) has

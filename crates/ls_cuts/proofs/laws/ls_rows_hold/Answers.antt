use Rattle.echelon.specs.Views.{asked_of_echelon}
use Rattle.lin_rows.specs.Columns.{value_in}
use Rattle.echelon_rows.specs.Rows.{echelon_in, trajectory_at}
use Rattle.ls_cuts.proofs.Sides.{ls_row_holds}
use Rattle.ls_cuts.proofs.laws.ls_rows_hold.Goals as goal

pub returns : goal.returns
returns c = λ e m weight i of p plan l chosen low high.
    let way = c.echelons_go.ensures e m weight i of p plan in
    ls_row_holds (echelon_in e) (value_in p) l chosen low (c.ls_holds.ensures (asked_of_echelon e) e.backlogged (trajectory_at (echelon_in e) (value_in p)) way l chosen low high)

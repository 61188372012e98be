use Rattle.echelon_rows.specs.Rows.{echelon_in}
use Rattle.echelon_rows.proofs.Shapes.{small_echelon}
use Rattle.ls_cuts.proofs.Shapes.{ls_exist, ls_rise}
use Rattle.ls_cuts.proofs.laws.ls_rows_are_rows.Goals as goal

pub returns : goal.returns
returns c = λ e within l chosen high. (ls_rise (echelon_in e) (small_echelon e within) l chosen high, ls_exist e l chosen high)

use Rattle.echelon_rows.proofs.CostSums.{cost_row_holds}
use Rattle.echelon_rows.proofs.laws.cost_rows_hold.Goals as goal

pub returns : goal.returns
returns c = λ e v is times setup unit hold back right h. cost_row_holds e v is times setup unit hold back right h

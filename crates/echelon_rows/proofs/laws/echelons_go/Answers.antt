use Rattle.echelon_rows.proofs.Ways.{echelon_goes}
use Rattle.echelon_rows.proofs.laws.echelons_go.Goals as goal

pub returns : goal.returns
returns c = λ e m weight i of p plan. echelon_goes m weight i e of p plan

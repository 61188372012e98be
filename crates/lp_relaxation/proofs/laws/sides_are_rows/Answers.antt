use Rattle.lp_relaxation.proofs.Rising.{sides_are_rows}
use Rattle.lp_relaxation.proofs.laws.sides_are_rows.Goals as goal

pub returns : goal.returns
returns c = sides_are_rows

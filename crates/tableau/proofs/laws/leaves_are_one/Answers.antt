use Rattle.tableau.proofs.LeastCommon.{leaves_are_one}
use Rattle.tableau.proofs.laws.leaves_are_one.Goals as goal

pub returns : goal.returns
returns c = leaves_are_one

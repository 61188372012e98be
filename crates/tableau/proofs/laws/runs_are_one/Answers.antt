use Rattle.tableau.proofs.Single.{runs_alike}
use Rattle.tableau.proofs.laws.runs_are_one.Goals as goal

pub returns : goal.returns
returns c = runs_alike

use Rattle.tableau.proofs.Duality.{prove_all}
use Rattle.tableau.proofs.laws.outcomes_prove.Goals as goal

pub returns : goal.returns
returns c = prove_all

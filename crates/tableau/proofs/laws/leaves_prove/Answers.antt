use Rattle.tableau.proofs.Wholes.{prove}
use Rattle.tableau.proofs.laws.leaves_prove.Goals as goal

pub returns : goal.returns
returns c = prove

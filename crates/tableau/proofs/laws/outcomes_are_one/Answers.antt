use Rattle.tableau.proofs.Single.{outcome_one}
use Rattle.tableau.proofs.laws.outcomes_are_one.Goals as goal

pub returns : goal.returns
returns c = outcome_one

use Rattle.tableau.proofs.Small.{never_refused}
use Rattle.tableau.proofs.laws.small_numbers_fit.Goals as goal

pub returns : goal.returns
returns c = never_refused

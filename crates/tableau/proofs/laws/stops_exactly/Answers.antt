use Rattle.tableau.proofs.Single.{stops}
use Rattle.tableau.proofs.laws.stops_exactly.Goals as goal

pub returns : goal.returns
returns c = stops

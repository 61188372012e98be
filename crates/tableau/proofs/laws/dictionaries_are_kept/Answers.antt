use Rattle.tableau.proofs.Keeps.{kept}
use Rattle.tableau.proofs.laws.dictionaries_are_kept.Goals as goal

pub returns : goal.returns
returns c = kept

use Rattle.ls_cuts.proofs.Separating.{separates}
use Rattle.ls_cuts.proofs.laws.lesser_separates.Goals as goal

pub returns : goal.returns
returns c = λ e x l chosen low is. separates e x l chosen low is

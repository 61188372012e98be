use Rattle.lp_relaxation.proofs.Growing.{round_more}
use Rattle.lp_relaxation.proofs.laws.rounds_grow.Goals as goal

pub returns : goal.returns
returns c = λ m total rows p list r unequal is. round_more m total rows r p list unequal is

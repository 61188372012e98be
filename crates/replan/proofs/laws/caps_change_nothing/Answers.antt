use Rattle.replan.proofs.Caps.{means_back, means_there}
use Rattle.replan.proofs.laws.caps_change_nothing.Goals as goal

pub returns : goal.returns
returns c = λ most m r more. (means_there most m r more, means_back most m r more)

use Rattle.lp_relaxation.proofs.Listing.{rounds_are_few}
use Rattle.lp_relaxation.proofs.laws.rounds_are_few.Goals as goal

pub returns : goal.returns
returns c = rounds_are_few

use Rattle.lp_relaxation.proofs.Closing.{rounds_refute}
use Rattle.lp_relaxation.proofs.laws.rounds_refute.Goals as goal

pub returns : goal.returns
returns c = rounds_refute c.empty_is_said.ensures c.cuts_hold.ensures c.relaxations_are_one.ensures.empty

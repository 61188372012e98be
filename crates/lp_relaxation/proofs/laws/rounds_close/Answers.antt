use Rattle.lp_relaxation.proofs.Closing.{rounds_close}
use Rattle.lp_relaxation.proofs.laws.rounds_close.Goals as goal

pub returns : goal.returns
returns c = rounds_close c.least_is_said.ensures c.cuts_hold.ensures c.points_have_fractions.ensures c.echelon_rows_are_one.ensures c.relaxations_are_one.ensures.closes

use Rattle.lp_relaxation.proofs.Example.{closes, has_cheapest}
use Rattle.lp_relaxation.proofs.values.worked_is_closed.Goals as goal

pub returns : goal.returns
returns c = record { cheapest = has_cheapest; value = closes }

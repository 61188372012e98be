use Rattle.existence.proofs.Accepted.{accepted}
use Rattle.existence.proofs.accepted_exactly.Goals as goal

pub returns : goal.returns
returns c = accepted (record { totals = c.totals_exist.ensures.totals; weights = c.totals_exist.ensures.weights; something = c.a_model_means_something.ensures })

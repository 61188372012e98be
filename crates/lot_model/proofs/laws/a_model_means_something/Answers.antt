use Rattle.lot_model.proofs.Existence.{means_some}
use Rattle.lot_model.proofs.laws.a_model_means_something.Goals as goal

pub returns : goal.returns
returns c = means_some

use Rattle.lot_model.proofs.Meanings.{means_one}
use Rattle.lot_model.proofs.laws.a_model_means_one_thing.Goals as goal

pub returns : goal.returns
returns c = means_one

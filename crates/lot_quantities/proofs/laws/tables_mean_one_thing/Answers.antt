use Rattle.lot_quantities.proofs.Meanings.{means_one}
use Rattle.lot_quantities.proofs.laws.tables_mean_one_thing.Goals as goal

pub returns : goal.returns
returns c = means_one

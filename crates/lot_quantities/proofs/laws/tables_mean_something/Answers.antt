use Rattle.lot_quantities.proofs.Existing.{tables_some}
use Rattle.lot_quantities.proofs.laws.tables_mean_something.Goals as goal

pub returns : goal.returns
returns c = tables_some

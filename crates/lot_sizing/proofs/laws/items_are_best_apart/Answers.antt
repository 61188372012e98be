use Rattle.lot_sizing.proofs.Reduction.{items_floor}
use Rattle.lot_sizing.proofs.laws.items_are_best_apart.Goals as goal

pub returns : goal.returns
returns c = λ m make setup single free some best. items_floor m make setup single free some best

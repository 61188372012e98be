use Rattle.lot_sizing.proofs.Reduction.{least_cost_is}
use Rattle.lot_sizing.proofs.laws.costs_apart.Goals as goal

pub returns : goal.returns
returns c = λ m make setup single free some serves i low high. least_cost_is m make setup free some i low high (single i) (serves i low high)

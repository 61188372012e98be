use Rattle.uncoupled.proofs.Alone.{its_echelon}
use Rattle.uncoupled.proofs.laws.echelons_are_items.Goals as goal

pub returns : goal.returns
returns c = λ m weight i free are low high. its_echelon m weight i free are low high

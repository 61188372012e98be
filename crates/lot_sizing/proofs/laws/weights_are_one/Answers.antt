use Rattle.lot_sizing.proofs.Ones.{one_weight}
use Rattle.lot_sizing.proofs.laws.weights_are_one.Goals as goal

pub returns : goal.returns
returns c = λ m rank a b ranks is_a is_b i low high k k_low k_high. one_weight m rank a b ranks is_a is_b i k low high k_low k_high

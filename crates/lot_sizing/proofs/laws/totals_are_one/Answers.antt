use Rattle.lot_sizing.proofs.Ones.{one_total}
use Rattle.lot_sizing.proofs.laws.totals_are_one.Goals as goal

pub returns : goal.returns
returns c = λ m rank a b ranks is_a is_b i low high. one_total m rank a b ranks is_a is_b i low high

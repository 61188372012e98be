use Rattle.lot_sizing.proofs.Ones.{one_weight}
use Rattle.echelon.specs.Weights.{weight_in}
use Rattle.echelon.proofs.laws.explosions_are_one.Goals as goal

pub returns : goal.returns
returns c = λ m a b is_a is_b i low high k k_low k_high.
    let (rank, ranks) = is_a.instance.ranked in
    one_weight m rank (weight_in a) (weight_in b) ranks is_a.rows.weights is_b.rows.weights i k low high k_low k_high

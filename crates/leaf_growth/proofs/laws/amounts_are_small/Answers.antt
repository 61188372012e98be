use Rattle.leaf_growth.proofs.Amounts.{amount_small}
use Rattle.leaf_growth.proofs.laws.amounts_are_small.Goals as goal

pub returns : goal.returns
returns c = λ n ranges leaf amount of is. amount_small n ranges leaf amount of is

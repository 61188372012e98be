use Rattle.valid_inequalities.proofs.Prices.{price_holds}
use Rattle.valid_inequalities.proofs.laws.price_holds.Goals as goal

pub returns : goal.returns
returns c = λ a owing f s worth is net. price_holds c.last_potential_is_floor.ensures a owing f s worth is net

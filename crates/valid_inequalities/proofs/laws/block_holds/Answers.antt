use Rattle.valid_inequalities.proofs.Nets.{block_holds}
use Rattle.valid_inequalities.proofs.laws.block_holds.Goals as goal

pub returns : goal.returns
returns c = λ a owing f s g is net pots. block_holds c.last_potential_is_floor.ensures a owing f s g is net pots

use Rattle.lot_sizing.proofs.Potentials.{floor_holds}
use Rattle.lot_sizing.proofs.laws.last_potential_is_floor.Goals as goal

pub returns : goal.returns
returns c = λ s g pots p plan. floor_holds s g pots p plan

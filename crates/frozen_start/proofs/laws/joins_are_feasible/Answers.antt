use Rattle.frozen_start.proofs.Joining.{join_is_feasible}
use Rattle.frozen_start.proofs.laws.joins_are_feasible.Goals as goal

pub returns : goal.returns
returns c = λ m p first rest q leadless r stands h. join_is_feasible m p first rest q leadless r stands h

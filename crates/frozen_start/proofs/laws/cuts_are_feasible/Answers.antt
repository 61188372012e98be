use Rattle.frozen_start.proofs.Joining.{cut_is_feasible}
use Rattle.frozen_start.proofs.laws.cuts_are_feasible.Goals as goal

pub returns : goal.returns
returns c = λ m p first rest q leadless r h a. cut_is_feasible c.least_stocks_are_best.ensures m p first rest q leadless r h a

use Rattle.std.proofs.Common.{sym, subst}
use Rattle.frozen_start.specs.Rests.{IsRestOf}
use Rattle.frozen_start.proofs.Joining.{agreeing_stands, best_goes_on, floor_goes_on, none_agrees}
use Rattle.frozen_start.proofs.OneRest.{is_rest, the_rest}
use Rattle.frozen_start.proofs.laws.rests_decide.Goals as goal

pub returns-clause-starts : goal.returns-clause-starts
returns-clause-starts c = λ m p first leadless inside fails q h a. fails (agreeing_stands c.least_stocks_are_best.ensures m p first q leadless inside h a)

pub returns-clause-none : goal.returns-clause-none
returns-clause-none c = λ m p first rest leadless r none. none_agrees c.least_stocks_are_best.ensures m p first rest leadless r none

pub returns-clause-floors : goal.returns-clause-floors
returns-clause-floors c = λ m p first rest bound leadless r floor. floor_goes_on c.least_stocks_are_best.ensures m p first rest bound leadless r floor

pub returns-clause-best : goal.returns-clause-best
returns-clause-best c = λ m p first rest q leadless r stands best. best_goes_on c.least_stocks_are_best.ensures m p first rest q leadless r stands best

pub returns-clause-one : goal.returns-clause-one
returns-clause-one c = λ m p first rest inside. (the_rest m p first rest, λ is. subst (IsRestOf m p first) (sym is) (is_rest m p first inside))

use Rattle.reduced_groups.proofs.Alike.{apart_same, known_alike, numbers_same, some_lacks_same, work_same}
use Rattle.reduced_groups.proofs.Once.{numbers_lack, one_list}
use Rattle.reduced_groups.proofs.laws.numbers_are_one.Goals as goal

pub returns-clause-one : goal.returns-clause-one
returns-clause-one c = λ m known price shapes a b is_a is_b. one_list m known price shapes a b is_a is_b

pub returns-clause-choices : goal.returns-clause-choices
returns-clause-choices c = λ m known price shapes amounts are lacks. numbers_lack m known price shapes amounts are lacks

pub returns-clause-known : goal.returns-clause-known
returns-clause-known c = λ m rank total more a b ranks totals others is_a is_b. known_alike m rank total more a b c.must_start_holds.ensures.one c.on_time_is_one.ensures.one ranks totals others is_a is_b

pub returns-clause-apart : goal.returns-clause-apart
returns-clause-apart c = λ m a b price other shapes same prices is. apart_same m a b same price other shapes c.charges_cover.ensures.agree prices is

pub returns-clause-both : goal.returns-clause-both
returns-clause-both c = λ m a b price other shapes amounts same prices here are. numbers_same m a b price other same prices shapes amounts here are

pub returns-clause-none : goal.returns-clause-none
returns-clause-none c = λ m a b price other shapes same here lacks. some_lacks_same m a b price other same shapes here lacks

pub returns-clause-work : goal.returns-clause-work
returns-clause-work c = λ m a b price other s same prices here is. work_same m a b price other same prices s here is

use Rattle.late_starts.proofs.Covering.{charges_agree, charges_exist, no_share_charged, one_charge, rows_hold, shares_cost, shares_paid}
use Rattle.late_starts.proofs.laws.charges_cover.Goals as goal

pub returns-clause-cover : goal.returns-clause-cover
returns-clause-cover c = λ m start backlog short share charge are charges. shares_cost m start backlog short share charge are charges

pub returns-clause-paid : goal.returns-clause-paid
returns-clause-paid c = λ m start backlog short share charge price are charges within. shares_paid m start backlog short share charge price are charges within

pub returns-clause-rows : goal.returns-clause-rows
returns-clause-rows c = λ m rank start share charge ranks is charges p f. rows_hold m rank start share charge ranks is charges p f

pub returns-clause-exist : goal.returns-clause-exist
returns-clause-exist c = λ m rank start share ranks. charges_exist m rank start share ranks

pub returns-clause-one : goal.returns-clause-one
returns-clause-one c = λ m rank start share a b ranks is_a is_b i v low high v_low v_high. one_charge m rank start share a b ranks is_a is_b i v low high v_low v_high

pub returns-clause-agree : goal.returns-clause-agree
returns-clause-agree c = λ m a b share charge same are. charges_agree m a b share charge same are

pub returns-clause-none : goal.returns-clause-none
returns-clause-none c = λ m rank start share charge ranks none are i v low high v_low v_high. no_share_charged m rank start share charge ranks none are i v low high v_low v_high

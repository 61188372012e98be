use Rattle.late_starts.proofs.Shortfalls.{one_shortfall, shortfalls_end, shortfalls_exist, starts_hold}
use Rattle.late_starts.proofs.laws.late_starts_hold.Goals as goal

pub returns-clause-holds : goal.returns-clause-holds
returns-clause-holds c = λ m rank start short ranks is p f are i t low high t_low t_high. starts_hold m rank start short ranks is p f are i t low high t_low t_high

pub returns-clause-exist : goal.returns-clause-exist
returns-clause-exist c = λ m rank start backlog ranks. shortfalls_exist m rank start backlog ranks

pub returns-clause-one : goal.returns-clause-one
returns-clause-one c = λ m rank start backlog a b ranks is_a is_b i t low high t_low t_high. one_shortfall m rank start backlog a b ranks is_a is_b i t low high t_low t_high

pub returns-clause-end : goal.returns-clause-end
returns-clause-end c = λ m rank start backlog short ranks are i t low high t_low t_high late. shortfalls_end m rank start backlog short ranks are i t low high t_low t_high late

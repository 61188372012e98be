use Rattle.std.proofs.Common.{suc, arith}
use Rattle.must_start.proofs.Starts.{has_started, level_holds, one_start, start_rises, start_within}
use Rattle.must_start.proofs.Nets.{net_within_start}
use Rattle.must_start.proofs.laws.must_start_holds.Goals as goal

pub returns-clause-holds : goal.returns-clause-holds
returns-clause-holds c = λ m rank start ranks are p f i t low high t_high. has_started m rank start ranks are p f (suc (rank i)) i t low high (omega arith) t_high

pub returns-clause-one : goal.returns-clause-one
returns-clause-one c = λ m rank a b ranks is_a is_b i t low high t_low t_high. one_start m rank a b ranks is_a is_b i t low high t_low t_high

pub returns-clause-rises : goal.returns-clause-rises
returns-clause-rises c = λ m start are i t low high t_low t_high. start_rises m start are i t low high t_low t_high

pub returns-clause-net : goal.returns-clause-net
returns-clause-net c = λ m weight rank start are ranks is i t low high t_low t_high free late. net_within_start m weight rank start are ranks is i t low high t_low t_high free late

pub returns-clause-totals : goal.returns-clause-totals
returns-clause-totals c = λ m rank total start ranks totals are ends i t low high t_low t_high. start_within m rank total start ranks totals are ends (suc (rank i)) i t low high (omega arith) t_low t_high

pub returns-clause-levels : goal.returns-clause-levels
returns-clause-levels c = λ m rank start ranks are p f j i t low high t_low t_high never. level_holds m rank start ranks are p f j i t low high t_low t_high never

use Rattle.std.proofs.Common.{◌-◌, suc, arith}
use Rattle.late_starts.proofs.Starts.{must_within, never_late, on_time_exists, on_time_greatest, on_time_rises, one_on_time, within_below}
use Rattle.late_starts.proofs.laws.on_time_is_one.Goals as goal

pub returns-clause-one : goal.returns-clause-one
returns-clause-one c = λ m rank a b ranks is_a is_b i t low high t_low t_high. one_on_time m rank a b ranks is_a is_b i t low high t_low t_high

pub returns-clause-exist : goal.returns-clause-exist
returns-clause-exist c = λ m rank ranks. on_time_exists m rank ranks

pub returns-clause-rises : goal.returns-clause-rises
returns-clause-rises c = λ m rank start ranks is i t low high t_low t_high. on_time_rises m rank start ranks is i (t - 1) t low high (omega arith) t_high

pub returns-clause-greatest : goal.returns-clause-greatest
returns-clause-greatest c = λ m rank start ranks is i t low high t_low t_high. on_time_greatest m rank start ranks is i t low high t_low t_high

pub returns-clause-must : goal.returns-clause-must
returns-clause-must c = λ m rank must start ranks are is i t low high t_low t_high. must_within m rank must start ranks are is i t low high t_low t_high

pub returns-clause-never : goal.returns-clause-never
returns-clause-never c = λ m rank must start ranks are is none i t low high t_low t_high. never_late m rank must start ranks are is none i t low high t_low t_high

pub returns-clause-totals : goal.returns-clause-totals
returns-clause-totals c = λ m rank total start ranks totals is ends i t low high t_low t_high. within_below m rank total start ranks totals is ends (suc (rank i)) i t low high (omega arith) t_low t_high

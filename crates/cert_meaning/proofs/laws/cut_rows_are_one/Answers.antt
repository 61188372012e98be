use Rattle.std.proofs.Common.{arith, []}
use Rattle.cert_meaning.proofs.Once.{one_rows}
use Rattle.cert_meaning.proofs.laws.cut_rows_are_one.Goals as goal

pub returns : goal.returns
returns c = λ m total weight cuts rows others within is also. one_rows m total weight [] cuts rows others (omega (arith, within.items)) (omega (arith, within.periods)) within.some_period tt is also

use Rattle.std.proofs.Common.{arith}
use Rattle.wagner_whitin.proofs.Bits.{digits_enough, digits_least}
use Rattle.wagner_whitin.proofs.digits.binary_digits.Goals as goal

pub returns-clause-enough : goal.returns-clause-enough
returns-clause-enough c = digits_enough c.args.number (omega arith)

pub returns-clause-no_more : goal.returns-clause-no_more
returns-clause-no_more c d h = digits_least c.args.number d (omega arith) h

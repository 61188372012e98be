use Rattle.std.proofs.Common.{take}
use Rattle.frac128.specs.Denominators.{IsCommonDenominator}
use Rattle.frac128.proofs.denominators.common_denominator.Given as goal

abbrev pub invariant-loop-fraction : goal.invariant-loop-fraction
invariant-loop-fraction l = IsCommonDenominator (take l.fraction-index l.fractions) l.den

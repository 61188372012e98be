-- What is written of a number.
use Rattle.std.specs.Prelude.{List, ℕ, zero, suc, ℤ, pos, ◌++◌, codes}
use Rattle.std.specs.Fmt.{signed_decimal}
use Rattle.rational.specs.Rational.{ℚ}

-- a denominator, which isn't written where it is 1
abbrev pub over_text : ℤ → List ℕ
over_text (pos (suc zero)) = codes ""
over_text d = codes "/" ++ signed_decimal d

-- the numerator, then the denominator
abbrev pub fraction_text : ℚ → List ℕ
fraction_text x = signed_decimal x.num ++ over_text x.den

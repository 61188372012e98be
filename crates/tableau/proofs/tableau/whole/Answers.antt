use Rattle.std.proofs.Common.{FitsSigned, arith}
use Rattle.std.specs.Int.{w128}
use Rattle.std.specs.Option.{SomeIff}
use Rattle.std.proofs.lemmas.Int.{ints, to_z-of_z}
use Rattle.rational.specs.Rational.{whole}
use Rattle.frac128.specs.Limits.{IsSmall}
use Rattle.tableau.proofs.Numbers.{some_is, some_value}
use Rattle.tableau.proofs.tableau.whole.Goals as goal

pub unwrap-requires : goal.unwrap-requires
unwrap-requires c =
    let n = c.args.number in
    let f : FitsSigned w128 n = omega (arith, ints, c.requires.small) in
    let made : SomeIff c.whole.result (IsSmall n) (whole n) = simp to_z-of_z at c.whole.ensures in
    some_is c.whole.result (IsSmall n) (whole n) made c.requires.small

pub returns : goal.returns
returns c =
    let n = c.args.number in
    let f : FitsSigned w128 n = omega (arith, ints, c.requires.small) in
    let made : SomeIff c.whole.result (IsSmall n) (whole n) = simp to_z-of_z at c.whole.ensures in
    some_value c.whole.result (IsSmall n) (whole n) c.unwrap.result made c.unwrap.ensures

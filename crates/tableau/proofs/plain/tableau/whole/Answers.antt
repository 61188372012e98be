use Rattle.std.proofs.Common.{◌≢◌, ◌∙◌, FitsSigned, arith}
use Rattle.std.specs.Int.{w128}
use Rattle.std.specs.Option.{SomeIff}
use Rattle.std.specs.Prelude.{pos}
use Rattle.std.proofs.lemmas.Int.{ints, to_z-of_z}
use Rattle.frac128.specs.Limits.{Fits, quotient_ℚ}
use Rattle.tableau.proofs.Numbers.{some_is, some_value, whole_fits}
use Rattle.tableau.proofs.plain.tableau.whole.Goals as goal

pub unwrap-requires : goal.unwrap-requires
unwrap-requires c =
    let n = c.args.number in
    let f : FitsSigned w128 n = omega (arith, ints, c.requires.small) in
    let new : SomeIff c.new.result ((pos 1 ≢ pos 0) × Fits (quotient_ℚ n (pos 1))) (quotient_ℚ n (pos 1)) = simp to_z-of_z at c.new.ensures in
    some_is c.new.result ((pos 1 ≢ pos 0) × Fits (quotient_ℚ n (pos 1))) (quotient_ℚ n (pos 1)) new (whole_fits n c.requires.small).0

pub returns : goal.returns
returns c =
    let n = c.args.number in
    let f : FitsSigned w128 n = omega (arith, ints, c.requires.small) in
    let new : SomeIff c.new.result ((pos 1 ≢ pos 0) × Fits (quotient_ℚ n (pos 1))) (quotient_ℚ n (pos 1)) = simp to_z-of_z at c.new.ensures in
    some_value c.new.result ((pos 1 ≢ pos 0) × Fits (quotient_ℚ n (pos 1))) (quotient_ℚ n (pos 1)) c.unwrap.result new c.unwrap.ensures ∙ (whole_fits n c.requires.small).1

use Rattle.std.proofs.Common.{◌≢◌, ◌∙◌, FitsSigned, ap, arith, subst}
use Rattle.std.specs.Int.{w128}
use Rattle.std.specs.Option.{SomeIff}
use Rattle.std.specs.Prelude.{pos, neg_ℤ, ◌-ℤ◌}
use Rattle.std.proofs.lemmas.Int.{ints, to_z-of_z}
use Rattle.frac128.specs.Limits.{Fits, IsSmall, quotient_ℚ}
use Rattle.tableau.proofs.Numbers.{minus_is, opposite_fits, some_is, some_value}
use Rattle.tableau.proofs.plain.tableau.opposite.Goals as goal

pub unwrap-requires : goal.unwrap-requires
unwrap-requires c =
    let n = c.num.result in
    let d = c.den.result in
    let m = pos 0 -ℤ n in
    let f : FitsSigned w128 n = omega (arith, ints, c.num.ensures.small) in
    let g : FitsSigned w128 d = omega (arith, ints, c.den.ensures.small) in
    let h : FitsSigned w128 m = omega (arith, ints, c.num.ensures.small) in
    let new : SomeIff c.new.result ((d ≢ pos 0) × Fits (quotient_ℚ m d)) (quotient_ℚ m d) = simp to_z-of_z at c.new.ensures in
    let both = opposite_fits c.args.number m d (minus_is n ∙ ap neg_ℤ c.num.ensures.value) c.den.ensures.value (subst IsSmall c.num.ensures.value c.num.ensures.small) (subst IsSmall c.den.ensures.value c.den.ensures.small) in
    some_is c.new.result ((d ≢ pos 0) × Fits (quotient_ℚ m d)) (quotient_ℚ m d) new both.0

pub returns : goal.returns
returns c =
    let n = c.num.result in
    let d = c.den.result in
    let m = pos 0 -ℤ n in
    let f : FitsSigned w128 n = omega (arith, ints, c.num.ensures.small) in
    let g : FitsSigned w128 d = omega (arith, ints, c.den.ensures.small) in
    let h : FitsSigned w128 m = omega (arith, ints, c.num.ensures.small) in
    let new : SomeIff c.new.result ((d ≢ pos 0) × Fits (quotient_ℚ m d)) (quotient_ℚ m d) = simp to_z-of_z at c.new.ensures in
    let both = opposite_fits c.args.number m d (minus_is n ∙ ap neg_ℤ c.num.ensures.value) c.den.ensures.value (subst IsSmall c.num.ensures.value c.num.ensures.small) (subst IsSmall c.den.ensures.value c.den.ensures.small) in
    some_value c.new.result ((d ≢ pos 0) × Fits (quotient_ℚ m d)) (quotient_ℚ m d) c.unwrap.result new c.unwrap.ensures ∙ both.1

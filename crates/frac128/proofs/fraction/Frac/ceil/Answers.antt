use Rattle.std.proofs.Common.{rules, ◌≡◌, pos, ◌-ℤ◌, neg_ℤ, sym, subst, arith, FitsSigned}
use Rattle.std.specs.Int.{w128, int_div_euclid}
use Rattle.std.proofs.lemmas.Int.{ints, to_z-of_z}
use Rattle.algebra.proofs.Integers as Z
use Rattle.rational.specs.Rational.{IsCeiling, ceil_ℚ}
use Rattle.rational.proofs.Facts.{is_ceiling}
use Rattle.rational.proofs.Rationals.{parts_of}
use Rattle.frac128.proofs.fraction.Frac.ceil.Goals as goal

pub returns : goal.returns
returns c =
    let f1 : FitsSigned w128 c.self.inside.num = search rules in
    let f2 : FitsSigned w128 c.self.inside.den = search rules in
    let f3 : FitsSigned w128 c.div_euclid.result = search rules in
    let a = c.self.inside.num in
    let b = c.self.inside.den in
    let x = parts_of c.args.self a b c.self.view_is c.self.invariant.0 in
    let small = c.self.invariant.1 in
    let f4 : FitsSigned w128 (pos 0 -ℤ a) = omega (arith, ints) in
    let q : c.div_euclid.result ≡ int_div_euclid (pos 0 -ℤ a) b = simp to_z-of_z at c.div_euclid.ensures in
    let f5 : FitsSigned w128 (pos 0 -ℤ c.div_euclid.result) = search rules in
    let e : ceil_ℚ c.args.self ≡ pos 0 -ℤ c.div_euclid.result = rw (x.0, x.1, q, Z.zero_add (neg_ℤ a)) (sym (Z.zero_add (neg_ℤ (int_div_euclid (neg_ℤ a) b)))) in
    simp to_z-of_z (subst (IsCeiling c.args.self) e (is_ceiling c.args.self))

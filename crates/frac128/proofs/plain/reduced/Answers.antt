use Rattle.std.proofs.Common.{rules, ◌≡◌, unsigned_abs, FitsSigned}
use Rattle.std.specs.Prelude.{int_div}
use Rattle.std.specs.Int.{IsGcd, w128}
use Rattle.std.proofs.lemmas.Int.{to_z-of_z}
use Rattle.algebra.proofs.Lowest.{divided_is}
use Rattle.rational.proofs.Rationals.{make-same}
use Rattle.frac128.proofs.Reductions.{gcd_of_shared}
use Rattle.frac128.proofs.Small.{small_quotient}
use Rattle.frac128.proofs.plain.reduced.Goals as goal

pub invariant_of-result : goal.invariant_of-result
invariant_of-result c =
    let fn = c.ranges.num in
    let fd = c.ranges.den in
    let fg : FitsSigned w128 c.common-divisor.result = search rules in
    let fs = c.ranges.shared in
    let shares = c.requires.shares in
    let is : IsGcd (unsigned_abs c.args.num) (unsigned_abs c.args.den) (unsigned_abs c.common-divisor.result) = gcd_of_shared (unsigned_abs c.args.num) (unsigned_abs c.args.den) (unsigned_abs c.args.shared) (unsigned_abs c.common-divisor.result) shares.divides shares.all (simp to_z-of_z at c.common-divisor.ensures.is) in
    let fq : FitsSigned w128 c.quotient.result = search rules in
    let fr : FitsSigned w128 c.quotient-2.result = search rules in
    let q : c.quotient.result ≡ int_div c.args.num c.common-divisor.result = simp to_z-of_z at c.quotient.ensures in
    let low = divided_is c.args.num c.args.den c.common-divisor.result c.quotient.result c.quotient-2.result c.requires.positive c.common-divisor.ensures.positive is q (simp to_z-of_z at c.quotient-2.ensures) in
    simp to_z-of_z (low.0, small_quotient c.args.num c.common-divisor.result c.quotient.result c.common-divisor.ensures.positive q c.requires.small)

pub returns : goal.returns
returns c =
    let fn = c.ranges.num in
    let fd = c.ranges.den in
    let fg : FitsSigned w128 c.common-divisor.result = search rules in
    let fs = c.ranges.shared in
    let shares = c.requires.shares in
    let is : IsGcd (unsigned_abs c.args.num) (unsigned_abs c.args.den) (unsigned_abs c.common-divisor.result) = gcd_of_shared (unsigned_abs c.args.num) (unsigned_abs c.args.den) (unsigned_abs c.args.shared) (unsigned_abs c.common-divisor.result) shares.divides shares.all (simp to_z-of_z at c.common-divisor.ensures.is) in
    let fq : FitsSigned w128 c.quotient.result = search rules in
    let fr : FitsSigned w128 c.quotient-2.result = search rules in
    let r = divided_is c.args.num c.args.den c.common-divisor.result c.quotient.result c.quotient-2.result c.requires.positive c.common-divisor.ensures.positive is (simp to_z-of_z at c.quotient.ensures) (simp to_z-of_z at c.quotient-2.ensures) in
    simp to_z-of_z (make-same c.quotient.result c.quotient-2.result c.args.num c.args.den r.0.0 c.requires.positive r.1)

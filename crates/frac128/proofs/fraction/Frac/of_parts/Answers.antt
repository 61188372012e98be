use Rattle.std.proofs.Common.{rules, ◌<◌, ◌^◌, ◌/◌, pos, arith, FitsSigned}
use Rattle.std.specs.Int.{w128}
use Rattle.std.proofs.lemmas.Int.{to_z_pos, to_z-of_z}
use native.Mathlib.Nat.{pos_of_dvd_of_pos}
use Rattle.rational.specs.Rational.{make}
use Rattle.frac128.specs.Limits.{signed}
use Rattle.frac128.proofs.Multiples.{fits_parts, parts_fit}
use Rattle.frac128.proofs.Signed.{parts_divided, signed_small, small_signed}
use Rattle.frac128.proofs.fraction.Frac.of_parts.Goals as goal

pub part-top-requires : goal.part-top-requires
part-top-requires c = pos_of_dvd_of_pos c.gcd-shared.ensures.1 c.requires

pub part-bottom-requires : goal.part-bottom-requires
part-bottom-requires c = pos_of_dvd_of_pos c.gcd-shared.ensures.1 c.requires

pub returns-then-top-gt-MOST : goal.returns-then-top-gt-MOST
returns-then-top-gt-MOST c = λ fits.
    let g = c.gcd-shared.result in
    let n = c.args.num in
    let d = c.args.den in
    let r = parts_divided c.args.negative n d g c.requires (pos_of_dvd_of_pos c.gcd-shared.ensures.1 c.requires) c.gcd-shared.ensures in
    let parts = fits_parts (signed c.args.negative (n / g)) (pos (d / g)) (make (signed c.args.negative n) (pos d)) r.0 r.1 fits in
    let small = signed_small c.args.negative (n / g) parts.0 in
    omega (arith, small, c.if-top-gt-MOST.true)

pub returns-then-bottom-gt-MOST : goal.returns-then-bottom-gt-MOST
returns-then-bottom-gt-MOST c = λ fits.
    let g = c.gcd-shared.result in
    let n = c.args.num in
    let d = c.args.den in
    let r = parts_divided c.args.negative n d g c.requires (pos_of_dvd_of_pos c.gcd-shared.ensures.1 c.requires) c.gcd-shared.ensures in
    let parts = fits_parts (signed c.args.negative (n / g)) (pos (d / g)) (make (signed c.args.negative n) (pos d)) r.0 r.1 fits in
    omega (arith, parts.1, c.if-bottom-gt-MOST.true)

pub invariant_of-result : goal.invariant_of-result
invariant_of-result c =
    let g = c.gcd-shared.result in
    let n = c.args.num in
    let d = c.args.den in
    let f : FitsSigned w128 c.with_sign.result = search rules in
    let top : n / g < 2 ^ 127 = omega (arith, c.if-top-gt-MOST.false) in
    let bottom : d / g < 2 ^ 127 = omega (arith, c.if-bottom-gt-MOST.false) in
    let r = parts_divided c.args.negative n d g c.requires (pos_of_dvd_of_pos c.gcd-shared.ensures.1 c.requires) c.gcd-shared.ensures in
    rw (c.part-bottom.ensures, to_z_pos w128 (d / g) bottom) (simp to_z-of_z (rw (c.with_sign.ensures, c.part-top.ensures) (r.0, small_signed c.args.negative (n / g) top)))

pub returns : goal.returns
returns c =
    let g = c.gcd-shared.result in
    let n = c.args.num in
    let d = c.args.den in
    let f : FitsSigned w128 c.with_sign.result = search rules in
    let top : n / g < 2 ^ 127 = omega (arith, c.if-top-gt-MOST.false) in
    let bottom : d / g < 2 ^ 127 = omega (arith, c.if-bottom-gt-MOST.false) in
    let r = parts_divided c.args.negative n d g c.requires (pos_of_dvd_of_pos c.gcd-shared.ensures.1 c.requires) c.gcd-shared.ensures in (
      parts_fit (signed c.args.negative (n / g)) (pos (d / g)) (make (signed c.args.negative n) (pos d)) r.0 r.1 (small_signed c.args.negative (n / g) top) bottom,
      rw (c.part-bottom.ensures, to_z_pos w128 (d / g) bottom) (simp to_z-of_z (rw (c.with_sign.ensures, c.part-top.ensures) r.1)),
    )

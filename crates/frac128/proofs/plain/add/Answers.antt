use Rattle.std.proofs.Common.{rules, ◌≡◌, ◌+ℤ◌, ◌∙◌, sym, refl, FitsSigned}
use Rattle.std.specs.Int.{w128}
use Rattle.std.proofs.lemmas.Int.{to_z-of_z}
use Rattle.algebra.proofs.Order.{mul_pos}
use Rattle.rational.specs.Rational.{make}
use Rattle.rational.proofs.Rationals.{parts_of}
use Rattle.frac128.specs.Limits.{AlignFits, IsSmall, SumFits, own_part}
use Rattle.frac128.proofs.Reductions.{sum_shares}
use Rattle.frac128.proofs.Shared.{own_pair}
use Rattle.frac128.proofs.Sums.{sum_is}
use Rattle.frac128.proofs.plain.add.Goals as goal

pub returns-in_err-parts : goal.returns-in_err-parts
returns-in_err-parts c =
    let f1 : FitsSigned w128 c.one.inside.num = search rules in
    let f2 : FitsSigned w128 c.one.inside.den = search rules in
    let f3 : FitsSigned w128 c.other.inside.num = search rules in
    let f4 : FitsSigned w128 c.other.inside.den = search rules in
    let x = parts_of c.args.one c.one.inside.num c.one.inside.den c.one.view_is c.one.invariant.0 in
    let y = parts_of c.args.other c.other.inside.num c.other.inside.den c.other.view_is c.other.invariant.0 in
    let n : ¬ (AlignFits c.one.inside.num c.one.inside.den c.other.inside.num c.other.inside.den) = simp to_z-of_z at c.in_err-parts.ensures in
    rw c.from_residual.ensures (λ (h : SumFits ◌+ℤ◌ c.args.one c.args.other). n (rw (x.0, x.1, y.0, y.1) at h.parts))

pub returns-in_err-total : goal.returns-in_err-total
returns-in_err-total c =
    let f1 : FitsSigned w128 c.one.inside.num = search rules in
    let f2 : FitsSigned w128 c.one.inside.den = search rules in
    let f3 : FitsSigned w128 c.other.inside.num = search rules in
    let f4 : FitsSigned w128 c.other.inside.den = search rules in
    let fl : FitsSigned w128 c.in_ok-parts.parts.left = search rules in
    let fr : FitsSigned w128 c.in_ok-parts.parts.right = search rules in
    let x = parts_of c.args.one c.one.inside.num c.one.inside.den c.one.view_is c.one.invariant.0 in
    let y = parts_of c.args.other c.other.inside.num c.other.inside.den c.other.view_is c.other.invariant.0 in
    let aligns = (simp to_z-of_z at c.in_ok-parts.ensures).1 in
    let n : ¬ (IsSmall (c.in_ok-parts.parts.left +ℤ c.in_ok-parts.parts.right)) = simp to_z-of_z at c.in_err-total.ensures in
    rw c.from_residual-in_err-total.ensures (λ (h : SumFits ◌+ℤ◌ c.args.one c.args.other). n (rw (aligns.left, aligns.right) (rw (x.0, x.1, y.0, y.1) at h.total)))

pub reduced-requires-clause-positive : goal.reduced-requires-clause-positive
reduced-requires-clause-positive c =
    let f1 : FitsSigned w128 c.one.inside.num = search rules in
    let f2 : FitsSigned w128 c.one.inside.den = search rules in
    let f3 : FitsSigned w128 c.other.inside.num = search rules in
    let f4 : FitsSigned w128 c.other.inside.den = search rules in
    let fe : FitsSigned w128 c.in_ok-parts.parts.den = search rules in
    let b = c.one.inside.den in
    let d = c.other.inside.den in
    let aligns = (simp to_z-of_z at c.in_ok-parts.ensures).1 in
    let pair = own_pair b d c.one.invariant.0.0 c.other.invariant.0.0 in
    simp to_z-of_z (rw aligns.den (mul_pos b (own_part d b) c.one.invariant.0.0 pair.factor))

pub reduced-requires-clause-shares : goal.reduced-requires-clause-shares
reduced-requires-clause-shares c =
    let f1 : FitsSigned w128 c.one.inside.num = search rules in
    let f2 : FitsSigned w128 c.one.inside.den = search rules in
    let f3 : FitsSigned w128 c.other.inside.num = search rules in
    let f4 : FitsSigned w128 c.other.inside.den = search rules in
    let fl : FitsSigned w128 c.in_ok-parts.parts.left = search rules in
    let fr : FitsSigned w128 c.in_ok-parts.parts.right = search rules in
    let fe : FitsSigned w128 c.in_ok-parts.parts.den = search rules in
    let fs : FitsSigned w128 c.in_ok-parts.parts.shared = search rules in
    let ft : FitsSigned w128 c.in_ok-total.total = search rules in
    let b = c.one.inside.den in
    let d = c.other.inside.den in
    let aligns = (simp to_z-of_z at c.in_ok-parts.ensures).1 in
    let total : IsSmall (c.in_ok-parts.parts.left +ℤ c.in_ok-parts.parts.right) × (c.in_ok-total.total ≡ c.in_ok-parts.parts.left +ℤ c.in_ok-parts.parts.right) = simp to_z-of_z at c.in_ok-total.ensures in
    let pair = own_pair b d c.one.invariant.0.0 c.other.invariant.0.0 in
    let shares = sum_shares c.one.inside.num b c.other.inside.num d pair.shared (own_part b d) (own_part d b) c.one.invariant.0 c.other.invariant.0 pair.positive pair.left pair.right pair.apart in
    let is : c.in_ok-parts.parts.shared ≡ pair.shared = aligns.shared ∙ sym pair.is in
    simp to_z-of_z (rw (total.1, aligns.left, aligns.right, aligns.den, is) shares)

pub returns : goal.returns
returns c =
    let f1 : FitsSigned w128 c.one.inside.num = search rules in
    let f2 : FitsSigned w128 c.one.inside.den = search rules in
    let f3 : FitsSigned w128 c.other.inside.num = search rules in
    let f4 : FitsSigned w128 c.other.inside.den = search rules in
    let fl : FitsSigned w128 c.in_ok-parts.parts.left = search rules in
    let fr : FitsSigned w128 c.in_ok-parts.parts.right = search rules in
    let fe : FitsSigned w128 c.in_ok-parts.parts.den = search rules in
    let ft : FitsSigned w128 c.in_ok-total.total = search rules in
    let a = c.one.inside.num in
    let b = c.one.inside.den in
    let m = c.other.inside.num in
    let d = c.other.inside.den in
    let x = parts_of c.args.one a b c.one.view_is c.one.invariant.0 in
    let y = parts_of c.args.other m d c.other.view_is c.other.invariant.0 in
    let fits = (simp to_z-of_z at c.in_ok-parts.ensures).0 in
    let aligns = (simp to_z-of_z at c.in_ok-parts.ensures).1 in
    let total : IsSmall (c.in_ok-parts.parts.left +ℤ c.in_ok-parts.parts.right) × (c.in_ok-total.total ≡ c.in_ok-parts.parts.left +ℤ c.in_ok-parts.parts.right) = simp to_z-of_z at c.in_ok-total.ensures in
    let pair = own_pair b d c.one.invariant.0.0 c.other.invariant.0.0 in
    let s = sum_is a b m d pair.shared (own_part b d) (own_part d b) c.one.invariant.0.0 c.other.invariant.0.0 pair.factor pair.left pair.right in
    let made : c.reduced.result ≡ make c.in_ok-total.total c.in_ok-parts.parts.den = simp to_z-of_z at c.reduced.ensures in
    let small = rw (aligns.left, aligns.right) at total.0 in (
      record { parts = rw (x.0, x.1, y.0, y.1) fits; total = rw (x.0, x.1, y.0, y.1) small },
      made ∙ rw (total.1, aligns.left, aligns.right, aligns.den) (s ∙ rw (c.one.view_is, c.other.view_is) refl),
    )

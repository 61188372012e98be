use Rattle.std.proofs.Common.{◌≡◌, ◌*ℤ◌, rules, sym, subst, FitsSigned}
use Rattle.std.specs.Ordering.{int_cmp}
use Rattle.std.specs.Int.{w128}
use Rattle.std.proofs.lemmas.Int.{to_z-of_z}
use Rattle.rational.specs.Rational.{make, IsOrder}
use Rattle.rational.proofs.Orders.{cross_order}
use Rattle.frac128.proofs.ratio.Ratio.compare.Goals as goal

pub returns : goal.returns
returns c =
    let f1 : FitsSigned w128 c.self.inside.num = search rules in
    let f2 : FitsSigned w128 c.self.inside.den = search rules in
    let f3 : FitsSigned w128 c.other.inside.num = search rules in
    let f4 : FitsSigned w128 c.other.inside.den = search rules in
    let a = c.self.inside.num in
    let b = c.self.inside.den in
    let m = c.other.inside.num in
    let d = c.other.inside.den in
    let e : c.compare_products.result ≡ int_cmp (a *ℤ d) (m *ℤ b) = simp to_z-of_z at c.compare_products.ensures in
    rw (← c.self.view_is, ← c.other.view_is) (subst (IsOrder (make a b) (make m d)) (sym e) (cross_order a b m d c.self.invariant c.other.invariant))

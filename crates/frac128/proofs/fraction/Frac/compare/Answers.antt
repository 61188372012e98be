use Rattle.std.proofs.Common.{to_z, rules, ◌≡◌, ◌*ℤ◌, ◌∙◌, sym, ap, subst, FitsSigned}
use Rattle.std.specs.Ordering.{int_cmp}
use Rattle.std.specs.Int.{w128}
use Rattle.std.proofs.lemmas.Int.{to_z-of_z}
use Rattle.rational.specs.Rational.{make, IsOrder}
use Rattle.rational.proofs.Orders.{cmp-order, cmp-times, cross_order}
use Rattle.frac128.proofs.fraction.Frac.compare.Goals as goal

pub returns-then-self-other : goal.returns-then-self-other
returns-then-self-other c =
    let f1 : FitsSigned w128 c.self.inside.num = search rules in
    let f2 : FitsSigned w128 c.self.inside.den = search rules in
    let f3 : FitsSigned w128 c.other.inside.num = search rules in
    let f4 : FitsSigned w128 c.other.inside.den = search rules in
    let a = c.self.inside.num in
    let b = c.self.inside.den in
    let m = c.other.inside.num in
    let d = c.other.inside.den in
    let same : b ≡ d = simp to_z-of_z at (ap (to_z w128) c.if-self-other.true) in
    let order = cross_order a b m b c.self.invariant.0.0 c.self.invariant.0.0 in
    let e = cmp-times a m b c.self.invariant.0.0 ∙ sym c.cmp.ensures in
    let is : IsOrder c.args.self c.args.other c.cmp.result = rw (← c.self.view_is, ← c.other.view_is) (subst (λ z. IsOrder (make a b) (make m z) c.cmp.result) same (subst (IsOrder (make a b) (make m b)) e order)) in
    record { order = is; value = sym (cmp-order c.args.self c.args.other c.cmp.result is) }

pub returns : goal.returns
returns c =
    let f1 : FitsSigned w128 c.self.inside.num = search rules in
    let f2 : FitsSigned w128 c.self.inside.den = search rules in
    let f3 : FitsSigned w128 c.other.inside.num = search rules in
    let f4 : FitsSigned w128 c.other.inside.den = search rules in
    let a = c.self.inside.num in
    let b = c.self.inside.den in
    let m = c.other.inside.num in
    let d = c.other.inside.den in
    let e : c.compare_products.result ≡ int_cmp (a *ℤ d) (m *ℤ b) = simp to_z-of_z at c.compare_products.ensures in
    let is : IsOrder c.args.self c.args.other c.compare_products.result = rw (← c.self.view_is, ← c.other.view_is) (subst (IsOrder (make a b) (make m d)) (sym e) (cross_order a b m d c.self.invariant.0.0 c.other.invariant.0.0)) in
    record { order = is; value = sym (cmp-order c.args.self c.args.other c.compare_products.result is) }

use Rattle.std.proofs.Common.{to_z, of_z, rules, ◌≡◌, ◌≢◌, ◌∙◌, sym, ap, FitsSigned, eq-eqb}
use Rattle.std.specs.Prelude.{nat_eq}
use Rattle.std.specs.Int.{w128}
use Rattle.std.proofs.lemmas.Bool.{eqb-true, false_from_ne_true}
use Rattle.std.proofs.lemmas.Int.{to_z-of_z}
use Rattle.frac128.proofs.Equality.{other_num, same_den}
use Rattle.frac128.proofs.fraction.FracPartialEq.eq.Goals as goal

pub returns-then-self-other : goal.returns-then-self-other
returns-then-self-other c =
    let f1 : FitsSigned w128 c.self.inside.num = search rules in
    let f2 : FitsSigned w128 c.self.inside.den = search rules in
    let f3 : FitsSigned w128 c.other.inside.num = search rules in
    let f4 : FitsSigned w128 c.other.inside.den = search rules in
    let e : c.self.inside.num ≡ c.other.inside.num = simp to_z-of_z at (ap (to_z w128) c.if-self-other.true) in
    same_den c.args.self.now c.args.other.now c.self.inside.num c.self.inside.den c.other.inside.num c.other.inside.den c.self.view_is c.other.view_is c.self.invariant.0 c.other.invariant.0 e
    (nat_eq (of_z w128 c.self.inside.den) (of_z w128 c.other.inside.den))
    (λ t. simp to_z-of_z at (ap (to_z w128) (eqb-true (of_z w128 c.self.inside.den) (of_z w128 c.other.inside.den) t)))
    (λ t d. cc (t, eq-eqb (of_z w128 c.self.inside.den) (of_z w128 c.other.inside.den) (ap (of_z w128) d)))

pub returns-else-self-other : goal.returns-else-self-other
returns-else-self-other c =
    let f1 : FitsSigned w128 c.self.inside.num = search rules in
    let f3 : FitsSigned w128 c.other.inside.num = search rules in
    let apart : c.self.inside.num ≢ c.other.inside.num = λ h. c.if-self-other.false (ap (of_z w128) h) in
    false_from_ne_true (nat_eq (of_z w128 c.self.inside.num) (of_z w128 c.other.inside.num)) (λ t. c.if-self-other.false (eqb-true (of_z w128 c.self.inside.num) (of_z w128 c.other.inside.num) t))
    ∙ sym (other_num c.args.self.now c.args.other.now c.self.inside.num c.self.inside.den c.other.inside.num c.other.inside.den c.self.view_is c.other.view_is c.self.invariant.0 c.other.invariant.0 apart)

use Rattle.std.proofs.Common.{◌<ℤ◌, ◌≤ℤ◌, pos, rules, sym, subst, FitsSigned}
use Rattle.std.specs.Int.{w128}
use Rattle.std.proofs.lemmas.Int.{to_z-of_z}
use Rattle.rational.proofs.Rationals.{parts_of}
use Rattle.frac128.proofs.Wholes.{at_most, lt_false, lt_true, positive_num}
use Rattle.frac128.proofs.fraction.Frac.is_positive.Goals as goal

pub returns-clause-yes : goal.returns-clause-yes
returns-clause-yes c = λ yes.
    let n = c.self.inside.num in
    let f : FitsSigned w128 n = search rules in
    let parts = parts_of c.args.self n c.self.inside.den c.self.view_is c.self.invariant.0 in
    positive_num c.args.self (subst (λ z. pos 0 <ℤ z) (sym parts.0) (lt_true (pos 0) n (simp to_z-of_z at yes)))

pub returns-clause-no : goal.returns-clause-no
returns-clause-no c = λ other.
    let n = c.self.inside.num in
    let f : FitsSigned w128 n = search rules in
    let parts = parts_of c.args.self n c.self.inside.den c.self.view_is c.self.invariant.0 in
    at_most c.args.self (subst (λ z. z ≤ℤ pos 0) (sym parts.0) (lt_false (pos 0) n (simp to_z-of_z at other)))

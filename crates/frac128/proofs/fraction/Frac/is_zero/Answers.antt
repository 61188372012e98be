use Rattle.std.proofs.Common.{◌≡◌, ◌∙◌, pos, rules, FitsSigned}
use Rattle.std.specs.Int.{w128}
use Rattle.rational.proofs.Rationals.{parts_of}
use Rattle.frac128.proofs.Wholes.{some_num, zero_num}
use Rattle.frac128.proofs.fraction.Frac.is_zero.Goals as goal

pub returns-clause-yes : goal.returns-clause-yes
returns-clause-yes c = λ yes.
    let n = c.self.inside.num in
    let f : FitsSigned w128 n = search rules in
    let parts = parts_of c.args.self n c.self.inside.den c.self.view_is c.self.invariant.0 in
    let zero : n ≡ pos 0 = search (rules, yes) in
    zero_num c.args.self (parts.0 ∙ zero)

pub returns-clause-no : goal.returns-clause-no
returns-clause-no c = λ other.
    let n = c.self.inside.num in
    let f : FitsSigned w128 n = search rules in
    let parts = parts_of c.args.self n c.self.inside.den c.self.view_is c.self.invariant.0 in
    some_num c.args.self (λ e. search (rules, other, parts.0, e))

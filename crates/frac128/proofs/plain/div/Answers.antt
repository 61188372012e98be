use Rattle.std.proofs.Common.{of_z, rules, ◌≡◌, ◌≢◌, pos, ◌∙◌, sym, ap, FitsSigned}
use Rattle.std.specs.Int.{w128}
use Rattle.rational.specs.Rational.{make, whole}
use Rattle.frac128.specs.Limits.{Fits, divided_ℚ}
use Rattle.frac128.proofs.Multiples.{num_from_zero, zero_from_num}
use Rattle.frac128.proofs.Inverses.{also}
use Rattle.frac128.proofs.plain.div.Goals as goal

pub returns-then-other-eq0 : goal.returns-then-other-eq0
returns-then-other-eq0 c = λ h.
    let f : FitsSigned w128 c.other.inside.num = search rules in
    let zero : c.other.inside.num ≡ pos 0 = search (rules, c.if-other-eq0.true) in
    h.0 (sym c.other.view_is ∙ ap (λ n. make n c.other.inside.den) zero ∙ zero_from_num c.other.inside.den c.other.invariant.0.0)

pub inverse-requires : goal.inverse-requires
inverse-requires c = λ e. c.if-other-eq0.false (ap (of_z w128) (num_from_zero c.other.inside.num c.other.inside.den c.other.invariant.0 (c.other.view_is ∙ e)))

pub returns : goal.returns
returns c =
    let some : c.args.other ≢ whole (pos 0) = λ e. c.if-other-eq0.false (ap (of_z w128) (num_from_zero c.other.inside.num c.other.inside.den c.other.invariant.0 (c.other.view_is ∙ e))) in
    also c.mul.result (Fits (divided_ℚ c.args.one c.args.other)) (c.args.other ≢ whole (pos 0)) (divided_ℚ c.args.one c.args.other) some (rw c.inverse.ensures at c.mul.ensures)

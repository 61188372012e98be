use Rattle.std.proofs.Common.{rules, FitsSigned, subst}
use Rattle.std.specs.Int.{w128}
use mir.Facts.{to_z-of_z}
use Rattle.frac128.specs.Limits.{IsSmall}
use Rattle.lp_bounds.proofs.Refusals.{linear_has_none}
use Rattle.lp_bounds.proofs.leaf.linear_leaf.Goals as goal

pub returns-in-None : goal.returns-in-None
returns-in-None c =
    let found = c.in-Some.field-0 in
    let whole = rw c.in-Some.is at c.in_ok-den.ensures in
    let small : IsSmall found.den = subst IsSmall whole.den_is whole.are.den_small in
    let fits : FitsSigned w128 found.den = search (rules, small) in
    linear_has_none c.args.instance.now c.args.path.now c.args.sides.now c.args.multipliers.now found whole _ (to_z-of_z fits) (rw c.in-None.is at c.in_ok-bound.ensures)

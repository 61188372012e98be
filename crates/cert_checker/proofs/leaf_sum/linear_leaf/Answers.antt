use Rattle.std.proofs.Common.{rules, ◌≡◌, subst}
use mir.Facts.{to_z-of_z}
use mir.Val.{SFits, of_z, to_z}
use mir.Syntax.{w128}
use Rattle.cert_meaning.specs.Named.{names}
use Rattle.cert_meaning.specs.Says.{IsRoundedUp}
use Rattle.cert_checker.specs.Leaves.{IsGoodSum, linear_most}
use Rattle.cert_checker.proofs.Leaves.{linear_is}
use Rattle.cert_checker.proofs.leaf_sum.linear_leaf.Goals as goal

pub returns-clause-says : goal.returns-clause-says
returns-clause-says c = λ total totals.
    let n = names c.args.instance.now total c.args.cuts.now c.args.path.now in
    let den : to_z w128 (of_z w128 c.args.den) ≡ c.args.den = to_z-of_z c.ranges.den in
    let fits : SFits w128 c.in-Ok.right = search rules in
    let right : to_z w128 (of_z w128 c.in-Ok.right) ≡ c.in-Ok.right = to_z-of_z fits in
    let good = subst (λ z. IsGoodSum n (linear_most n z) c.args.parts.now) den (c.in-Ok.ensures.good total totals) in
    let up : IsRoundedUp c.args.den c.in-Ok.right c.rounded_up.result = rw (den, right) at c.rounded_up.ensures in
    linear_is n c.args.den c.args.parts.now c.in-Ok.right c.rounded_up.result c.requires.den good (c.in-Ok.ensures.right total totals) up

pub returns-clause-small : goal.returns-clause-small
returns-clause-small c = λ total totals. (c.in-Ok.ensures.good total totals).small

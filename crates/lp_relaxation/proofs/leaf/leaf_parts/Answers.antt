use Rattle.std.proofs.Common.{rules, FitsSigned}
use Rattle.std.specs.Int.{w128}
use mir.Facts.{to_z-of_z}
use Rattle.tableau.specs.Denominators.{whole_at}
use Rattle.lp_relaxation.proofs.Making.{parts_more}
use Rattle.lp_relaxation.proofs.leaf.leaf_parts.Goals as goal

pub loop-index-preserved : goal.loop-index-preserved
loop-index-preserved c =
    let z = whole_at c.args.times.now in
    let k = c.loop-index.index in
    let fits : FitsSigned w128 (z k) = search (rules, c.requires.small) in
    parts_more c.args.sides.now z k _ _ c.loop-index.parts.items c.put_part.new.parts.items c.loop-index-test.true (to_z-of_z fits) c.loop-index.invariant c.in_ok-put_part.ensures

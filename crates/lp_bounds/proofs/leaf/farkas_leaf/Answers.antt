use Rattle.lp_bounds.proofs.Refusals.{farkas_has_none}
use Rattle.lp_bounds.proofs.leaf.farkas_leaf.Goals as goal

pub returns-in-None : goal.returns-in-None
returns-in-None c =
    let whole = rw c.in-Some.is at c.in_ok-parts.ensures in
    farkas_has_none c.args.instance.now c.args.path.now c.args.sides.now c.args.multipliers.now c.in-Some.field-0 whole (rw c.in-None.is at c.in_ok-said.ensures)

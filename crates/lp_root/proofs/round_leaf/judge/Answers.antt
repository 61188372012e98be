use Rattle.std.proofs.Common.{refl, subst, sym}
use Rattle.cert_lines.specs.Shapes.{leaf_shape}
use Rattle.lp_root.specs.RootSteps.{IsJudged}
use Rattle.lp_root.proofs.round_leaf.judge.Goals as goal

pub returns-in-Err-Rejected : goal.returns-in-Err-Rejected
returns-in-Err-Rejected c =
    let why = c.in-Err-Rejected.field-0-0 in
    let v = c.leaf_passed.result in
    subst (λ says. IsJudged c.args.instance.now c.args.rows.now (leaf_shape c.args.leaf) c.args.round says v.leaf) (sym c.leaf_passed.ensures.says)
    (refl, refl, (why.line, why.why, rw c.in-Err-Rejected.field-0-is at c.in-Err-Rejected.ensures.fault), c.leaf_passed.ensures.leaf)

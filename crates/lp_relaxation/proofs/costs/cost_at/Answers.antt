use Rattle.std.proofs.Common.{subst}
use Rattle.std.specs.Prelude.{IfSome}
use Rattle.lin_rows.specs.Columns.{IsColumnAt}
use Rattle.lp_relaxation.proofs.Making.{cost_of}
use Rattle.lp_relaxation.proofs.costs.cost_at.Goals as goal

pub returns : goal.returns
returns c =
    let at = subst (λ o. IfSome o (IsColumnAt c.args.instance.now c.args.number)) c.in-Some.is c.column_at.ensures.column in
    cost_of c.args.instance.now c.args.number c.column_cost.result c.in-Some.column c.requires.limits at c.column_cost.ensures.value

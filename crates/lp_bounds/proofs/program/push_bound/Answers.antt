use Rattle.std.proofs.Common.{sym, subst}
use Rattle.std.specs.List.{All}
use Rattle.lin_rows.specs.Columns.{IsColumn}
use Rattle.lin_rows.specs.Rows.{LinRow}
use Rattle.cert_meaning.proofs.Rows.{bound_columns}
use Rattle.lp_relaxation.specs.Laws.{HasSmallNumbers}
use Rattle.lp_bounds.proofs.BoundRows.{bound_small}
use Rattle.lp_bounds.proofs.program.push_bound.Goals as goal

pub push_row-requires-clause-columns : goal.push_row-requires-clause-columns
push_row-requires-clause-columns c =
    let m = c.args.instance.now in
    subst (λ (r : LinRow). All (λ a. IsColumn m a.column) r.terms) (sym c.in_ok-row.ensures.row) (bound_columns m c.args.bound c.requires.choice)

pub push_row-requires-clause-small : goal.push_row-requires-clause-small
push_row-requires-clause-small c = subst HasSmallNumbers (sym c.in_ok-row.ensures.row) (bound_small c.args.bound c.is_short.ensures)

-- Each feasible plan lies within the whole ranges.
use Rattle.std.proofs.Common.{sym, subst}
use Rattle.lot_sizing.specs.Problem.{Problem}
use Rattle.lot_model.specs.Views.{IsInstance}
use Rattle.lin_rows.specs.declared.column.Column.TheVariants.{X, Y}
use Rattle.lin_rows.specs.Columns.{IsCell}
use Rattle.cert_trees.specs.Laws.{PlansAreWithin}
use Rattle.cert_trees.specs.Spans.{IsIn, Span}
use Rattle.node_domains.specs.Within.{LieInWhole}

pub lie_whole : (m : Problem) → IsInstance m → PlansAreWithin → LieInWhole m
lie_whole m instance within = λ ranges all p feasible i t i_low i_high t_low t_high.
    let (total, totals, small) = instance.totals in
    let is = within m instance.ranked.0 total instance.limits.some_period instance.ranked.1 totals p feasible i t i_low i_high t_low t_high in
    let cell : IsCell m i t = (i_low, i_high, t_low, t_high) in (
      subst (λ (s : Span). IsIn s (p.make i t)) (sym (all total totals (X i t) cell)) is.0,
      subst (λ (s : Span). IsIn s (p.setup i t)) (sym (all total totals (Y i t) cell)) is.1,
    )

use Rattle.std.proofs.Common.{◌≡◌, ◌+◌, ◌-◌, ◌∙◌, ap, sym, subst, arith}
use Rattle.reduced_groups.specs.Levels.{HasSeries}
use Rattle.reduced_groups.proofs.Starting.{series_next}
use Rattle.reduced_leaf.specs.Found.{column_of, left_price}
use Rattle.reduced_leaf.proofs.prices.row_of.Goals as goal

pub loop-period-preserved : goal.loop-period-preserved
loop-period-preserved c =
    let t = c.loop-period.period in
    let price = left_price c.args.instance.now c.args.sums.now c.args.den in
    let f = λ (u : _). price (column_of c.args.kind c.args.item u) in
    let e : t ≡ t + 1 - 1 = omega arith in
    subst (HasSeries (t + 1 - 1) f) (sym c.in_ok-push.ensures.items)
    (series_next (t - 1) (t + 1 - 1) c.price_of.result f c.loop-period.row.items (omega (arith, c.loop-period.auto.period)) c.loop-period.invariant (c.price_of.ensures.value ∙ (ap price c.column_of.ensures ∙ ap f e)))

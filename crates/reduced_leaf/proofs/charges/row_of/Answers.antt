use Rattle.std.proofs.Common.{◌≡◌, ℕ, ◌+◌, ◌-◌, ◌∙◌, List, ap, sym, subst, arith}
use Rattle.lot_sizing.specs.Problem.{entry}
use Rattle.reduced_groups.specs.Levels.{HasSeries}
use Rattle.reduced_groups.proofs.Starting.{series_next}
use Rattle.reduced_leaf.proofs.charges.row_of.Goals as goal

pub loop-period-preserved : goal.loop-period-preserved
loop-period-preserved c =
    let t = c.loop-period.period in
    let f = entry c.args.shares.now in
    let e : t ≡ t + 1 - 1 = omega arith in
    subst (HasSeries (t + 1 - 1) f) (sym {A = List ℕ} c.in_ok-push.ensures.items)
    (series_next (t - 1) (t + 1 - 1) c.from.result f c.loop-period.row.items (omega (arith, c.loop-period.auto.period)) c.loop-period.invariant (c.from.ensures ∙ (c.of.ensures ∙ ap f e)))

use Rattle.std.proofs.Common.{◌≡◌, ◌+◌, ◌-◌, ◌∙◌, ap, sym, subst, arith}
use Rattle.must_start.specs.Rows.{start_in}
use Rattle.reduced_groups.specs.Levels.{HasSeries}
use Rattle.reduced_groups.proofs.Starting.{series_next, series_none}
use Rattle.reduced_groups.proofs.needs.needs_of_last.Goals as goal

pub loop-period-init : goal.loop-period-init
loop-period-init c =
    let f = λ (t : _). start_in c.args.started.now c.args.item t - start_in c.args.started.now c.args.item (t - 1) in
    series_none f c.in_ok-list.list.items c.in_ok-list.ensures.items

pub loop-period-preserved : goal.loop-period-preserved
loop-period-preserved c =
    let t = c.loop-period.period in
    let f = λ (u : _). start_in c.args.started.now c.args.item u - start_in c.args.started.now c.args.item (u - 1) in
    let e : t ≡ t + 1 - 1 = omega arith in
    let value : c.saturating_sub.result ≡ f t = omega (arith, c.saturating_sub.ensures, c.by_end.ensures, c.by_end-before.ensures) in
    subst (HasSeries (t + 1 - 1) f) (sym c.in_ok-push.ensures.items)
    (series_next (t - 1) (t + 1 - 1) c.saturating_sub.result f c.loop-period.list.items (omega (arith, c.loop-period.auto.period)) c.loop-period.invariant (value ∙ ap f e))

use Rattle.std.proofs.Common.{◌≡◌, ◌+◌, ◌-◌, ◌∙◌, ap, sym, subst, arith}
use Rattle.late_starts.specs.Steps.{HasEach, charge_by}
use Rattle.late_starts.proofs.Places.{has_more}
use Rattle.late_starts.proofs.charging.charges_of.Goals as goal

pub loop-period-preserved : goal.loop-period-preserved
loop-period-preserved c =
    let t = c.loop-period.period in
    let f = charge_by c.args.instance.now c.args.arriving.now c.args.item in
    let e : t ≡ t + 1 - 1 = omega arith in
    subst (HasEach (t + 1 - 1) f) (sym c.in_ok-push.ensures.items)
    (has_more (t - 1) (t + 1 - 1) c.charge_of.result f c.loop-period.list.items (omega (arith, c.loop-period.auto.period)) c.loop-period.invariant (c.charge_of.ensures ∙ ap f e))

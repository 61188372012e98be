use Rattle.std.proofs.Common.{◌≡◌, ◌∙◌, ◌-◌, ◌+◌, suc, ap, sym, subst, arith}
use Rattle.lot_sizing.specs.Echelon.{echelon_demand}
use Rattle.echelon.specs.Views.{HasEach}
use Rattle.echelon.specs.Weights.{weight_in}
use Rattle.echelon.proofs.Nets.{each_more}
use Rattle.echelon.proofs.whole.demands_of.Goals as goal

pub loop-period-preserved : goal.loop-period-preserved
loop-period-preserved c =
    let f = echelon_demand c.args.instance.now (weight_in c.args.explosion.now) c.args.item in
    let t = c.loop-period.period in
    let next : t + 1 - 1 ≡ suc (t - 1) = omega (arith, c.loop-period.auto.period) in
    let same : t ≡ t + 1 - 1 = omega arith in
    subst (HasEach (t + 1 - 1) f) (sym c.in_ok-push.ensures.items) (each_more (t - 1) (t + 1 - 1) c.demand_of.result f c.loop-period.list.items next c.loop-period.invariant (c.demand_of.ensures ∙ ap f same))

use Rattle.std.proofs.Common.{◌≡◌, ◌+◌, ◌-◌, ◌∙◌, suc, ap, sym, subst, arith}
use Rattle.lot_sizing.specs.Sums.{sum_to}
use Rattle.lot_sizing.specs.Net.{needed_to, net_in}
use Rattle.echelon.specs.Views.{HasEach}
use Rattle.echelon.proofs.Nets.{each_more}
use Rattle.plan_rules.specs.Cells.{table_of}
use Rattle.own_plan.specs.OwnPeriod.{asked_with}
use Rattle.heur_build.proofs.NetDemands.{asked_so_far, needed_so_far}
use Rattle.heur_build.proofs.nets.net_demands.Goals as goal

pub loop-period-preserved : goal.loop-period-preserved
loop-period-preserved c =
    let m = c.args.instance.now in
    let i = c.args.item in
    let make = table_of c.args.make.now in
    let a = asked_with m make i in
    let t = c.loop-period.period in
    let inv = c.loop-period.invariant in
    let next : t + 1 - 1 ≡ suc (t - 1) = omega arith in
    let same : t + 1 - 1 ≡ t = omega arith in
    let asked = asked_so_far m make i t c.loop-period.asked c.demand.result c.used_up.result (omega arith) inv.asked c.demand.ensures.value c.used_up.ensures.value in
    let needed = needed_so_far m make i t (c.loop-period.asked + (c.demand.result + c.used_up.result)) c.needed_by-needed.result asked c.needed_by-needed.ensures in
    record {
      asked = asked ∙ sym (ap (λ n. sum_to n a.demand) same);
      asked_small = omega arith;
      before = λ _. needed ∙ ap (needed_to a) (sym same);
      nets = subst (HasEach (t + 1 - 1) (net_in a)) (sym c.in_ok-push.ensures.items) (each_more (t - 1) (t + 1 - 1) _ (net_in a) c.loop-period.list.items next inv.nets (omega (arith, needed, inv.before (omega arith), ap (net_in a) same)));
    }

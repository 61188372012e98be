use Rattle.std.proofs.Common.{◌≡◌, ◌+◌, ◌-◌, ◌∙◌, suc, refl, ap, sym, subst, arith, length, slice_index_or}
use Rattle.std.proofs.lemmas.Grind.{get_or_default_zero}
use Rattle.lot_sizing.specs.Sums.{sum_to}
use Rattle.lot_sizing.specs.Problem.{entry}
use Rattle.lot_sizing.specs.Net.{left_after, needed_to, net_in}
use Rattle.lot_sizing.proofs.Sums.{sum_to_at, sum_to-front}
use Rattle.echelon.specs.Views.{HasEach, asked_in}
use Rattle.echelon.proofs.Nets.{asked_now, each_more, end_small}
use Rattle.echelon.proofs.net.net_of_demand.Goals as goal

pub overflow_add-demand : goal.overflow_add-demand
overflow_add-demand c =
    let xs = c.args.demands.now in
    let t = c.loop-period.period in
    omega (arith, c.loop-period.invariant.demand, sum_to_at t (entry xs) c.loop-period.auto.period, sum_to-front t (length xs) (entry xs) (omega arith), c.requires)

pub overflow_add-asked : goal.overflow_add-asked
overflow_add-asked c =
    let xs = c.args.demands.now in
    let t = c.loop-period.period in
    omega (arith, c.loop-period.invariant.demand, sum_to_at t (entry xs) c.loop-period.auto.period, sum_to-front t (length xs) (entry xs) (omega arith), c.requires, c.end_at-end.ensures, end_small (asked_in c.args.demands.now c.args.opening c.args.end_min) t)

pub loop-period-preserved : goal.loop-period-preserved
loop-period-preserved c =
    let a = asked_in c.args.demands.now c.args.opening c.args.end_min in
    let xs = c.args.demands.now in
    let t = c.loop-period.period in
    let inv = c.loop-period.invariant in
    let next : t + 1 - 1 ≡ suc (t - 1) = omega (arith, c.loop-period.auto.period) in
    let same : t + 1 - 1 ≡ t = omega arith in
    let read : entry xs t ≡ slice_index_or xs (t - 1) (entry xs t) = sym (get_or_default_zero xs (t - 1) (entry xs t) (omega arith)) in
    let now = asked_now a xs t c.loop-period.demand (entry xs t) c.end_at-end.result (c.loop-period.demand + (entry xs t) + c.end_at-end.result) c.saturating_sub-needed.result refl c.loop-period.auto.period (omega arith) inv.demand read c.end_at-end.ensures refl (omega arith) in
    record {
      demand = omega (arith, inv.demand, sum_to_at t (entry xs) c.loop-period.auto.period, ap (λ k. sum_to k (entry xs)) same);
      made = λ _. now.rest ∙ ap (needed_to a) (sym same);
      net = subst (HasEach (t + 1 - 1) (net_in a)) (sym c.in_ok-push.ensures.items) (each_more (t - 1) (t + 1 - 1) _ (net_in a) c.loop-period.net.items next inv.net (omega (arith, now.rest, inv.made (omega arith), ap (net_in a) same)));
      left = subst (HasEach (t + 1 - 1) (left_after a)) (sym c.in_ok-push-2.ensures.items) (each_more (t - 1) (t + 1 - 1) _ (left_after a) c.loop-period.left.items next inv.left (omega (arith, now.whole, c.end_at-end.ensures, ap (left_after a) same)));
    }

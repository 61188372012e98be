use Rattle.std.proofs.Common.{◌≡◌, ◌≤◌, ◌+◌, ◌-◌, ◌∙◌, ap, sym, subst, arith}
use Rattle.lot_sizing.specs.Problem.{demand}
use Rattle.lot_sizing.proofs.Sums.{sum_to_at, sum_to_more}
use Rattle.must_start.specs.Rows.{start_in}
use Rattle.reduced_groups.specs.Groups.{asked_besides}
use Rattle.reduced_groups.specs.Levels.{HasSeries}
use Rattle.reduced_groups.proofs.ChainPlans.{none_asked}
use Rattle.reduced_groups.proofs.Starting.{demand_small, series_next, series_none}
use Rattle.reduced_groups.proofs.needs.needs_of_lower.Goals as goal

pub loop-period-init : goal.loop-period-init
loop-period-init c =
    let m = c.args.instance.now in
    let start = start_in c.args.started.now in
    let f = λ (t : _). asked_besides m start c.args.item c.args.next t - asked_besides m start c.args.item c.args.next (t - 1) in
    record {
      demanded = omega arith;
      before = sym (none_asked m start c.args.item c.args.next c.an_instance_breaks_no_rule.ensures.limits.some_period c.requires.started.starts);
      list = series_none f c.in_ok-list.list.items c.in_ok-list.ensures.items;
    }

pub overflow_add-demanded : goal.overflow_add-demanded
overflow_add-demanded c =
    let m = c.args.instance.now in
    let t = c.loop-period.period in
    let high : t ≤ m.periods = omega (arith, c.loop-period-test.true, c.periods-period-end.ensures.value) in
    omega (
      arith,
      c.loop-period.invariant.demanded,
      c.demand-demanded.ensures.value,
      sum_to_at t (demand m c.args.item) c.loop-period.auto.period,
      demand_small m c.args.started.now c.must_start_holds.ensures.totals c.an_instance_breaks_no_rule.ensures c.requires.started c.args.item t c.requires.low c.requires.high high,
    )

pub asked_besides-asked-requires-clause-demanded : goal.asked_besides-asked-requires-clause-demanded
asked_besides-asked-requires-clause-demanded c =
    omega (arith, c.loop-period.invariant.demanded, c.demand-demanded.ensures.value, sum_to_at c.loop-period.period (demand c.args.instance.now c.args.item) c.loop-period.auto.period)

pub loop-period-preserved : goal.loop-period-preserved
loop-period-preserved c =
    let m = c.args.instance.now in
    let start = start_in c.args.started.now in
    let t = c.loop-period.period in
    let g = λ (u : _). asked_besides m start c.args.item c.args.next u in
    let f = λ (u : _). g u - g (u - 1) in
    let e : t ≡ t + 1 - 1 = omega arith in
    let inv = c.loop-period.invariant in
    let value : c.saturating_sub.result ≡ f t = omega (arith, c.saturating_sub.ensures, c.asked_besides-asked.ensures, inv.before) in
    record {
      demanded = omega (arith, inv.demanded, c.demand-demanded.ensures.value, sum_to_more t (demand m c.args.item) c.loop-period.auto.period);
      before = c.asked_besides-asked.ensures ∙ ap g e;
      list = subst (HasSeries (t + 1 - 1) f) (sym c.in_ok-push.ensures.items)
          (series_next (t - 1) (t + 1 - 1) c.saturating_sub.result f c.loop-period.list.items (omega (arith, c.loop-period.auto.period)) inv.list (value ∙ ap f e));
    }

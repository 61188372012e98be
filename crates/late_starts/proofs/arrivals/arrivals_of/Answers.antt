use Rattle.std.proofs.Common.{◌≡◌, ◌≤◌, ◌+◌, ◌-◌, ◌∙◌, ap, sym, subst, arith}
use Rattle.lot_sizing.specs.Problem.{demand}
use Rattle.lot_sizing.proofs.Sums.{sum_to_at, sum_to_more}
use Rattle.must_start.specs.MustStart.{must_arrive}
use Rattle.must_start.specs.Rows.{start_in}
use Rattle.must_start.proofs.Tables.{arrivals_small}
use Rattle.late_starts.specs.Steps.{HasEach}
use Rattle.late_starts.proofs.Places.{has_more}
use Rattle.late_starts.proofs.arrivals.arrivals_of.Goals as goal

pub overflow_add-demanded : goal.overflow_add-demanded
overflow_add-demanded c =
    let t = c.loop-period.period in
    let high : t ≤ c.args.instance.now.periods = omega (arith, c.loop-period-test.true, c.periods-period-end.ensures.value) in
    omega (
      arith,
      c.loop-period.invariant.demanded,
      c.demand-demanded.ensures.value,
      sum_to_at t (demand c.args.instance.now c.args.item) c.loop-period.auto.period,
      arrivals_small c.args.instance.now c.args.table.now c.args.item t c.periods-period-end.ensures.instance c.requires.table c.requires.low c.requires.high high,
    )

pub must_arrive-requires-clause-demanded : goal.must_arrive-requires-clause-demanded
must_arrive-requires-clause-demanded c =
    omega (arith, c.loop-period.invariant.demanded, c.demand-demanded.ensures.value, sum_to_at c.loop-period.period (demand c.args.instance.now c.args.item) c.loop-period.auto.period)

pub loop-period-preserved : goal.loop-period-preserved
loop-period-preserved c =
    let t = c.loop-period.period in
    let f = must_arrive c.args.instance.now (start_in c.args.table.now) c.args.item in
    let inv = c.loop-period.invariant in
    let e : t ≡ t + 1 - 1 = omega arith in
    record {
      demanded = omega (arith, inv.demanded, c.demand-demanded.ensures.value, sum_to_more t (demand c.args.instance.now c.args.item) c.loop-period.auto.period);
      list = subst (HasEach (t + 1 - 1) f) (sym c.in_ok-push.ensures.items)
          (has_more (t - 1) (t + 1 - 1) c.must_arrive.result f c.loop-period.list.items (omega (arith, c.loop-period.auto.period)) inv.list (c.must_arrive.ensures ∙ ap f e));
    }

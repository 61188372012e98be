use Rattle.std.proofs.Common.{◌≡◌, ◌≤◌, ◌+◌, ◌-◌, ◌∙◌, ap, sym, subst, arith}
use Rattle.std.specs.Prelude.{max}
use Rattle.lot_sizing.specs.Problem.{demand}
use Rattle.lot_sizing.proofs.Sums.{sum_to_at, sum_to_more}
use Rattle.must_start.specs.MustStart.{greatest_to, must_arrive_in_time}
use Rattle.must_start.specs.Rows.{start_in}
use Rattle.must_start.specs.Steps.{HasEachTo}
use Rattle.must_start.proofs.Greatest.{greatest_next}
use Rattle.must_start.proofs.Tables.{arrivals_small, each_more}
use Rattle.must_start.proofs.arrivals.arrivals_of.Goals as goal

pub overflow_add-demanded : goal.overflow_add-demanded
overflow_add-demanded c =
    let t = c.loop-period.period in
    let high : t ≤ c.args.instance.now.periods = omega (arith, c.loop-period-test.true, c.periods-period-end.ensures.value) in
    omega (
      arith,
      c.loop-period.invariant.demanded,
      c.demand-demanded.ensures.value,
      sum_to_at t (demand c.args.instance.now c.args.item) c.loop-period.auto.period,
      arrivals_small c.args.instance.now c.args.table.now c.args.item t c.periods-period-end.ensures.instance c.requires.table c.requires.low c.requires.high high,
    )

pub must_arrive_in_time-requires-clause-demanded : goal.must_arrive_in_time-requires-clause-demanded
must_arrive_in_time-requires-clause-demanded c =
    omega (arith, c.loop-period.invariant.demanded, c.demand-demanded.ensures.value, sum_to_at c.loop-period.period (demand c.args.instance.now c.args.item) c.loop-period.auto.period)

pub loop-period-preserved : goal.loop-period-preserved
loop-period-preserved c =
    let t = c.loop-period.period in
    let f = must_arrive_in_time c.args.instance.now (start_in c.args.table.now) c.args.item in
    let inv = c.loop-period.invariant in
    let most : c.max-most.result ≡ greatest_to (t + 1 - 1) f =
    c.max-most.ensures ∙ ap (λ n. max n c.must_arrive_in_time.result) inv.most ∙ ap (max (greatest_to (t - 1) f)) c.must_arrive_in_time.ensures ∙ sym (greatest_next t f c.loop-period.auto.period) in
    record {
      demanded = omega (arith, inv.demanded, c.demand-demanded.ensures.value, sum_to_more t (demand c.args.instance.now c.args.item) c.loop-period.auto.period);
      most = most;
      list = subst (HasEachTo (t + 1 - 1) (λ k. greatest_to k f)) (sym c.in_ok-push-2.ensures.items)
          (each_more (t - 1) (t + 1 - 1) c.max-most.result (λ k. greatest_to k f) c.loop-period.list.items (omega (arith, c.loop-period.auto.period)) inv.list most);
    }

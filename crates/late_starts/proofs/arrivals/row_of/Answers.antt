use Rattle.std.proofs.Common.{◌≡◌, ◌+◌, ◌-◌, ◌∙◌, ap, sym, subst, arith}
use Rattle.std.proofs.lemmas.Grind.{get_or_default_zero}
use Rattle.must_start.specs.MustStart.{must_arrive}
use Rattle.must_start.specs.Rows.{start_in}
use Rattle.must_start.specs.Steps.{HasEachTo}
use Rattle.must_start.proofs.Tables.{each_more}
use Rattle.late_starts.specs.OnTime.{arrival}
use Rattle.late_starts.specs.Steps.{row_at}
use Rattle.late_starts.proofs.Filling.{row_next}
use Rattle.late_starts.proofs.arrivals.row_of.Goals as goal

pub loop-period-preserved : goal.loop-period-preserved
loop-period-preserved c =
    let m = c.args.instance.now in
    let i = c.args.item in
    let t = c.loop-period.period in
    let start = start_in c.args.table.now in
    let f = must_arrive m start i in
    let list = c.in_ok-arrivals.arrivals.items in
    let at = c.arrival_period-arrival.result in
    let read : c.index.result.now ≡ f (arrival m i t) =
    c.index.ensures
    ∙ get_or_default_zero list (at - 1) c.index.result.now (omega (arith, c.arrival_period-arrival.ensures.within, c.arrival_period-arrival.ensures.some, c.in_ok-arrivals.ensures.size))
    ∙ c.in_ok-arrivals.ensures.each at c.arrival_period-arrival.ensures.some c.arrival_period-arrival.ensures.within
    ∙ ap f c.arrival_period-arrival.ensures.value in
    subst (HasEachTo (t + 1 - 1) (row_at m start i)) (sym c.in_ok-push-2.ensures.items)
    (each_more (t - 1) (t + 1 - 1) c.index.result.now (row_at m start i) c.loop-period.row.items (omega (arith, c.loop-period.auto.period)) c.loop-period.invariant (read ∙ row_next m start i t c.loop-period.auto.period))

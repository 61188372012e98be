use Rattle.std.proofs.Common.{◌≡◌, ◌≤◌, ◌+◌, ◌-◌, ◌∙◌, ap, sym, subst, arith, slice_index_or}
use Rattle.std.specs.Prelude.{min}
use Rattle.std.proofs.lemmas.Grind.{get_or_default_zero}
use Rattle.lot_sizing.specs.Problem.{item_at}
use Rattle.must_start.specs.MustStart.{greatest_to, must_arrive_in_time}
use Rattle.must_start.specs.Rows.{start_in}
use Rattle.must_start.specs.Steps.{HasEachTo, row_at}
use Rattle.must_start.proofs.Greatest.{min_right}
use Rattle.must_start.proofs.Tables.{each_more, row_next}
use Rattle.must_start.proofs.arrivals.row_of.Goals as goal

pub loop-period-preserved : goal.loop-period-preserved
loop-period-preserved c =
    let m = c.args.instance.now in
    let i = c.args.item in
    let t = c.loop-period.period in
    let start = start_in c.args.table.now in
    let f = must_arrive_in_time m start i in
    let list = c.in_ok-arrivals.arrivals.items in
    let at = min (t + (item_at m i).lead) m.periods in
    let within : at ≤ m.periods = min_right (t + (item_at m i).lead) m.periods in
    let read : c.index.result.now ≡ greatest_to at f =
    c.index.ensures
    ∙ ap (λ k. slice_index_or list k c.index.result.now) c.arrival_period-arrival.ensures
    ∙ get_or_default_zero list at c.index.result.now (omega (arith, within, c.in_ok-arrivals.ensures.size))
    ∙ c.in_ok-arrivals.ensures.each at within in
    subst (HasEachTo (t + 1 - 1) (row_at m start i)) (sym c.in_ok-push-2.ensures.items)
    (each_more (t - 1) (t + 1 - 1) c.index.result.now (row_at m start i) c.loop-period.row.items (omega (arith, c.loop-period.auto.period)) c.loop-period.invariant (read ∙ row_next m start i t c.loop-period.auto.period))

use Rattle.std.proofs.Common.{◌≤◌, arith}
use Rattle.lot_sizing.specs.Problem.{item_count, per_unit}
use Rattle.must_start.specs.Rows.{start_in}
use Rattle.must_start.proofs.Tables.{products_next, taken_small}
use Rattle.late_starts.proofs.arrivals.taken_by_others.Goals as goal

pub overflow_mul-taken : goal.overflow_mul-taken
overflow_mul-taken c =
    let m = c.args.instance.now in
    let j = c.loop-other.other in
    let high : j ≤ item_count m = omega (arith, c.loop-other-test.true, c.items-other-end.ensures.value) in
    let next = products_next (per_unit m c.args.item) (λ k. start_in c.args.table.now k c.args.period) j c.per_unit.result c.by_end.result c.loop-other.taken _ c.loop-other.auto.other c.per_unit.ensures.value c.by_end.ensures c.loop-other.invariant (taken_small m c.args.table.now c.args.item c.args.period j c.items-other-end.ensures.instance c.requires.table c.requires.low c.requires.high c.requires.period high) in
    omega (arith, next.0)

pub overflow_add-taken : goal.overflow_add-taken
overflow_add-taken c =
    let m = c.args.instance.now in
    let j = c.loop-other.other in
    let high : j ≤ item_count m = omega (arith, c.loop-other-test.true, c.items-other-end.ensures.value) in
    let next = products_next (per_unit m c.args.item) (λ k. start_in c.args.table.now k c.args.period) j c.per_unit.result c.by_end.result c.loop-other.taken _ c.loop-other.auto.other c.per_unit.ensures.value c.by_end.ensures c.loop-other.invariant (taken_small m c.args.table.now c.args.item c.args.period j c.items-other-end.ensures.instance c.requires.table c.requires.low c.requires.high c.requires.period high) in
    omega (arith, next.1)

pub loop-other-preserved : goal.loop-other-preserved
loop-other-preserved c =
    let m = c.args.instance.now in
    let j = c.loop-other.other in
    let high : j ≤ item_count m = omega (arith, c.loop-other-test.true, c.items-other-end.ensures.value) in
    (products_next (per_unit m c.args.item) (λ k. start_in c.args.table.now k c.args.period) j c.per_unit.result c.by_end.result c.loop-other.taken _ c.loop-other.auto.other c.per_unit.ensures.value c.by_end.ensures c.loop-other.invariant (taken_small m c.args.table.now c.args.item c.args.period j c.items-other-end.ensures.instance c.requires.table c.requires.low c.requires.high c.requires.period high)).2

use Rattle.std.proofs.Common.{◌≤◌, ◌*◌, arith}
use Rattle.std.specs.Prelude.{if◌then◌else◌, ◌==◌}
use Rattle.lot_sizing.specs.Problem.{item_count, per_unit}
use Rattle.lot_sizing.proofs.Sums.{sum_to_at, sum_to_more}
use Rattle.must_start.specs.Rows.{start_in}
use Rattle.reduced_groups.proofs.Starting.{besides_small}
use Rattle.reduced_groups.proofs.needs.taken_besides.Goals as goal

pub overflow_add-taken : goal.overflow_add-taken
overflow_add-taken c =
    let m = c.args.instance.now in
    let j = c.loop-other.other in
    let f = λ (k : _). per_unit m c.args.item k * (if k == c.args.next then 0 else start_in c.args.started.now k c.args.period) in
    let high : j ≤ item_count m = omega (arith, c.loop-other-test.true, c.items-other-end.ensures.value) in
    omega (
      arith,
      besides_small m c.args.started.now c.must_start_holds.ensures.totals c.items-other-end.ensures.instance c.requires.started c.args.item c.args.next c.args.period j c.requires.low c.requires.high c.requires.period high,
      sum_to_at j f c.loop-other.auto.other,
      c.taken_by-taken.ensures,
      c.loop-other.invariant,
    )

pub loop-other-preserved : goal.loop-other-preserved
loop-other-preserved c =
    let m = c.args.instance.now in
    let f = λ (k : _). per_unit m c.args.item k * (if k == c.args.next then 0 else start_in c.args.started.now k c.args.period) in
    omega (arith, sum_to_more c.loop-other.other f c.loop-other.auto.other, c.taken_by-taken.ensures, c.loop-other.invariant)

use Rattle.std.proofs.Common.{◌*◌, ap, arith}
use Rattle.lot_sizing.specs.Problem.{per_unit}
use Rattle.reduced_groups.proofs.Starting.{product_small}
use Rattle.reduced_groups.proofs.needs.taken_by.Goals as goal

pub overflow_mul-result : goal.overflow_mul-result
overflow_mul-result c =
    let small = product_small c.args.instance.now c.args.started.now c.must_start_holds.ensures.totals c.an_instance_breaks_no_rule.ensures c.requires.started c.args.item c.args.other c.args.period c.requires.low c.requires.high c.requires.other_low c.requires.other_high c.requires.period in
    omega (arith, small, ap (λ x. x * c.by_end.result) c.per_unit.ensures.value, ap (λ x. per_unit c.args.instance.now c.args.item c.args.other * x) c.by_end.ensures)

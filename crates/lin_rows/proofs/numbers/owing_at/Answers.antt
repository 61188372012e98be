use Rattle.std.proofs.Common.{◌-◌, ap, arith}
use Rattle.lin_rows.proofs.Places.{owing_past}
use Rattle.lin_rows.proofs.numbers.owing_at.Goals as goal

pub loop-item-preserved : goal.loop-item-preserved
loop-item-preserved c =
    let each = ap (λ n. n - 1) c.periods-each.ensures.value in
    record {
      left = owing_past c.args.instance.now c.loop-item.item c.owes.result (c.periods-each.result - 1) c.loop-item.left c.args.place c.loop-item.auto.item c.owes.ensures.value each c.loop-item.invariant.left (λ less. omega (arith, c.if-left-columns.false, less));
      each = each;
    }

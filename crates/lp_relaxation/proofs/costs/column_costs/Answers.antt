use Rattle.std.proofs.Common.{◌≡◌, ◌-◌, arith}
use Rattle.lin_rows.specs.Columns.{column_count}
use Rattle.lp_relaxation.proofs.Listing.{columns_few}
use Rattle.lp_relaxation.proofs.Making.{all_costs, costs_more}
use Rattle.lp_relaxation.proofs.costs.column_costs.Goals as goal

pub loop-number-preserved : goal.loop-number-preserved
loop-number-preserved c = costs_more c.args.instance.now c.loop-number.number c.cost_at.result c.loop-number.costs.items c.push.new.self.items c.loop-number.auto.number c.loop-number.invariant c.cost_at.ensures c.in_ok-push.ensures.items

pub returns : goal.returns
returns c =
    let e : c.loop-number.number - 1 ≡ column_count c.args.instance.now = omega (arith, c.loop-number-test.false, c.loop-number.auto.number-end, c.loop-number.auto.number, c.column_count-number-end.ensures) in
    all_costs c.args.instance.now (c.loop-number.number - 1) c.loop-number.costs.items e c.loop-number.invariant

pub overflow_add-number-end : goal.overflow_add-number-end
overflow_add-number-end c = omega (arith, c.column_count-number-end.ensures, columns_few c.args.instance.now c.items.ensures.instance.limits)

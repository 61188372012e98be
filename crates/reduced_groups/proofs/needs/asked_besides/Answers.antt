use Rattle.std.proofs.Common.{arith}
use Rattle.reduced_groups.proofs.Starting.{asked_small}
use Rattle.reduced_groups.proofs.needs.asked_besides.Goals as goal

pub overflow_add-result-2 : goal.overflow_add-result-2
overflow_add-result-2 c = omega (
  arith,
  asked_small c.args.instance.now c.args.started.now c.must_start_holds.ensures.totals c.an_instance_breaks_no_rule.ensures c.requires.started c.args.item c.args.next c.args.period c.requires.low c.requires.high c.requires.period,
  c.requires.demanded,
  c.end_min_by-end_min.ensures,
  c.taken_besides-taken.ensures,
)

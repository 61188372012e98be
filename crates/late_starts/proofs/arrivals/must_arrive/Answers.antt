use Rattle.std.proofs.Common.{arith}
use Rattle.must_start.proofs.Tables.{arrivals_small}
use Rattle.late_starts.proofs.arrivals.must_arrive.Goals as goal

pub overflow_add-demanded-2 : goal.overflow_add-demanded-2
overflow_add-demanded-2 c = omega (
  arith,
  arrivals_small c.args.instance.now c.args.table.now c.args.item c.args.period c.an_instance_breaks_no_rule.ensures c.requires.table c.requires.low c.requires.high c.requires.period,
  c.requires.demanded,
  c.end_min_by-end_min.ensures,
  c.taken_by_others-taken.ensures,
)

use Rattle.std.proofs.Common.{arith}
use Rattle.replan.proofs.drafting.item.Goals as goal

pub demand-requires-clause-owed : goal.demand-requires-clause-owed
demand-requires-clause-owed c = omega (arith, c.backlog.ensures, c.flows_after-flows.ensures.small_outflow, c.an_instance_breaks_no_rule.ensures.limits.periods, c.requires.inside)

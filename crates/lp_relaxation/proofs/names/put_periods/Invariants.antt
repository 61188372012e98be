use Rattle.std.proofs.Common.{◌-◌}
use Rattle.lp_relaxation.specs.Names.{PutNames, name_in, names_to}
use Rattle.lp_relaxation.proofs.names.put_periods.Given as goal

abbrev pub invariant-loop-period : goal.invariant-loop-period
invariant-loop-period l = PutNames l.instance l.fn.names.items (names_to (l.period - 1) (name_in l.kind l.first)) l.names.items

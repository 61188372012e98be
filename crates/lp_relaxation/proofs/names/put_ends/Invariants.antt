use Rattle.std.proofs.Common.{◌-◌}
use Rattle.lp_relaxation.specs.Names.{PutNames, end_name, names_to}
use Rattle.lp_relaxation.proofs.names.put_ends.Given as goal

abbrev pub invariant-loop-item : goal.invariant-loop-item
invariant-loop-item l = PutNames l.instance l.fn.names.items (names_to (l.item - 1) (end_name l.largest)) l.names.items

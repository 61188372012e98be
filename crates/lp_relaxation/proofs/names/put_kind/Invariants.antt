use Rattle.std.proofs.Common.{◌-◌}
use Rattle.lp_relaxation.specs.Names.{PutNames, cell_names, name_in}
use Rattle.lp_relaxation.proofs.names.put_kind.Given as goal

abbrev pub invariant-loop-first : goal.invariant-loop-first
invariant-loop-first l = PutNames l.instance l.fn.names.items (cell_names (l.first - 1) l.instance.periods (name_in l.kind)) l.names.items

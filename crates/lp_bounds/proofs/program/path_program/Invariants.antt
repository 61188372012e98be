use Rattle.lp_bounds.specs.Steps.{IsReadyTo}
use Rattle.lp_bounds.proofs.program.path_program.Given as goal

abbrev pub invariant-loop-index : goal.invariant-loop-index
invariant-loop-index l = IsReadyTo l.instance l.path l.index l.program

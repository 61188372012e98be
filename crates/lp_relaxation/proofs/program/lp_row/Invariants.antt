use Rattle.std.proofs.Common.{◌≡◌, map, take}
use Rattle.lp_relaxation.specs.Sides.{lp_term}
use Rattle.lp_relaxation.proofs.program.lp_row.Given as goal

abbrev pub invariant-loop-term : goal.invariant-loop-term
invariant-loop-term l = l.terms.items ≡ map (lp_term l.instance l.turned) (take l.term-index l.row.terms)

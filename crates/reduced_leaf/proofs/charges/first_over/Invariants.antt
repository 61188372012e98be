use Rattle.reduced_leaf.specs.Found.{ArePaidBefore}
use Rattle.reduced_leaf.proofs.charges.first_over.Given as goal

abbrev pub invariant-loop-period : goal.invariant-loop-period
invariant-loop-period l = ArePaidBefore l.instance l.sums l.den l.item l.row l.period

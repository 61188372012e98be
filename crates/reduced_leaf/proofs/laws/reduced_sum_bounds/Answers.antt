use Rattle.reduced_leaf.proofs.Same.{lacks_refutes, sum_bounds}
use Rattle.reduced_leaf.proofs.laws.reduced_sum_bounds.Goals as goal

pub returns-clause-bound : goal.returns-clause-bound
returns-clause-bound c = λ m rank total rows times den shapes sum some ranks totals signed columns is p f hold.
    sum_bounds m rank total rows times den shapes sum c.reduced_costs_bound.ensures.groups some ranks totals signed columns is p f hold

pub returns-clause-refute : goal.returns-clause-refute
returns-clause-refute c = λ m rank total rows times den shapes some ranks totals is p f.
    lacks_refutes m rank total rows times den shapes c.groups_bound.ensures.refute some ranks totals is p f

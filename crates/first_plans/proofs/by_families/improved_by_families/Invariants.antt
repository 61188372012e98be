use Rattle.first_plans.specs.Made.{IsNoDearer}
use Rattle.first_plans.proofs.by_families.improved_by_families.Given as goal

abbrev pub invariant-loop-round : goal.invariant-loop-round
invariant-loop-round l = IsNoDearer l.instance l.fn.planned l.best

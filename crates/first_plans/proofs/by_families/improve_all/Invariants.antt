use Rattle.first_plans.specs.Made.{IsNoDearer}
use Rattle.first_plans.proofs.by_families.improve_all.Given as goal

abbrev pub invariant-loop-least : goal.invariant-loop-least
invariant-loop-least l = IsNoDearer l.instance l.fn.best l.best

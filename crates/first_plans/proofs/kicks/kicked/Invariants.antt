use Rattle.first_plans.specs.Made.{IsNoDearer}
use Rattle.first_plans.proofs.kicks.kicked.Given as goal

abbrev pub invariant-loop-kick : goal.invariant-loop-kick
invariant-loop-kick l = IsNoDearer l.instance l.fn.planned l.best

-- Each plan is judged, and each problem has a feasible plan or none.
use Rattle.std.specs.Prelude.{◌⊎◌, ℕ, Result}
use Rattle.lot_sizing.specs.Problem.{Problem}
use Rattle.lot_sizing.specs.Plan.{IsFeasible, Plan}
use Rattle.lot_sizing.specs.Best.{IsImpossible}
use Rattle.lot_sizing.specs.Totals.{IsRanking}
use Rattle.plan_rules.specs.Broken.{IsBroken, IsJudged}
use Rattle.plan_rules.specs.declared.broken.Broken.{Broken}
use Rattle.plan_rules.specs.declared.plan.Plan as grids

-- a plan is feasible, or it isn't and some rule is the first that it breaks
abbrev pub PlansAreJudged : Type 0
PlansAreJudged = (m : Problem) (p : Plan) → IsFeasible m p ⊎ ((IsFeasible m p → ⊥) × (rule : Broken) × IsBroken m p rule)

-- of four grids something is found: a cost, another shape or a broken rule
abbrev pub GridsAreJudged : Type 0
GridsAreJudged = (m : Problem) (p : grids.Plan) → (found : Result ℕ Broken) × IsJudged m p found

-- a problem in which no item is its own component has a feasible plan, or it has none
abbrev pub PlansAreDecided : Type 0
PlansAreDecided = (m : Problem) (rank : ℕ → ℕ) → IsRanking m rank → ((p : Plan) × IsFeasible m p) ⊎ IsImpossible m

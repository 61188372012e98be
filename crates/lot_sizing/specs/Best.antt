-- What holds of all feasible plans.
use Rattle.std.specs.Prelude.{ℕ, ◌≤◌}
use Rattle.lot_sizing.specs.Problem.{Problem}
use Rattle.lot_sizing.specs.Plan.{Plan, IsFeasible, cost}

-- no plan is feasible
abbrev pub IsImpossible : Problem → Type 0
IsImpossible m = (p : Plan) → IsFeasible m p → ⊥

-- every feasible plan costs at least this
abbrev pub IsFloor : Problem → ℕ → Type 0
IsFloor m bound = (p : Plan) → IsFeasible m p → bound ≤ cost m p

-- the plan is feasible and none costs less
pub record IsBest (m : Problem) (p : Plan) : Type 0 where
  pub feasible : IsFeasible m p
  pub least : IsFloor m (cost m p)

-- What holds of lists of plans that were made without a search.
use Rattle.std.specs.Prelude.{◌≡◌, ◌≤◌, All, List, [], ◌∷◌, ◌++◌, Any, Option, Some, None}
use Rattle.lot_sizing.specs.Problem.{Problem, IsPlain}
use Rattle.lot_sizing.specs.Plan.{Plan, IsFeasible, cost}
use Rattle.plan_rules.specs.Held.{plan_of}
use Rattle.plan_rules.specs.declared.plan.Planned.{Planned}
use Rattle.own_plan.specs.OwnPeriod.{IsOwnPeriod}
pub use Rattle.own_plan.specs.Made.{IsMade, CostsAsOwn}
pub use Rattle.heur_items.specs.Improved.{IsNoDearer}

-- the own-period plan, which costs no more than any plan that has its numbers
pub record IsOwnMade (m : Problem) (q : Plan) (made : Planned) : Type 0 where
  pub own : IsOwnPeriod m (plan_of made.plan)
  pub cheap : made.cost ≤ cost m q

-- where the own-period plan is feasible, it is among these
abbrev pub HasOwn : Problem → List Planned → Type 0
HasOwn m list = (q : Plan) → IsOwnPeriod m q → IsFeasible m q → Any (IsOwnMade m q) list

-- there are none for a problem with lead times or bounds on lots
abbrev pub IsEmptyUnlessPlain : Problem → List Planned → Type 0
IsEmptyUnlessPlain m list = (IsPlain m → ⊥) → list ≡ []

-- the first list is where the second begins
abbrev pub IsLonger : List Planned → List Planned → Type 0
IsLonger old new = (more : List Planned) × (new ≡ old ++ more)

-- a list of plans that were made, which begins with these
pub record IsGrown (m : Problem) (old new : List Planned) : Type 0 where
  pub each : All (IsMade m) new
  pub longer : IsLonger old new

-- the list of what was found, if something was
abbrev pub those : Option Planned → List Planned
those None = []
those (Some made) = made ∷ []

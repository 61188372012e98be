-- The plans at which rows of an echelon hold, and the problems whose columns they have.
use Rattle.std.specs.Prelude.{ℕ, ◌≤◌, List}
use Rattle.std.specs.List.{All}
use Rattle.lot_sizing.specs.Problem.{Problem, item_count}
use Rattle.lot_sizing.specs.Plan.{Plan, IsFeasible}
use Rattle.echelon.specs.declared.net.EchelonItem.{EchelonItem}
use Rattle.echelon.specs.Weights.{IsEchelonOf}
use Rattle.echelon.specs.Balance.{IsBalancedIn}
use Rattle.lin_rows.specs.declared.row.Term.{Term}
use Rattle.lin_rows.specs.Columns.{IsColumn}

-- the echelon is that of an item of the problem
pub record IsOfItem (m : Problem) (weight : ℕ → ℕ → ℕ) (i : ℕ) (e : EchelonItem) : Type 0 where
  pub low : 1 ≤ i
  pub high : i ≤ item_count m
  pub echelon : IsEchelonOf m weight i e

-- a feasible plan in which the echelon balances, as each does whose item is lead-free
pub record IsPlanOf (m : Problem) (e : EchelonItem) (p : Plan) : Type 0 where
  pub feasible : IsFeasible m p
  pub balanced : IsBalancedIn m p e

-- at each such plan of each problem with this echelon
abbrev pub AtPlansOf : EchelonItem → (Plan → Type 0) → Type 0
AtPlansOf e P = (m : Problem) (weight : ℕ → ℕ → ℕ) (i : ℕ) → IsOfItem m weight i e → (p : Plan) → IsPlanOf m e p → P p

-- each problem with this echelon has the columns of these terms
abbrev pub AreColumnsOf : EchelonItem → List Term → Type 0
AreColumnsOf e terms = (m : Problem) (weight : ℕ → ℕ → ℕ) (i : ℕ) → IsOfItem m weight i e → All (λ a. IsColumn m a.column) terms

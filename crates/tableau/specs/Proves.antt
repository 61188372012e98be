-- What multipliers prove of all points.
use Rattle.std.specs.Prelude.{ℕ}
use Rattle.rational.specs.Rational.{ℚ, ◌≤ℚ◌}
use Rattle.tableau.specs.Program.{Program}
use Rattle.tableau.specs.Meaning.{AreBest, AreEmpty, IsFeasible, cost_sum}

-- no point costs less than the value, and none is left where the sum of right sides is positive
pub record OutcomesProve (p : Program) : Type 0 where
  pub best : (x y z : ℕ → ℚ) (value : ℚ) → AreBest p x y value → IsFeasible p z → value ≤ℚ cost_sum p z
  pub empty : (y z : ℕ → ℚ) → AreEmpty p y → IsFeasible p z → ⊥

abbrev pub AllOutcomesProve : Type 0
AllOutcomesProve = (p : Program) → OutcomesProve p

-- Whole multipliers, as a leaf of a certificate has them.
use Rattle.std.specs.Prelude.{◌≡◌, ◌≤◌, ◌<◌, ℕ, ℤ, pos}
use Rattle.rational.specs.Rational.{ℚ, whole, ◌*ℚ◌, ◌≤ℚ◌}
use Rattle.tableau.specs.Program.{Program, column_count, cost_at, row_count}
use Rattle.tableau.specs.Meaning.{AreBest, AreEmpty, AreNonnegative, column_sum, right_sum}

-- so many multipliers are whole after so many times
pub record AreWholeTimes (count : ℕ) (y : ℕ → ℚ) (den : ℕ) (z : ℕ → ℤ) : Type 0 where
  pub positive : 1 ≤ den
  pub each : (k : ℕ) → k < count → whole (z k) ≡ whole (pos den) *ℚ y k

-- times their least common denominator
pub record AreOfLeaf (count : ℕ) (y : ℕ → ℚ) (den : ℕ) (z : ℕ → ℤ) : Type 0 where
  pub times : AreWholeTimes count y den z
  pub least : (n : ℕ) (w : ℕ → ℤ) → AreWholeTimes count y n w → den ≤ n

-- a value, proved by whole multipliers over a denominator
pub record AreWholeBest (p : Program) (den : ℕ) (z : ℕ → ℤ) (value : ℚ) : Type 0 where
  pub multipliers : AreNonnegative p (λ k. whole (z k))
  pub columns : (c : ℕ) → c < column_count p → column_sum p (λ k. whole (z k)) c ≤ℚ whole (pos den) *ℚ cost_at p c
  pub right : right_sum p (λ k. whole (z k)) ≡ whole (pos den) *ℚ value

-- the multipliers of a leaf prove what those of the outcome prove
pub record LeavesProve (p : Program) (y : ℕ → ℚ) (den : ℕ) (z : ℕ → ℤ) : Type 0 where
  pub best : (x : ℕ → ℚ) (value : ℚ) → AreBest p x y value → AreWholeBest p den z value
  pub empty : AreEmpty p y → AreEmpty p (λ k. whole (z k))

abbrev pub AllLeavesProve : Type 0
AllLeavesProve = (p : Program) (y : ℕ → ℚ) (den : ℕ) (z : ℕ → ℤ) → AreOfLeaf (row_count p) y den z → LeavesProve p y den z

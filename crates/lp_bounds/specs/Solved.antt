-- What the run over a program comes to.
use Rattle.std.specs.Prelude.{◌≡◌, ℕ, ℤ, unsigned_abs}
use Rattle.rational.specs.Rational.{ℚ, IsCeiling}
use Rattle.tableau.specs.declared.outcome.Outcome.TheVariants as outcome
use Rattle.tableau.specs.Meaning.{AreBest, AreEmpty}
use Rattle.tableau.specs.Program.{Program}
use Rattle.tableau.specs.Stepwise.{IsEndOf}
use Rattle.lp_bounds.specs.declared.bound.BoundSays.{BoundSays}
use Rattle.lp_bounds.specs.declared.bound.BoundSays.TheVariants.{Bound, Empty, Skipped, Passed}

-- the amount of a number rounded up
pub record IsAmountRounded (value : ℚ) (n : ℕ) : Type 0 where
  pub rounded : ℤ
  pub ceiling : IsCeiling value rounded
  pub amount : n ≡ unsigned_abs rounded

-- a point and multipliers that prove it best, and the amount of its cost rounded up
pub record IsRoundedBest (p : Program) (n : ℕ) : Type 0 where
  pub point : ℕ → ℚ
  pub multipliers : ℕ → ℚ
  pub value : ℚ
  pub best : AreBest p point multipliers value
  pub amount : IsAmountRounded value n

abbrev pub IsSolved : Program → BoundSays → Type 0
IsSolved p (Bound n) = IsRoundedBest p n
IsSolved p Empty = (y : ℕ → ℚ) × AreEmpty p y
IsSolved p (Skipped cells) = ⊥
IsSolved p (Passed pivot row column) = IsEndOf p (outcome.Passed pivot row column)

-- The exact run of each linear program comes to something.
use Rattle.std.specs.Prelude.{◌⊎◌, ℕ}
use Rattle.rational.specs.Rational.{ℚ}
use Rattle.tableau.specs.declared.outcome.Outcome.TheVariants as outcome
use Rattle.tableau.specs.Program.{Program}
use Rattle.tableau.specs.Meaning.{AreBest, AreEmpty}
use Rattle.tableau.specs.Stepwise.{IsEndOf}

-- a point and multipliers that prove it best
abbrev pub HasProvedBest : Program → Type 0
HasProvedBest p = (x : ℕ → ℚ) × (y : ℕ → ℚ) × (value : ℚ) × AreBest p x y value

-- multipliers that leave no point
abbrev pub HasProvedNone : Program → Type 0
HasProvedNone p = (y : ℕ → ℚ) × AreEmpty p y

-- the run by the least-index rule comes to a number that doesn't fit 128 bits
abbrev pub HasUnfitNumber : Program → Type 0
HasUnfitNumber p = (pivot : ℕ) × (row : ℕ) × (column : ℕ) × IsEndOf p (outcome.Passed pivot row column)

-- the run of each program ends with a best point or with none, or comes to such a number
abbrev pub RunsComeOut : Type 0
RunsComeOut = (p : Program) → HasProvedBest p ⊎ (HasProvedNone p ⊎ HasUnfitNumber p)

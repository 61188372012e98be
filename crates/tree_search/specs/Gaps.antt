-- How far a cost lies above a number that no plan costs less than.
use Rattle.std.specs.Prelude.{ℕ, ◌+◌, ◌*◌, ◌≤◌, Option, Some, None}

-- the best cost lies no more than the gap above the bound, where the gap is in hundredths of a percent of that cost; this isn't so with no gap or no plan
abbrev pub IsWithinGap : Option ℕ → ℕ → Option ℕ → Type 0
IsWithinGap None bound best = ⊥
IsWithinGap (Some gap) bound None = ⊥
IsWithinGap (Some gap) bound (Some cost) = 10000 * cost ≤ 10000 * bound + gap * cost

-- the same of the least number that a leaf says; where there is none, no leaf has a plan
abbrev pub IsNear : Option ℕ → Option ℕ → Option ℕ → Type 0
IsNear gap None best = Unit {0}
IsNear gap (Some bound) best = IsWithinGap gap bound best

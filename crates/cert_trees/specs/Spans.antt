-- Ranges of numbers.
use Rattle.std.specs.Prelude.{ℕ, ◌≤◌}

-- the numbers from a low to a high one
pub record Span : Type 0 where
  pub low : ℕ
  pub high : ℕ

abbrev pub IsIn : Span → ℕ → Type 0
IsIn s n = (s.low ≤ n) × (n ≤ s.high)

-- the two numbers that a program has of a range
abbrev pub span_of : ℕ × ℕ → Span
span_of range = record { low = range.0; high = range.1 }

-- The variables that are basic.
use Rattle.std.specs.Prelude.{◌≡◌, ◌≤◌, ◌+◌, ℕ, zero, suc, Bool, true, false, if◌then◌else◌, ◌==◌}
use Rattle.tableau.specs.Program.{Program, column_count, row_count}
use Rattle.tableau.specs.Dictionary.{Dictionary, basic_at, height}
use Rattle.tableau.specs.Run.{IsStep, Rule}

-- whether a number is one of f 0, .., f (n - 1)
abbrev pub is_among : ℕ → (ℕ → ℕ) → ℕ → Bool
is_among zero f v = false
is_among (suc n) f v = if f n == v then true else is_among n f v

-- whether a variable is that of a row
abbrev pub is_basic : Dictionary → ℕ → Bool
is_basic d v = is_among (height d) (basic_at d) v

-- how many variables there are beside the cost: columns and slacks
abbrev pub variable_count : Program → ℕ
variable_count p = column_count p + row_count p

-- the same variables are basic
abbrev pub HasSameBasis : Program → Dictionary → Dictionary → Type 0
HasSameBasis p d e = (v : ℕ) → 1 ≤ v → v ≤ variable_count p → is_basic d v ≡ is_basic e v

-- so many pivots by the rule lead from a dictionary to another
abbrev pub Leads : Rule → Dictionary → ℕ → Dictionary → Type 0
Leads rule d zero e = e ≡ d
Leads rule d (suc n) e = (f : Dictionary) × Leads rule d n f × IsStep rule f e

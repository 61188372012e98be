-- Bounds of a column, as the sides of a branch set them, and their rows.
use Rattle.std.specs.Prelude.{ℕ, ◌*◌, ◌≤◌, Bool, true, false, ℤ, pos, negsuc, neg_ℤ, [], ◌∷◌}
use Rattle.lin_rows.specs.declared.bound.Bound.{Bound}
use Rattle.lin_rows.specs.Base.{term}
use Rattle.lin_rows.specs.Rows.{LinPoint, LinRow}

-- at most the number, or at least it
abbrev pub IsWithinNumber : Bool → ℕ → ℕ → Type 0
IsWithinNumber true number value = value ≤ number
IsWithinNumber false number value = number ≤ value

-- the column's value at the point is within the bound; both are multiplied by the denominator
abbrev pub MeetsBound : LinPoint → Bound → Type 0
MeetsBound q b = IsWithinNumber b.most (b.number * q.den) (q.values b.column)

-- how many times the row of a bound takes the column, and its right side
abbrev pub bound_times : Bool → ℤ
bound_times true = negsuc 0
bound_times false = pos 1

abbrev pub bound_right : Bool → ℕ → ℤ
bound_right true number = neg_ℤ (pos number)
bound_right false number = pos number

-- the row of a bound: - column >= - number, or column >= number
abbrev pub bound_row : Bound → LinRow
bound_row b = record { terms = term b.column (bound_times b.most) ∷ []; right = bound_right b.most b.number; equal = false }

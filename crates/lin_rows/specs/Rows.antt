-- Rows, and when they hold.
use Rattle.std.specs.Prelude.{◌≡◌, ◌≢◌, ℕ, ◌+◌, ◌≤◌, Bool, true, false, ℤ, pos, ◌+ℤ◌, ◌*ℤ◌, ◌≤ℤ◌, List, [], ◌∷◌, ⊤, unsigned_abs}
use native.Mathlib.Nat.{le_refl}
use Rattle.std.specs.List.{All}
use Rattle.algebra.specs.Sums.{list_sum_with}
use Rattle.lot_sizing.specs.Plan.{Plan}
use Rattle.lot_sizing.specs.declared.limits.TheConstants.{MAX_END_STOCK, MAX_TOTAL}
use Rattle.lin_rows.specs.declared.column.Column.{Column}
use Rattle.lin_rows.specs.declared.row.Term.{Term}
use Rattle.lin_rows.specs.Columns.{order_of, value_in}

-- a row: its terms, its right side, and whether they are equal
pub record LinRow : Type 0 where
  pub terms : List Term
  pub right : ℤ
  pub equal : Bool

-- the columns rise from this place on, and none is taken 0 times
abbrev pub AreTerms : ℕ → List Term → Type 0
AreTerms low [] = ⊤
AreTerms low (a ∷ rest) = (low ≤ order_of a.column) × (a.times ≢ pos 0) × AreTerms (order_of a.column + 1) rest

-- a value of each column, at least 0
abbrev pub Values : Type 0
Values = Column → ℕ

-- a point: a numerator of each column over one common denominator, which is at least 1
pub record LinPoint : Type 0 where
  pub values : Values
  pub den : ℕ
  pub positive : 1 ≤ den

-- the point of whole values
abbrev pub whole_point : Values → LinPoint
whole_point v = record { values = v; den = 1; positive = le_refl 1 }

-- what the terms add to
abbrev pub sum_at : Values → List Term → ℤ
sum_at v terms = list_sum_with ◌+ℤ◌ (pos 0) (λ a. a.times *ℤ pos (v a.column)) terms

abbrev pub IsHeld : Bool → ℤ → ℤ → Type 0
IsHeld true left right = left ≡ right
IsHeld false left right = right ≤ℤ left

-- the row holds at a point; both sides are multiplied by the denominator
abbrev pub HoldsAt : LinPoint → LinRow → Type 0
HoldsAt q row = IsHeld row.equal (sum_at q.values row.terms) (row.right *ℤ pos q.den)

-- the row holds at a plan, which is a point of whole values
abbrev pub HoldsIn : Plan → LinRow → Type 0
HoldsIn p row = HoldsAt (whole_point (value_in p)) row

-- no multiple is past the largest total, and the right side is not past the largest end stock
pub record IsSmallRow (row : LinRow) : Type 0 where
  pub times : All (λ a. unsigned_abs a.times ≤ MAX_TOTAL) row.terms
  pub right : unsigned_abs row.right ≤ MAX_END_STOCK

-- What the bounds on a path from the root leave to each quantity and setup.
use Rattle.std.specs.Prelude.{◌≡◌, ◌↔◌, ℕ, min, max, Bool, true, false, List, [], ◌∷◌, if◌then◌else◌}
use Rattle.std.specs.List.{All}
use Rattle.lot_sizing.specs.Problem.{Problem}
use Rattle.lin_rows.specs.declared.bound.Bound.{Bound}
use Rattle.lin_rows.specs.declared.column.Column.{Column}
use Rattle.lin_rows.specs.declared.column.Column.TheVariants.{X}
use Rattle.lin_rows.specs.Bounds.{IsWithinNumber}
use Rattle.lin_rows.specs.Rows.{Values}
use Rattle.lin_rows.specs.Sums.{same_column}
use Rattle.cert_trees.specs.Spans.{IsIn, Span, span_of}
use Rattle.cert_trees.specs.Ranges.{IsChoice, Ranges, WithTotals, whole_ranges}

-- the bounds that the low and the high side of a branch set
abbrev pub at_most : Column → ℕ → Bound
at_most c n = record { column = c; most = true; number = n }

abbrev pub at_least : Column → ℕ → Bound
at_least c n = record { column = c; most = false; number = n }

-- what is read past the end of a path
abbrev pub no_bound : Bound
no_bound = at_least (X 0 0) 0

-- the values meet a bound, and all bounds of a path
abbrev pub IsMet : Values → Bound → Type 0
IsMet v b = IsWithinNumber b.most b.number (v b.column)

abbrev pub AreMet : Values → List Bound → Type 0
AreMet v path = All (IsMet v) path

-- a number meets each bound of the path on this column
abbrev pub MeetsOn : List Bound → Column → ℕ → Type 0
MeetsOn path c n = All (λ b. b.column ≡ c → IsWithinNumber b.most b.number n) path

-- each bound is on a quantity or a setup of the problem
abbrev pub AreChoices : Problem → List Bound → Type 0
AreChoices m path = All (λ b. IsChoice m b.column) path

-- what a number that is the greatest, or the least, leaves of a range
abbrev pub cut_span : Bool → ℕ → Span → Span
cut_span true number s = record { low = s.low; high = min s.high number }
cut_span false number s = record { low = max s.low number; high = s.high }

-- what a bound leaves of a column's range: a bound on another column leaves all of it
abbrev pub narrowed : Span → Bound → Column → Span
narrowed s b c = if same_column b.column c then cut_span b.most b.number s else s

-- what a path leaves of it
abbrev pub left_to : Span → List Bound → Column → Span
left_to s [] c = s
left_to s (b ∷ path) c = left_to (narrowed s b c) path c

-- what a path leaves of the ranges
abbrev pub left_by : Ranges → List Bound → Ranges
left_by ranges path c = left_to (ranges c) path c

-- these are the numbers that a path leaves to a column, which starts from its whole range
abbrev pub IsRangeLeft : Problem → List Bound → Column → ℕ × ℕ → Type 0
IsRangeLeft m path c range = WithTotals m (λ total. span_of range ≡ left_by (whole_ranges total) path c)

-- in plain words: a number is in the range where it is in the whole range and meets each bound of the path on this column
abbrev pub HasNumbersLeft : Problem → List Bound → Column → ℕ × ℕ → Type 0
HasNumbersLeft m path c range = WithTotals m (λ total. (n : ℕ) → IsIn (span_of range) n ↔ (IsIn (whole_ranges total c) n × MeetsOn path c n))

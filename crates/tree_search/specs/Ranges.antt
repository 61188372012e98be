-- The ranges of the columns that are branched on: how many choices lie in them, and how often they can be halved.
use Rattle.std.specs.Prelude.{◌≡◌, ℕ, zero, suc, ◌+◌, ◌-◌, ◌*◌, ◌/◌, ◌≤◌, ◌<◌, max, ◌==◌, if◌then◌else◌, List, [], ◌∷◌, length, slice_index_or, slice_set}
use Rattle.cert_lines.specs.declared.limits.TheConstants.{MAX_BRANCHES}
use Rattle.tree_search.specs.declared.node.Range.{Range}

-- how many numbers a range has beside its least one
abbrev pub width : Range → ℕ
width r = r.high - r.low

-- how many choices the ranges leave
abbrev pub volume : List Range → ℕ
volume [] = 1
volume (r ∷ rs) = (width r + 1) * volume rs

-- the binary digits of a number, at most so many; 0 has none
abbrev pub digits_in : ℕ → ℕ → ℕ
digits_in zero n = 0
digits_in (suc most) n = if n == 0 then 0 else digits_in most (n / 2) + 1

abbrev pub digits : ℕ → ℕ
digits n = digits_in n n

-- the binary digits of all widths
abbrev pub height : List Range → ℕ
height [] = 0
height (r ∷ rs) = digits (width r) + height rs

-- no range is upside down
abbrev pub AreOrdered : List Range → Type 0
AreOrdered [] = Unit {0}
AreOrdered (r ∷ rs) = (r.low ≤ r.high) × AreOrdered rs

-- each range leaves one number
abbrev pub IsPoint : List Range → Type 0
IsPoint [] = Unit {0}
IsPoint (r ∷ rs) = (r.low ≡ r.high) × IsPoint rs

abbrev pub no_range : Range
no_range = record { low = 0; high = 0 }

-- the range at a place, counted from 0
abbrev pub range_at : List Range → ℕ → Range
range_at rs k = slice_index_or rs k no_range

-- the numbers up to one of a range, and those above it
abbrev pub low_part : Range → ℕ → Range
low_part r at = record { low = r.low; high = at }

abbrev pub high_part : Range → ℕ → Range
high_part r at = record { low = at + 1; high = r.high }

-- the ranges on the two sides of a branch
abbrev pub low_side : List Range → ℕ → ℕ → List Range
low_side rs k at = slice_set rs k (low_part (range_at rs k) at)

abbrev pub high_side : List Range → ℕ → ℕ → List Range
high_side rs k at = slice_set rs k (high_part (range_at rs k) at)

-- the number splits the range at the place in two
abbrev pub IsSplitAt : List Range → ℕ → ℕ → Type 0
IsSplitAt rs k at = (k < length rs) × ((range_at rs k).low ≤ at) × (at < (range_at rs k).high)

-- and leaves less height on both sides
abbrev pub IsLowered : List Range → ℕ → ℕ → Type 0
IsLowered rs k at = (height (low_side rs k at) < height rs) × (height (high_side rs k at) < height rs)

-- below so many branches, each side of a branch has room for its height on a path of MAX_BRANCHES branches, or has less than there was
abbrev pub IsAllowed : ℕ → List Range → ℕ → ℕ → Type 0
IsAllowed depth rs k at =
    (depth + 1 + height (low_side rs k at) ≤ max MAX_BRANCHES (depth + height rs))
    × (depth + 1 + height (high_side rs k at) ≤ max MAX_BRANCHES (depth + height rs))

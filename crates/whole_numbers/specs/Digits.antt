-- Whole numbers as texts.
use Rattle.std.specs.Prelude.{◌≡◌, ℕ, ◌<◌, List, length, slice_index_or}
use Rattle.std.specs.Str.Parse.{IsNumeral}

-- two or more bytes, the first of which is the digit 0
abbrev pub StartsWithZero : List ℕ → Type 0
StartsWithZero text = (1 < length text) × (slice_index_or text 0 0 ≡ 48)

-- decimal digits, and no 0 before others
pub record IsWholeText (text : List ℕ) : Type 0 where
  pub digits : IsNumeral 10 text
  pub plain : StartsWithZero text → ⊥

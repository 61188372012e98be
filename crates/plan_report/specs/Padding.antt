-- Texts in columns.
use Rattle.std.specs.Prelude.{ℕ, ◌-◌, List, ◌++◌, codes, length, replicate}

-- so many blanks
unfoldable pub blanks : ℕ → List ℕ
blanks n = replicate n 32

-- a text at the left of a column of this width
unfoldable pub at_left : ℕ → List ℕ → List ℕ
at_left width text = text ++ blanks (width - length text)

-- a text at the right of a column of this width, after a blank
unfoldable pub at_right : ℕ → List ℕ → List ℕ
at_right width text = codes " " ++ (blanks (width - length text) ++ text)

-- Numbers as they are shown.
use Rattle.std.specs.Prelude.{ℕ, zero, suc, ◌+◌, ◌-◌, ◌*◌, ◌/◌, ◌%◌, List, ◌++◌, codes, decimal, if◌then◌else◌, max, nat_lt}
use Rattle.std.specs.Int.{div_ceil}

-- the last three digits of a number, after a comma
unfoldable pub last_digits : ℕ → List ℕ
last_digits n = codes "," ++ (decimal (n / 100 % 10) ++ (decimal (n / 10 % 10) ++ decimal (n % 10)))

-- a number in groups of three digits with commas between, as 12,058; so many commas at most
unfoldable pub groups : ℕ → ℕ → List ℕ
groups zero n = decimal n
groups (suc commas) n = if nat_lt n 1000 then decimal n else groups commas (n / 1000) ++ last_digits n

-- a number has fewer commas than units
unfoldable pub grouped : ℕ → List ℕ
grouped n = groups n n

-- the classes of an item's marks: one of eight colours, and one of five edges
unfoldable pub paint_text : ℕ → List ℕ
paint_text i = codes "c" ++ (decimal ((i - 1) % 8) ++ (codes " e" ++ decimal ((i - 1) / 8)))

-- how many hundredths of the whole a part is, rounded down
unfoldable pub percent : ℕ → ℕ → ℕ
percent part whole = part * 100 / max whole 1

-- to the nearest
unfoldable pub share : ℕ → ℕ → ℕ
share part whole = (part * 200 + whole) / max (whole * 2) 1

-- how many thousandths, rounded up
unfoldable pub permille : ℕ → ℕ → ℕ
permille part whole = div_ceil (part * 1000) (max whole 1)

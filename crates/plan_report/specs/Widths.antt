-- How wide the columns of a table are.
use Rattle.std.specs.Prelude.{ℕ, zero, suc, ◌==◌, ◌&&◌, List, Bool, true, false, codes, decimal, if◌then◌else◌, length, max}
use Rattle.lot_sizing.specs.Problem.{Problem, item_at, item_count, resource_at, resource_count}
use Rattle.lot_sizing.specs.Plan.{Plan}
use Rattle.plan_report.specs.Figures.{number_of, row_count}
use Rattle.plan_report.specs.declared.figures.Series.{Series}
use Rattle.plan_report.specs.declared.figures.Series.TheVariants.{Free, Load}
use Rattle.plan_report.specs.declared.widths.TheConstants.{TITLE_WIDTH}

-- the largest of f 1, .., f n, and 0 of none
abbrev pub max_to : ℕ → (ℕ → ℕ) → ℕ
max_to zero f = 0
max_to (suc n) f = max (max_to n f) (f (suc n))

-- the numbers of items have a dot for 0, those of resources a 0
unfoldable pub has_dots : Series → Bool
has_dots Free = false
has_dots Load = false
has_dots _ = true

-- a number as a table has it
unfoldable pub shown : Series → ℕ → List ℕ
shown s n = if has_dots s && n == 0 then codes "." else decimal n

unfoldable pub cell_text : Problem → Plan → Series → ℕ → ℕ → List ℕ
cell_text m p s r t = shown s (number_of m p s r t)

-- the width of the widest number of a period
unfoldable pub head_width : ℕ → ℕ
head_width periods = max_to periods (λ t. length (decimal t))

-- the width of the widest number of a row
unfoldable pub row_width : Problem → Plan → Series → ℕ → ℕ
row_width m p s r = max_to m.periods (λ t. length (cell_text m p s r t))

-- the width of all columns of a table: that of its widest number, those of the periods among them
unfoldable pub column_width : Problem → Plan → Series → ℕ
column_width m p s = max (head_width m.periods) (max_to (row_count m s) (row_width m p s))

-- the width of the first column of all tables: that of the longest name or title
unfoldable pub label_width : Problem → ℕ
label_width m = max (max_to (item_count m) (λ i. length (item_at m i).name)) (max (max_to (resource_count m) (λ k. length (resource_at m k).name)) TITLE_WIDTH)

-- How long the lines of tables are.
use Rattle.std.proofs.Common.{◌≡◌, ◌≤◌, ◌+◌, ◌-◌, ◌*◌, ⊎_elim, ℕ, zero, suc, List, ◌++◌, length, max, decimal, sym, subst, arith}
use Rattle.std.specs.Prelude.{codes}
use Rattle.std.proofs.lemmas.List.{length-append, length-replicate}
use Rattle.std.proofs.lemmas.Bool.{cases_eq}
use Rattle.lot_sizing.specs.Problem.{Problem, item_at, item_count, resource_at, resource_count}
use Rattle.lot_sizing.specs.Plan.{Plan}
use Rattle.lot_sizing.specs.Texts.{join_to}
use Rattle.plan_report.specs.Figures.{row_count, row_name, title_of}
use Rattle.plan_report.specs.Laws.{line_length, line_of}
use Rattle.plan_report.specs.Padding.{at_left, at_right, blanks}
use Rattle.plan_report.specs.Tables.{head_cell, head_cells, head_line, row_cell, row_cells, row_line}
use Rattle.plan_report.specs.Widths.{cell_text, column_width, head_width, label_width, max_to, row_width}
use Rattle.plan_report.specs.declared.figures.Series.{Series}
use Rattle.plan_report.specs.declared.figures.Series.TheVariants.{Made, Setup, Stock, Backlog, Capacity, Used, Free, Load}
use Rattle.plan_report.specs.declared.widths.TheConstants.{TITLE_WIDTH}

-- ---- the widest is as wide as each
max_to_most : (n : ℕ) (f : ℕ → ℕ) (k : ℕ) → 1 ≤ k → k ≤ n → f k ≤ max_to n f
max_to_most zero f k low high = absurd (omega (arith, low, high))
max_to_most (suc n) f k low high =
    ⊎_elim
    (λ here. subst (λ j. f j ≤ max (max_to n f) (f (suc n))) (sym here) (omega arith))
    (λ other. omega (arith, max_to_most n f k low (omega (arith, high, other))))
    (cases_eq k (suc n))

-- ---- texts in columns
left_length : (width : ℕ) (text : List ℕ) → length text ≤ width → length (at_left width text) ≡ width
unfolding at_left blanks
left_length width text h = omega (arith, h, length-append text (blanks (width - length text)), length-replicate {A = ℕ} (width - length text) 32)

right_length : (width : ℕ) (text : List ℕ) → length text ≤ width → length (at_right width text) ≡ 1 + width
unfolding at_right blanks
right_length width text h = omega (arith, h, length-append (blanks (width - length text)) text, length-replicate {A = ℕ} (width - length text) 32)

joined_length : (n : ℕ) (g : ℕ → List ℕ) (c : ℕ) → ((k : ℕ) → 1 ≤ k → k ≤ n → length (g k) ≡ c) → length (join_to n g) ≡ n * c
joined_length zero g c h = omega arith
joined_length (suc n) g c h =
    let more = joined_length n g c (λ k low high. h k low (omega (arith, high))) in
    omega (arith, length-append (join_to n g) (g (suc n)), more, h (suc n) (omega arith) (omega arith))

-- a first column, others and a line feed
whole_length : (w c : ℕ) (label cells : List ℕ) → length label ≡ w → length cells ≡ c → length (label ++ (cells ++ codes "\n")) ≡ w + c + 1
whole_length w c label cells h k = omega (arith, h, k, length-append label (cells ++ codes "\n"), length-append cells (codes "\n"))

-- ---- the first column
title_short : (s : Series) → length (title_of s) ≤ TITLE_WIDTH
unfolding title_of
title_short Made = omega arith
title_short Setup = omega arith
title_short Stock = omega arith
title_short Backlog = omega arith
title_short Capacity = omega arith
title_short Used = omega arith
title_short Free = omega arith
title_short Load = omega arith

title_fits : (m : Problem) (s : Series) → length (title_of s) ≤ label_width m
unfolding label_width
title_fits m s = omega (arith, title_short s)

item_fits : (m : Problem) (i : ℕ) → 1 ≤ i → i ≤ item_count m → length (item_at m i).name ≤ label_width m
unfolding label_width
item_fits m i low high = omega (arith, max_to_most (item_count m) (λ j. length (item_at m j).name) i low high)

resource_fits : (m : Problem) (k : ℕ) → 1 ≤ k → k ≤ resource_count m → length (resource_at m k).name ≤ label_width m
unfolding label_width
resource_fits m k low high = omega (arith, max_to_most (resource_count m) (λ j. length (resource_at m j).name) k low high)

name_fits : (m : Problem) (s : Series) (r : ℕ) → 1 ≤ r → r ≤ row_count m s → length (row_name m s r) ≤ label_width m
unfolding row_count row_name
name_fits m Made r low high = item_fits m r low high
name_fits m Setup r low high = item_fits m r low high
name_fits m Stock r low high = item_fits m r low high
name_fits m Backlog r low high = item_fits m r low high
name_fits m Capacity r low high = resource_fits m r low high
name_fits m Used r low high = resource_fits m r low high
name_fits m Free r low high = resource_fits m r low high
name_fits m Load r low high = resource_fits m r low high

-- ---- the other columns
period_fits : (m : Problem) (p : Plan) (s : Series) (t : ℕ) → 1 ≤ t → t ≤ m.periods → length (decimal t) ≤ column_width m p s
unfolding column_width head_width
period_fits m p s t low high = omega (arith, max_to_most m.periods (λ j. length (decimal j)) t low high)

cell_fits : (m : Problem) (p : Plan) (s : Series) (r t : ℕ) → 1 ≤ r → r ≤ row_count m s → 1 ≤ t → t ≤ m.periods → length (cell_text m p s r t) ≤ column_width m p s
unfolding column_width row_width
cell_fits m p s r t row_low row_high low high =
    omega (arith, max_to_most m.periods (λ j. length (cell_text m p s r j)) t low high, max_to_most (row_count m s) (λ j. max_to m.periods (λ u. length (cell_text m p s j u))) r row_low row_high)

heads_length : (m : Problem) (p : Plan) (s : Series) → length (head_cells (column_width m p s) m.periods) ≡ m.periods * (1 + column_width m p s)
unfolding head_cells head_cell
heads_length m p s =
    joined_length m.periods (λ t. at_right (column_width m p s) (decimal t)) (1 + column_width m p s)
    (λ t low high. right_length (column_width m p s) (decimal t) (period_fits m p s t low high))

cells_length : (m : Problem) (p : Plan) (s : Series) (r : ℕ) → 1 ≤ r → r ≤ row_count m s → length (row_cells (column_width m p s) m p s r) ≡ m.periods * (1 + column_width m p s)
unfolding row_cells row_cell
cells_length m p s r row_low row_high =
    joined_length m.periods (λ t. at_right (column_width m p s) (cell_text m p s r t)) (1 + column_width m p s)
    (λ t low high. right_length (column_width m p s) (cell_text m p s r t) (cell_fits m p s r t row_low row_high low high))

-- ---- the lines
pub head_length : (m : Problem) (p : Plan) (s : Series) → length (head_line (label_width m) (column_width m p s) m.periods s) ≡ line_length m p s
unfolding head_line
head_length m p s =
    whole_length (label_width m) (m.periods * (1 + column_width m p s)) (at_left (label_width m) (title_of s)) (head_cells (column_width m p s) m.periods)
    (left_length (label_width m) (title_of s) (title_fits m s)) (heads_length m p s)

pub row_length : (m : Problem) (p : Plan) (s : Series) (r : ℕ) → 1 ≤ r → r ≤ row_count m s → length (line_of m p s r) ≡ line_length m p s
unfolding row_line
row_length m p s r low high =
    whole_length (label_width m) (m.periods * (1 + column_width m p s)) (at_left (label_width m) (row_name m s r)) (row_cells (column_width m p s) m p s r)
    (left_length (label_width m) (row_name m s r) (name_fits m s r low high)) (cells_length m p s r low high)

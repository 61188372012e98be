-- A plan as tables for a terminal.
use Rattle.std.specs.Prelude.{ℕ, List, [], ◌++◌, codes, decimal, if◌then◌else◌, nat_lt}
use Rattle.lot_sizing.specs.Problem.{Problem, item_count, resource_count}
use Rattle.lot_sizing.specs.Plan.{Plan, cost}
use Rattle.lot_sizing.specs.Texts.{join_to}
use Rattle.plan_report.specs.Figures.{row_count, row_name, title_of}
use Rattle.plan_report.specs.Padding.{at_left, at_right}
use Rattle.plan_report.specs.Parts.{part_total}
use Rattle.plan_report.specs.Widths.{cell_text, column_width, label_width, max_to}
use Rattle.plan_report.specs.declared.figures.Series.{Series}
use Rattle.plan_report.specs.declared.figures.Series.TheVariants.{Made, Stock, Backlog, Free, Load}
use Rattle.plan_report.specs.declared.parts.Part.TheVariants.{Setups, Making, Holding, Owing}

-- the number of a period at the head of its column
unfoldable pub head_cell : ℕ → ℕ → List ℕ
head_cell width t = at_right width (decimal t)

-- the numbers of all periods
unfoldable pub head_cells : ℕ → ℕ → List ℕ
head_cells width periods = join_to periods (head_cell width)

-- the head of a table: its title and the periods
unfoldable pub head_line : ℕ → ℕ → ℕ → Series → List ℕ
head_line labels width periods s = at_left labels (title_of s) ++ (head_cells width periods ++ codes "\n")

-- a number in its column
unfoldable pub row_cell : ℕ → Problem → Plan → Series → ℕ → ℕ → List ℕ
row_cell width m p s r t = at_right width (cell_text m p s r t)

-- those of all periods
unfoldable pub row_cells : ℕ → Problem → Plan → Series → ℕ → List ℕ
row_cells width m p s r = join_to m.periods (row_cell width m p s r)

-- the line of an item or of a resource: its name and its numbers
unfoldable pub row_line : ℕ → ℕ → Problem → Plan → Series → ℕ → List ℕ
row_line labels width m p s r = at_left labels (row_name m s r) ++ (row_cells width m p s r ++ codes "\n")

-- the lines of all
unfoldable pub row_lines : ℕ → ℕ → Problem → Plan → Series → List ℕ
row_lines labels width m p s = join_to (row_count m s) (row_line labels width m p s)

-- a table with columns of these widths, and an empty line after it
unfoldable pub table_of_widths : ℕ → ℕ → Problem → Plan → Series → List ℕ
table_of_widths labels width m p s = head_line labels width m.periods s ++ (row_lines labels width m p s ++ codes "\n")

unfoldable pub table : Problem → Plan → Series → List ℕ
table m p s = table_of_widths (label_width m) (column_width m p s) m p s

-- the largest backlog of all
unfoldable pub largest_backlog : Problem → Plan → ℕ
largest_backlog m p = max_to (item_count m) (λ i. max_to m.periods (p.backlog i))

-- the backlogs, where there is one
unfoldable pub backlog_table : Problem → Plan → List ℕ
backlog_table m p = if nat_lt 0 (largest_backlog m p) then table m p Backlog else []

-- the loads and the free time, where there are resources
unfoldable pub load_tables : Problem → Plan → List ℕ
load_tables m p = if nat_lt 0 (resource_count m) then table m p Load ++ table m p Free else []

-- the cost and its parts
unfoldable pub cost_line : ℕ → ℕ → ℕ → ℕ → ℕ → List ℕ
cost_line total setups making holding backlog =
    codes "Cost " ++ (decimal total ++ (codes " = setups " ++ (decimal setups ++ (codes " + making " ++ (decimal making
    ++ (codes " + holding " ++ (decimal holding ++ (codes " + backlog " ++ (decimal backlog ++ codes "\n")))))))))

unfoldable pub plan_cost_line : Problem → Plan → List ℕ
plan_cost_line m p = cost_line (cost m p) (part_total m p Setups) (part_total m p Making) (part_total m p Holding) (part_total m p Owing)

-- the text: lots, stocks, backlogs where there are some, loads, free times and the cost
unfoldable pub table_text : Problem → Plan → List ℕ
table_text m p = table m p Made ++ (table m p Stock ++ (backlog_table m p ++ (load_tables m p ++ plan_cost_line m p)))

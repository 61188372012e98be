-- The table of a resource: its numbers by period, with a column for each item that takes time of it.
use Rattle.std.specs.Prelude.{ℕ, ◌+◌, List, [], ◌++◌, Bool, codes, decimal, if◌then◌else◌, nat_lt}
use Rattle.lot_sizing.specs.Problem.{Problem, capacity, item_at, item_count, setup_time, unit_time}
use Rattle.lot_sizing.specs.Plan.{Plan, time_used}
use Rattle.lot_sizing.specs.Texts.{join_to}
use Rattle.plan_page.specs.Loads.{run_time, setup_time_used}
use Rattle.plan_page.specs.Numbers.{grouped, percent}

-- an item takes time of a resource
unfoldable pub takes_time : Problem → ℕ → ℕ → Bool
takes_time m k i = nat_lt 0 (unit_time m i k + setup_time m i k)

-- the name of an item that does
unfoldable pub name_cell : Problem → ℕ → ℕ → List ℕ
name_cell m k i = if takes_time m k i then codes "<th>" ++ ((item_at m i).name ++ codes "</th>") else []

-- the start of the table
unfoldable pub table_start : List ℕ
table_start = codes "<details><summary>Numbers</summary><p>For each item: run time + setup time</p><div class=\"scroll\"><table><thead><tr><th>Period</th><th>Capacity</th><th>Used</th><th>Share</th>"

-- the names of all items that do
unfoldable pub name_cells : Problem → ℕ → List ℕ
name_cells m k = join_to (item_count m) (name_cell m k)

-- the row of names
unfoldable pub load_heads : Problem → ℕ → List ℕ
load_heads m k = table_start ++ (name_cells m k ++ codes "</tr></thead><tbody>\n")

-- the run time and the setup time of a lot
unfoldable pub time_cell : ℕ → ℕ → List ℕ
time_cell run setup = codes "<td>" ++ (grouped run ++ (codes " + " ++ (grouped setup ++ codes "</td>")))

-- those of an item in a period, if it takes time
unfoldable pub load_cell : Problem → Plan → ℕ → ℕ → ℕ → List ℕ
load_cell m p k t i = if takes_time m k i then time_cell (run_time m p k t i) (setup_time_used m p k t i) else []

unfoldable pub load_cells : Problem → Plan → ℕ → ℕ → List ℕ
load_cells m p k t = join_to (item_count m) (load_cell m p k t)

-- the first cells of a row
unfoldable pub load_start : ℕ → ℕ → ℕ → List ℕ
load_start t used most =
    codes "<tr><td>" ++ (decimal t ++ (codes "</td><td>" ++ (grouped most ++ (codes "</td><td>" ++ (grouped used
    ++ (codes "</td><td>" ++ (decimal (percent used most) ++ codes "%</td>")))))))

-- the row of a period
unfoldable pub load_row : Problem → Plan → ℕ → ℕ → List ℕ
load_row m p k t = load_start t (time_used m p k t) (capacity m k t) ++ (load_cells m p k t ++ codes "</tr>\n")

-- the rows of all periods
unfoldable pub load_rows : Problem → Plan → ℕ → List ℕ
load_rows m p k = join_to m.periods (load_row m p k)

-- the table of a resource
unfoldable pub load_table : Problem → Plan → ℕ → List ℕ
load_table m p k = load_heads m k ++ (load_rows m p k ++ codes "</tbody></table></div></details>\n")

-- The section of an item.
use Rattle.std.specs.Prelude.{ℕ, ◌+◌, List, ◌++◌, codes, decimal}
use Rattle.lot_sizing.specs.Problem.{Problem, item_at, item_count}
use Rattle.lot_sizing.specs.Plan.{Plan}
use Rattle.lot_sizing.specs.Texts.{join_to}
use Rattle.report.specs.Summary.{backlog_part, hold_part, made_total, setup_count, setup_part, unit_part}
use Rattle.plan_page.specs.Cells.{cell_of, period_marks}
use Rattle.plan_page.specs.Charts.{left_of, level}
use Rattle.plan_page.specs.Marks.{axis_text, chart_start}
use Rattle.plan_page.specs.Numbers.{grouped}
use Rattle.plan_page.specs.Peaks.{item_chart}
use Rattle.plan_page.specs.Totals.{demand_total, use_total}
use Rattle.plan_page.specs.declared.cells.Cell.{Cell}
use Rattle.plan_page.specs.declared.chart.Chart.{Chart}

unfoldable pub item_head : Problem → ℕ → List ℕ
item_head m i = codes "<section id=\"i" ++ (decimal i ++ (codes "\"><h2>" ++ ((item_at m i).name ++ codes "</h2>\n")))

-- an item's units in all
unfoldable pub amounts_line : ℕ → ℕ → ℕ → ℕ → List ℕ
amounts_line asked used made setups =
    codes "<p>Demand <b>" ++ (grouped asked ++ (codes "</b>, use by other items <b>" ++ (grouped used
    ++ (codes "</b>, made <b>" ++ (grouped made ++ (codes "</b>, setups <b>" ++ (grouped setups ++ codes "</b>")))))))

-- its stock before the first period and its lead time
unfoldable pub lead_line : ℕ → ℕ → List ℕ
lead_line opening lead =
    codes ", opening stock <b>" ++ (grouped opening ++ (codes "</b>, lead time <b>" ++ (decimal lead ++ codes "</b></p>\n")))

-- what it costs
unfoldable pub costs_line : ℕ → ℕ → ℕ → ℕ → List ℕ
costs_line setup unit hold backlog =
    codes "<p>Cost <b>" ++ (grouped (setup + unit + hold + backlog) ++ (codes "</b>: setups <b>" ++ (grouped setup
    ++ (codes "</b>, making <b>" ++ (grouped unit ++ (codes "</b>, holding <b>" ++ (grouped hold
    ++ (codes "</b>, backlog <b>" ++ (grouped backlog ++ codes "</b></p>\n")))))))))

-- the point of the stock's line at the end of a period
unfoldable pub stock_point : Chart → Plan → ℕ → ℕ → List ℕ
stock_point c p i t = codes " " ++ (decimal (left_of c (t + 1)) ++ (codes "," ++ decimal (level c (p.stock i t))))

-- its start, at the opening stock
unfoldable pub stock_start : Chart → ℕ → List ℕ
stock_start c opening = codes "<polyline class=\"stocks\" points=\"" ++ (decimal c.gutter ++ (codes "," ++ decimal (level c opening)))

-- the points of all periods
unfoldable pub stock_points : Chart → Problem → Plan → ℕ → List ℕ
stock_points c m p i = join_to m.periods (stock_point c p i)

-- the line of the stock
unfoldable pub stock_line : Chart → Problem → Plan → ℕ → List ℕ
stock_line c m p i = stock_start c (item_at m i).opening ++ (stock_points c m p i ++ codes "\"/>\n")

-- all periods
unfoldable pub all_marks : Chart → Problem → Plan → ℕ → List ℕ
all_marks c m p i = join_to m.periods (period_marks c m p i)

-- the chart of an item
unfoldable pub item_chart_text : Chart → Problem → Plan → ℕ → List ℕ
item_chart_text c m p i =
    chart_start c (codes "Demand, lots and stock by period") ++ (all_marks c m p i ++ (stock_line c m p i ++ axis_text c))

-- a period, what is asked for, what goes into other items, and what is made
unfoldable pub row_front : ℕ → ℕ → ℕ → ℕ → List ℕ
row_front t asked used made =
    codes "<tr><td>" ++ (decimal t ++ (codes "</td><td>" ++ (grouped asked ++ (codes "</td><td>" ++ (grouped used ++ (codes "</td><td>" ++ (grouped made ++ codes "</td>")))))))

-- a setup, and what is left and owed at the end
unfoldable pub row_back : ℕ → ℕ → ℕ → List ℕ
row_back setup stock backlog =
    codes "<td>" ++ (decimal setup ++ (codes "</td><td>" ++ (grouped stock ++ (codes "</td><td>" ++ (grouped backlog ++ codes "</td></tr>\n")))))

-- the row of a period
unfoldable pub item_row : ℕ → Cell → List ℕ
item_row t x = row_front t x.demand x.used x.made ++ row_back x.setup x.stock x.backlog

unfoldable pub item_row_at : Problem → Plan → ℕ → ℕ → List ℕ
item_row_at m p i t = item_row t (cell_of m p i t)

-- the start of an item's table
unfoldable pub item_heads : List ℕ
item_heads = codes "<details><summary>Numbers</summary><div class=\"scroll\"><table><thead><tr><th>Period</th><th>Demand</th><th>Use</th><th>Lot</th><th>Setup</th><th>End stock</th><th>Backlog</th></tr></thead><tbody>\n"

-- the rows of all periods
unfoldable pub item_rows : Problem → Plan → ℕ → List ℕ
item_rows m p i = join_to m.periods (item_row_at m p i)

-- the table: a row for each period
unfoldable pub item_table : Problem → Plan → ℕ → List ℕ
item_table m p i = item_heads ++ (item_rows m p i ++ codes "</tbody></table></div></details>\n")

-- the section of an item
unfoldable pub item_text : Problem → Plan → ℕ → List ℕ
item_text m p i =
    item_head m i ++ (amounts_line (demand_total m i) (use_total m p i) (made_total m p i) (setup_count m p i)
    ++ (lead_line (item_at m i).opening (item_at m i).lead
    ++ (costs_line (setup_part m p i) (unit_part m p i) (hold_part m p i) (backlog_part m p i)
    ++ (item_chart_text (item_chart m p i) m p i ++ (item_table m p i ++ codes "</section>\n")))))

-- those of all items
unfoldable pub item_texts : Problem → Plan → List ℕ
item_texts m p = join_to (item_count m) (item_text m p)

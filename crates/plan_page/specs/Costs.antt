-- The section of a plan's costs.
use Rattle.std.specs.Prelude.{ℕ, ◌+◌, ◌-◌, ◌*◌, ◌/◌, List, ◌++◌, codes, decimal, max}
use Rattle.lot_sizing.specs.Problem.{Problem, item_at, item_count}
use Rattle.lot_sizing.specs.Plan.{Plan, cost}
use Rattle.lot_sizing.specs.Texts.{join_to}
use Rattle.report.specs.Summary.{backlog_part, hold_part, setup_part, unit_part}
use Rattle.plan_page.specs.Numbers.{grouped, share}
use Rattle.plan_page.specs.Totals.{backlog_total, hold_total, setup_total, unit_total}

-- how wide a part is drawn in a bar of 800 pixels
unfoldable pub shown_width : ℕ → ℕ → ℕ
shown_width part whole = part * 800 / max whole 1

-- the mark of a part, behind what was before it
unfoldable pub cost_mark : List ℕ → ℕ → ℕ → ℕ → List ℕ
cost_mark label whole before part =
    codes "<rect class=\"" ++ (label ++ (codes "\" x=\"" ++ (decimal (shown_width before whole)
    ++ (codes "\" y=\"0\" width=\"" ++ (decimal (shown_width (before + part) whole - shown_width before whole)
    ++ (codes "\" height=\"24\"><title>" ++ (label ++ (codes ": " ++ (grouped part ++ codes "</title></rect>\n")))))))))

-- the bar of all parts
unfoldable pub cost_bar : ℕ → ℕ → ℕ → ℕ → ℕ → List ℕ
cost_bar setup unit hold backlog whole =
    codes "<svg class=\"bar\" viewBox=\"0 0 800 24\" preserveAspectRatio=\"none\" role=\"img\" aria-label=\"Costs by part\">\n"
    ++ (cost_mark (codes "Setups") whole 0 setup
    ++ (cost_mark (codes "Making") whole setup unit
    ++ (cost_mark (codes "Holding") whole (setup + unit) hold
    ++ (cost_mark (codes "Backlog") whole (setup + unit + hold) backlog ++ codes "</svg>\n"))))

-- the row of a part
unfoldable pub part_row : List ℕ → ℕ → ℕ → List ℕ
part_row label part whole =
    codes "<tr><th scope=\"row\"><i class=\"" ++ (label ++ (codes "\"></i>" ++ (label ++ (codes "</th><td>" ++ (grouped part
    ++ (codes "</td><td>" ++ (decimal (share part whole) ++ codes "%</td></tr>\n")))))))

-- the table of all parts
unfoldable pub part_rows : ℕ → ℕ → ℕ → ℕ → ℕ → List ℕ
part_rows setup unit hold backlog whole =
    codes "<div class=\"scroll\"><table><thead><tr><th>Part</th><th>Cost</th><th>Share</th></tr></thead><tbody>\n"
    ++ (part_row (codes "Setups") setup whole
    ++ (part_row (codes "Making") unit whole
    ++ (part_row (codes "Holding") hold whole
    ++ (part_row (codes "Backlog") backlog whole
    ++ (part_row (codes "Total") whole whole ++ codes "</tbody></table></div>\n")))))

-- a name, and what setups and units cost
unfoldable pub cost_front : List ℕ → ℕ → ℕ → List ℕ
cost_front name setup unit =
    codes "<tr><th scope=\"row\">" ++ (name ++ (codes "</th><td>" ++ (grouped setup ++ (codes "</td><td>" ++ (grouped unit ++ codes "</td>")))))

-- what stocks and backlogs cost, and all of it
unfoldable pub cost_back : ℕ → ℕ → ℕ → List ℕ
cost_back hold backlog total =
    codes "<td>" ++ (grouped hold ++ (codes "</td><td>" ++ (grouped backlog ++ (codes "</td><td>" ++ (grouped total ++ codes "</td></tr>\n")))))

-- a row of costs
unfoldable pub cost_row : List ℕ → ℕ → ℕ → ℕ → ℕ → List ℕ
cost_row name setup unit hold backlog = cost_front name setup unit ++ cost_back hold backlog (setup + unit + hold + backlog)

-- the costs of an item
unfoldable pub item_costs : Problem → Plan → ℕ → List ℕ
item_costs m p i = cost_row (item_at m i).name (setup_part m p i) (unit_part m p i) (hold_part m p i) (backlog_part m p i)

-- the start of the table of all items' costs
unfoldable pub cost_heads : List ℕ
cost_heads = codes "<details><summary>By item</summary><div class=\"scroll\"><table><thead><tr><th>Item</th><th>Setups</th><th>Making</th><th>Holding</th><th>Backlog</th><th>Total</th></tr></thead><tbody>\n"

-- the rows of all items
unfoldable pub cost_rows : Problem → Plan → List ℕ
cost_rows m p = join_to (item_count m) (item_costs m p)

-- the table
unfoldable pub cost_table : Problem → Plan → List ℕ
cost_table m p = cost_heads ++ (cost_rows m p ++ codes "</tbody></table></div></details>\n")

-- the section of the costs
unfoldable pub costs_text : Problem → Plan → List ℕ
costs_text m p =
    codes "<section id=\"costs\"><h2>Costs</h2>\n"
    ++ (cost_bar (setup_total m p) (unit_total m p) (hold_total m p) (backlog_total m p) (cost m p)
    ++ (part_rows (setup_total m p) (unit_total m p) (hold_total m p) (backlog_total m p) (cost m p)
    ++ (cost_table m p ++ codes "</section>\n")))

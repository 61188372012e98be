-- The marks of an item in a period.
use Rattle.std.specs.Prelude.{ℕ, ◌+◌, ◌==◌, ◌&&◌, List, [], ◌++◌, codes, decimal, if◌then◌else◌, nat_lt}
use Rattle.lot_sizing.specs.Problem.{Problem, demand}
use Rattle.lot_sizing.specs.Plan.{Plan, used_up}
use Rattle.plan_page.specs.Charts.{hanging, left_of, level, middle_of, stacked}
use Rattle.plan_page.specs.Marks.{bar_end, bar_start, painted_bar_start, period_label}
use Rattle.plan_page.specs.Numbers.{grouped}
use Rattle.plan_page.specs.declared.cells.Cell.{Cell}
use Rattle.plan_page.specs.declared.chart.Chart.{Chart}
use Rattle.plan_page.specs.declared.chart.TheConstants.{PLOT, TOP}

-- the numbers of an item in a period
unfoldable pub cell_of : Problem → Plan → ℕ → ℕ → Cell
cell_of m p i t = record { demand = demand m i t; used = used_up m p.make i t; made = p.make i t; setup = p.setup i t; stock = p.stock i t; backlog = p.backlog i t }

-- what stands behind the marks of a period
unfoldable pub room_mark : Chart → ℕ → Cell → List ℕ
room_mark c t x =
    bar_start (codes "slot") (record { x = left_of c t; y = TOP; width = c.step; height = PLOT + c.depth })
    ++ (codes "Period " ++ (decimal t ++ (codes ": demand " ++ (grouped x.demand ++ (codes ", use " ++ (grouped x.used ++ (codes ", lot " ++ (grouped x.made
    ++ (codes ", end stock " ++ (grouped x.stock ++ (codes ", backlog " ++ (grouped x.backlog ++ bar_end))))))))))))

-- the bar of a lot
unfoldable pub lot_mark : Chart → ℕ → ℕ → ℕ → List ℕ
lot_mark c i t made =
    if nat_lt 0 made then painted_bar_start (codes "lot") i (stacked c t 8 0 made)
    ++ (codes "Period " ++ (decimal t ++ (codes ": lot of " ++ (grouped made ++ bar_end))))
    else []

-- the outline of a demand
unfoldable pub demand_mark : Chart → ℕ → ℕ → List ℕ
demand_mark c t asked =
    if nat_lt 0 asked then bar_start (codes "demand") (stacked c t 3 0 asked)
    ++ (codes "Period " ++ (decimal t ++ (codes ": demand " ++ (grouped asked ++ bar_end))))
    else []

-- the outline of what goes into other items, above that of the demand
unfoldable pub use_mark : Chart → ℕ → ℕ → ℕ → List ℕ
use_mark c t asked used =
    if nat_lt 0 used then bar_start (codes "use") (stacked c t 3 asked (asked + used))
    ++ (codes "Period " ++ (decimal t ++ (codes ": " ++ (grouped used ++ codes " go into other items</title></rect>\n"))))
    else []

-- the mark of a setup without a lot
unfoldable pub idle_mark : Chart → ℕ → ℕ → ℕ → List ℕ
idle_mark c t setup made =
    if nat_lt 0 setup && made == 0 then
    codes "<path class=\"idle\" d=\"M" ++ (decimal (middle_of c t) ++ (codes " 143l7 -12h-14z\"><title>Period " ++ (decimal t ++ codes ": setup without a lot</title></path>\n")))
    else []

-- the bar of a backlog, below the axis
unfoldable pub late_mark : Chart → ℕ → ℕ → List ℕ
late_mark c t backlog =
    if nat_lt 0 backlog then bar_start (codes "late") (hanging c t 8 backlog)
    ++ (codes "Period " ++ (decimal t ++ (codes ": backlog " ++ (grouped backlog ++ bar_end))))
    else []

-- the point of a stock, at the end of its period
unfoldable pub stock_mark : Chart → ℕ → ℕ → List ℕ
stock_mark c t stock =
    codes "<circle class=\"stock\" cx=\"" ++ (decimal (left_of c (t + 1)) ++ (codes "\" cy=\"" ++ (decimal (level c stock)
    ++ (codes "\" r=\"3\"><title>Period " ++ (decimal t ++ (codes ": end stock " ++ (grouped stock ++ codes "</title></circle>\n")))))))

-- the marks of an item's numbers in a period
unfoldable pub cell_marks : Chart → ℕ → ℕ → Cell → List ℕ
cell_marks c i t x =
    room_mark c t x ++ (lot_mark c i t x.made ++ (demand_mark c t x.demand ++ (use_mark c t x.demand x.used
    ++ (idle_mark c t x.setup x.made ++ (late_mark c t x.backlog ++ stock_mark c t x.stock)))))

-- all that is shown of an item in a period
unfoldable pub period_marks : Chart → Problem → Plan → ℕ → ℕ → List ℕ
period_marks c m p i t = cell_marks c i t (cell_of m p i t) ++ period_label c t

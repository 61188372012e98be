-- The marks of a resource's chart: the time used in each period, stacked by item, below the line of the capacity.
use Rattle.std.specs.Prelude.{ℕ, ◌+◌, ◌-◌, ◌*◌, List, [], ◌++◌, codes, decimal, if◌then◌else◌, nat_lt}
use Rattle.lot_sizing.specs.Sums.{sum_to}
use Rattle.lot_sizing.specs.Problem.{Problem, capacity, item_at, item_count, setup_time, unit_time}
use Rattle.lot_sizing.specs.Plan.{Plan, time_used}
use Rattle.lot_sizing.specs.Texts.{join_to}
use Rattle.plan_page.specs.Charts.{left_of, level, middle_of, stacked}
use Rattle.plan_page.specs.Marks.{bar_end, bar_start, painted_bar_start, period_label}
use Rattle.plan_page.specs.Numbers.{grouped, percent}
use Rattle.plan_page.specs.declared.chart.Chart.{Chart}
use Rattle.plan_page.specs.declared.chart.TheConstants.{PLOT, TOP}

-- the run time and the setup time of an item on a resource in a period
unfoldable pub run_time : Problem → Plan → ℕ → ℕ → ℕ → ℕ
run_time m p k t i = unit_time m i k * p.make i t

unfoldable pub setup_time_used : Problem → Plan → ℕ → ℕ → ℕ → ℕ
setup_time_used m p k t i = setup_time m i k * p.setup i t

-- the time that the first n items use
unfoldable pub time_to : Problem → Plan → ℕ → ℕ → ℕ → ℕ
time_to m p k t n = sum_to n (λ i. run_time m p k t i + setup_time_used m p k t i)

-- the mark of a run time, above what is used before
unfoldable pub run_mark : Chart → List ℕ → ℕ → ℕ → ℕ → ℕ → List ℕ
run_mark c name i t before run =
    if nat_lt 0 run then painted_bar_start (codes "run") i (stacked c t 4 before (before + run))
    ++ (codes "Period " ++ (decimal t ++ (codes ", " ++ (name ++ (codes ": run time " ++ (grouped run ++ bar_end))))))
    else []

-- the mark of a setup time
unfoldable pub setup_mark : Chart → List ℕ → ℕ → ℕ → ℕ → ℕ → List ℕ
setup_mark c name i t before setup =
    if nat_lt 0 setup then painted_bar_start (codes "setup") i (stacked c t 4 before (before + setup))
    ++ (codes "Period " ++ (decimal t ++ (codes ", " ++ (name ++ (codes ": setup time " ++ (grouped setup ++ bar_end))))))
    else []

-- both marks of an item, the setup above the run
unfoldable pub stack : Chart → Problem → Plan → ℕ → ℕ → ℕ → ℕ → List ℕ
stack c m p k t i before =
    run_mark c (item_at m i).name i t before (run_time m p k t i)
    ++ setup_mark c (item_at m i).name i t (before + run_time m p k t i) (setup_time_used m p k t i)

-- those of all items, each above the ones before it
unfoldable pub load_marks : Chart → Problem → Plan → ℕ → ℕ → List ℕ
load_marks c m p k t = join_to (item_count m) (λ i. stack c m p k t i (time_to m p k t (i - 1)))

-- what stands behind the marks of a period
unfoldable pub slot_mark : Chart → ℕ → ℕ → ℕ → List ℕ
slot_mark c t used most =
    bar_start (codes "slot") (record { x = left_of c t; y = TOP; width = c.step; height = PLOT })
    ++ (codes "Period " ++ (decimal t ++ (codes ": " ++ (grouped used ++ (codes " of " ++ (grouped most ++ (codes " used, " ++ (decimal (percent used most) ++ (codes "%" ++ bar_end)))))))))

-- the share that is used, above the bars
unfoldable pub share_label : Chart → ℕ → ℕ → ℕ → List ℕ
share_label c t used most =
    codes "<text class=\"share\" x=\"" ++ (decimal (middle_of c t) ++ (codes "\" y=\"16\">" ++ (decimal (percent used most) ++ codes "%</text>\n")))

-- all that is shown of a resource in a period
unfoldable pub period_loads : Chart → Problem → Plan → ℕ → ℕ → List ℕ
period_loads c m p k t =
    slot_mark c t (time_used m p k t) (capacity m k t)
    ++ (load_marks c m p k t ++ (share_label c t (time_used m p k t) (capacity m k t) ++ period_label c t))

-- the step of the capacity's line over a period
unfoldable pub capacity_step : Chart → Problem → ℕ → ℕ → List ℕ
capacity_step c m k t = codes "V" ++ (decimal (level c (capacity m k t)) ++ (codes "H" ++ decimal (left_of c (t + 1))))

-- the start of the capacity's line
unfoldable pub capacity_start : Chart → ℕ → List ℕ
capacity_start c first = codes "<path class=\"capacity\" d=\"M" ++ (decimal c.gutter ++ (codes " " ++ decimal (level c first)))

-- the steps of all periods
unfoldable pub capacity_steps : Chart → Problem → ℕ → List ℕ
capacity_steps c m k = join_to m.periods (capacity_step c m k)

-- the line of the capacity
unfoldable pub capacity_line : Chart → Problem → ℕ → List ℕ
capacity_line c m k = capacity_start c (capacity m k 1) ++ (capacity_steps c m k ++ codes "\"><title>Capacity</title></path>\n")

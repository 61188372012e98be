-- The largest numbers that charts show, and the charts that they give.
use Rattle.std.specs.Prelude.{ℕ, zero, suc, ◌+◌, ◌*◌, ◌==◌, if◌then◌else◌, max}
use Rattle.lot_sizing.specs.Problem.{Problem, capacity, demand, item_at}
use Rattle.lot_sizing.specs.Plan.{Plan, time_used, used_up}
use Rattle.plan_page.specs.Charts.{chart_of}
use Rattle.plan_page.specs.declared.chart.Chart.{Chart}
use Rattle.plan_page.specs.declared.chart.TheConstants.{DEPTH}

-- the largest of f 1, .., f n, and 0 of none
abbrev pub max_to : ℕ → (ℕ → ℕ) → ℕ
max_to zero f = 0
max_to (suc n) f = max (max_to n f) (f (suc n))

-- the largest number that is shown of an item in a period; below the axis there is a third of the room
unfoldable pub peak_at : Problem → Plan → ℕ → ℕ → ℕ
peak_at m p i t = max (max (max (demand m i t + used_up m p.make i t) (p.make i t)) (p.stock i t)) (p.backlog i t * 3)

unfoldable pub item_peak : Problem → Plan → ℕ → ℕ
item_peak m p i = max (max_to m.periods (peak_at m p i)) (item_at m i).opening

-- its largest backlog
unfoldable pub backlog_peak : Problem → Plan → ℕ → ℕ
backlog_peak m p i = max_to m.periods (p.backlog i)

-- the chart of an item; it has room below the axis where there is a backlog
unfoldable pub item_chart : Problem → Plan → ℕ → Chart
item_chart m p i = chart_of m.periods (if backlog_peak m p i == 0 then 0 else DEPTH) (item_peak m p i)

-- the larger of the time that a resource has and that it is used in a period
unfoldable pub load_at : Problem → Plan → ℕ → ℕ → ℕ
load_at m p k t = max (capacity m k t) (time_used m p k t)

-- the chart of a resource
unfoldable pub resource_chart : Problem → Plan → ℕ → Chart
resource_chart m p k = chart_of m.periods 0 (max_to m.periods (load_at m p k))

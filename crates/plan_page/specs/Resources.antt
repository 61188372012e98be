-- The section of a resource.
use Rattle.std.specs.Prelude.{ℕ, List, [], ◌++◌, codes, decimal, if◌then◌else◌}
use Rattle.lot_sizing.specs.Problem.{Problem, item_at, item_count, resource_at, resource_count}
use Rattle.lot_sizing.specs.Plan.{Plan}
use Rattle.lot_sizing.specs.Texts.{join_to}
use Rattle.plan_page.specs.Loads.{capacity_line, period_loads}
use Rattle.plan_page.specs.Marks.{axis_text, chart_start}
use Rattle.plan_page.specs.Numbers.{grouped, paint_text, percent}
use Rattle.plan_page.specs.Peaks.{resource_chart}
use Rattle.plan_page.specs.Rows.{load_table, takes_time}
use Rattle.plan_page.specs.Totals.{capacity_total, used_total}
use Rattle.plan_page.specs.declared.chart.Chart.{Chart}

unfoldable pub resource_head : Problem → ℕ → List ℕ
resource_head m k = codes "<section id=\"r" ++ (decimal k ++ (codes "\"><h2>" ++ ((resource_at m k).name ++ codes "</h2>\n")))

-- how much of a resource is used in all
unfoldable pub load_line : ℕ → ℕ → List ℕ
load_line used most =
    codes "<p>Time used <b>" ++ (grouped used ++ (codes "</b> of <b>" ++ (grouped most ++ (codes "</b>, " ++ (decimal (percent used most) ++ codes "%</p>\n")))))

-- all periods
unfoldable pub all_loads : Chart → Problem → Plan → ℕ → List ℕ
all_loads c m p k = join_to m.periods (period_loads c m p k)

-- the chart: the periods, and the line of the capacity
unfoldable pub load_chart : Chart → Problem → Plan → ℕ → List ℕ
load_chart c m p k =
    chart_start c (codes "Time used by period") ++ (all_loads c m p k ++ (capacity_line c m k ++ axis_text c))

-- what an item's marks look like
unfoldable pub swatch : ℕ → List ℕ → List ℕ
swatch i name = codes "<span><i class=\"" ++ (paint_text i ++ (codes "\"></i>" ++ (name ++ codes "</span>\n")))

-- if it takes time of the resource
unfoldable pub legend_entry : Problem → ℕ → ℕ → List ℕ
legend_entry m k i =
    if takes_time m k i then swatch i (item_at m i).name else []

-- those of all items
unfoldable pub legend_entries : Problem → ℕ → List ℕ
legend_entries m k = join_to (item_count m) (legend_entry m k)

unfoldable pub legend : Problem → ℕ → List ℕ
legend m k =
    codes "<p class=\"legend\">" ++ (legend_entries m k ++ codes "<span>paler: setups</span><span>line: capacity</span></p>\n")

-- the section of a resource
unfoldable pub resource_text : Problem → Plan → ℕ → List ℕ
resource_text m p k =
    resource_head m k ++ (load_line (used_total m p k) (capacity_total m k)
    ++ (load_chart (resource_chart m p k) m p k ++ (legend m k ++ (load_table m p k ++ codes "</section>\n"))))

-- those of all resources
unfoldable pub resource_texts : Problem → Plan → List ℕ
resource_texts m p = join_to (resource_count m) (resource_text m p)

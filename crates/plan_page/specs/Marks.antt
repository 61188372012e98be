-- The text of the marks that all charts have.
use Rattle.std.specs.Prelude.{ℕ, ◌+◌, ◌-◌, ◌%◌, ◌==◌, List, [], ◌++◌, codes, decimal, if◌then◌else◌, nat_le}
use Rattle.plan_page.specs.Charts.{foot, left_of, middle_of, width_of}
use Rattle.plan_page.specs.Numbers.{grouped, paint_text}
use Rattle.plan_page.specs.declared.chart.Bar.{Bar}
use Rattle.plan_page.specs.declared.chart.Chart.{Chart}
use Rattle.plan_page.specs.declared.chart.TheConstants.{AXIS, TOP}

-- the start of a bar of a class, up to its title
unfoldable pub bar_start : List ℕ → Bar → List ℕ
bar_start class b =
    codes "<rect class=\"" ++ (class ++ (codes "\" x=\"" ++ (decimal b.x ++ (codes "\" y=\"" ++ (decimal b.y
    ++ (codes "\" width=\"" ++ (decimal b.width ++ (codes "\" height=\"" ++ (decimal b.height ++ codes "\"><title>")))))))))

-- in the colour of an item
unfoldable pub painted_bar_start : List ℕ → ℕ → Bar → List ℕ
painted_bar_start class i b =
    codes "<rect class=\"" ++ (class ++ (codes " " ++ (paint_text i ++ (codes "\" x=\"" ++ (decimal b.x ++ (codes "\" y=\"" ++ (decimal b.y
    ++ (codes "\" width=\"" ++ (decimal b.width ++ (codes "\" height=\"" ++ (decimal b.height ++ codes "\"><title>")))))))))))

-- the end of a bar, behind its title
abbrev pub bar_end : List ℕ
bar_end = codes "</title></rect>\n"

-- the start of a chart
unfoldable pub chart_start : Chart → List ℕ → List ℕ
chart_start c label =
    codes "<div class=\"scroll\"><svg width=\"" ++ (decimal (width_of c) ++ (codes "\" height=\"" ++ (decimal (foot c + 24)
    ++ (codes "\" viewBox=\"0 0 " ++ (decimal (width_of c) ++ (codes " " ++ (decimal (foot c + 24)
    ++ (codes "\" role=\"img\" aria-label=\"" ++ (label ++ codes "\">\n")))))))))

-- a line along all periods
unfoldable pub line_text : List ℕ → Chart → ℕ → List ℕ
line_text class c y =
    codes "<path class=\"" ++ (class ++ (codes "\" d=\"M" ++ (decimal c.gutter ++ (codes " " ++ (decimal y ++ (codes "H" ++ (decimal (left_of c (c.periods + 1)) ++ codes "\"/>\n")))))))

-- a number left of the first period
unfoldable pub tick_text : Chart → ℕ → ℕ → List ℕ
tick_text c y value =
    codes "<text class=\"tick\" x=\"" ++ (decimal (c.gutter - 6) ++ (codes "\" y=\"" ++ (decimal y ++ (codes "\">" ++ (grouped value ++ codes "</text>\n")))))

-- the axis, the line at the largest number, both numbers, and the end of the chart
unfoldable pub axis_text : Chart → List ℕ
axis_text c =
    line_text (codes "rule") c TOP ++ (line_text (codes "axis") c AXIS ++ (tick_text c (TOP + 4) c.most ++ (tick_text c (AXIS + 4) 0 ++ codes "</svg></div>\n")))

-- every how many periods have their number below the axis
unfoldable pub label_every : ℕ → ℕ
label_every periods = if nat_le periods 30 then 1 else if nat_le periods 60 then 2 else 5

-- the number of a period below the axis, where it has one
unfoldable pub period_label : Chart → ℕ → List ℕ
period_label c t =
    if (t % label_every c.periods) == 0 then
    codes "<text class=\"at\" x=\"" ++ (decimal (middle_of c t) ++ (codes "\" y=\"" ++ (decimal (foot c + 16) ++ (codes "\">" ++ (decimal t ++ codes "</text>\n")))))
    else []

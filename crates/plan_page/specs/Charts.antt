-- Where things stand in a chart, in pixels. Upwards is towards 0.
use Rattle.std.specs.Prelude.{ℕ, ◌+◌, ◌-◌, ◌*◌, ◌/◌, ◌^◌, if◌then◌else◌, max, min, nat_lt}
use Rattle.std.specs.Int.{div_ceil}
use Rattle.plan_page.specs.declared.chart.Bar.{Bar}
use Rattle.plan_page.specs.declared.chart.Chart.{Chart}
use Rattle.plan_page.specs.declared.chart.TheConstants.{AXIS, PLOT}

-- the width of a period: the more periods, the narrower
unfoldable pub step_of : ℕ → ℕ
step_of periods = max (min (864 / max periods 1) 96) 28

-- the width for the largest number
unfoldable pub gutter_of : ℕ → ℕ
gutter_of most = if nat_lt most 10000 then 44 else if nat_lt most 10000000 then 68 else 116

-- the number that is drawn as high as the plot
unfoldable pub most_of : ℕ → ℕ
most_of peak = min (max peak 1) (2 ^ 64 - 1)

-- the chart of so many periods in which no number is larger than the peak
unfoldable pub chart_of : ℕ → ℕ → ℕ → Chart
chart_of periods depth peak = record { gutter = gutter_of (most_of peak); step = step_of periods; depth = depth; periods = periods; most = most_of peak }

-- how high a number is drawn: the most as high as the plot, others in proportion, rounded up
unfoldable pub scaled : Chart → ℕ → ℕ
scaled c value = div_ceil (min value (max c.most 1) * PLOT) (max c.most 1)

-- where a number stands above the axis
unfoldable pub level : Chart → ℕ → ℕ
level c value = AXIS - scaled c value

-- the left edge of a period
unfoldable pub left_of : Chart → ℕ → ℕ
left_of c t = c.gutter + (t - 1) * c.step

-- its middle
unfoldable pub middle_of : Chart → ℕ → ℕ
middle_of c t = left_of c t + c.step / 2

unfoldable pub width_of : Chart → ℕ
width_of c = left_of c (c.periods + 1) + 8

-- where the plot and the room below it end
unfoldable pub foot : Chart → ℕ
foot c = AXIS + c.depth

-- the bar from one number up to another, so far from the edges of its period
unfoldable pub stacked : Chart → ℕ → ℕ → ℕ → ℕ → Bar
stacked c t inset before after = record { x = left_of c t + inset; y = level c after; width = c.step - 2 * inset; height = scaled c after - scaled c before }

-- the bar of a number that hangs from the axis
unfoldable pub hanging : Chart → ℕ → ℕ → ℕ → Bar
hanging c t inset value = record { x = left_of c t + inset; y = AXIS; width = c.step - 2 * inset; height = scaled c value }

-- A worked example: the problem of the worked certificates. Its relaxation closes to 20.
--
-- The row of l = 1 and S = {1} asks for a setup in period 1. At most 5 units are made there, of which 2 are asked for,
-- so at most 3 stay in stock; the row of l = 2 and S = {2} then asks for 5 units in period 2, with five eighths of a
-- setup. That costs 10 + 25/4 + 3 = 77/4, and no point of the relaxation costs less. The best plan costs 23.
use Rattle.std.specs.Prelude.{◌≡◌, ◌*◌, ◌≤◌, ◌==◌, if◌then◌else◌}
use Rattle.lin_rows.specs.declared.column.Column.TheVariants.{X, Y, S, R}
use Rattle.lin_rows.specs.Costs.{point_cost}
use Rattle.lin_rows.specs.Rows.{LinPoint, Values}
use Rattle.cert_meaning.specs.Worked.{model, total, weight}
use Rattle.lp_relaxation.specs.Relaxation.{IsRelaxed}

-- five units in each period, three of them in stock after the first; all values are eighths
abbrev pub eighths : Values
eighths (X i t) = 40
eighths (Y i t) = if t == 1 then 8 else 5
eighths (S i t) = if t == 1 then 24 else 0
eighths (R i t) = 0

-- that point is one of the relaxation and costs 154 eighths, and no point of it costs less
pub record HasCheapest : Type 0 where
  pub point : LinPoint
  pub values : point.values ≡ eighths
  pub den : point.den ≡ 8
  pub relaxed : IsRelaxed model total weight point
  pub cost : point_cost model point.values ≡ 154
  pub least : (q : LinPoint) → IsRelaxed model total weight q → 154 * q.den ≤ 8 * point_cost model q.values

-- Period by period the lesser of two numbers, at whole values.
use Rattle.std.proofs.Common.{◌≤◌, ◌+◌, ◌-◌, ◌*◌, ℕ, arith, Bool, true, false}
use Rattle.std.specs.Prelude.{if◌then◌else◌, nat_lt, ◌≤ℤ◌}
use Rattle.algebra.proofs.Order.{linear}
use Rattle.lot_sizing.proofs.Sums.{sum_to-le}
use Rattle.lin_rows.specs.declared.column.Column.TheVariants.{X, Y}
use Rattle.lin_rows.specs.Rows.{Values, sum_at}
use Rattle.valid_inequalities.specs.Inequalities.{demand_between, ls_part}
use Rattle.echelon_rows.specs.Rows.{Echelon, backlog_at, trajectory_at}
use Rattle.ls_cuts.specs.Rows.{Periods, ls_row}
use Rattle.ls_cuts.proofs.Sides.{row_sum}

-- what a setup adds
abbrev pub setup_at : Echelon → Values → ℕ → ℕ → ℕ
setup_at e v l t = demand_between e.asked t l * v (Y e.item t) + backlog_at e v (t - 1)

-- a period is chosen where that is less than what is made
abbrev pub cheaper : Echelon → Values → ℕ → Periods
cheaper e v l t = nat_lt (setup_at e v l t) (v (X e.item t))

lesser : (b : Bool) (p x : ℕ) → (if nat_lt p x then p else x) ≤ (if b then p else x)
lesser true p x = grind arith
lesser false p x = grind arith

pub least_sum : (e : Echelon) (v : Values) (l : ℕ) (chosen : Periods) → 1 ≤ l → sum_at v (ls_row e l (cheaper e v l)).terms ≤ℤ sum_at v (ls_row e l chosen).terms
least_sum e v l chosen low =
    let f = trajectory_at e v in
    let parts = sum_to-le l (ls_part e.asked f l (cheaper e v l)) (ls_part e.asked f l chosen) (λ t t_low t_high. lesser (chosen t) (setup_at e v l t) (v (X e.item t))) in
    omega (arith, linear, row_sum e v l (cheaper e v l) low, row_sum e v l chosen low, parts)

-- Laws of what a plan has over all periods and items.
use Rattle.std.proofs.Common.{◌≡◌, ◌≤◌, ◌+◌, ◌-◌, ℕ, arith}
use Rattle.lot_sizing.specs.Sums.{sum_to}
use Rattle.lot_sizing.specs.Problem.{Problem, item_count}
use Rattle.lot_sizing.specs.Plan.{Plan}
use Rattle.lot_sizing.proofs.Sums.{sum_to-add, sum_to_more}
use Rattle.report.specs.Summary.{backlog_part, hold_part, parts_of, setup_part, unit_part}
use Rattle.plan_page.specs.Loads.{run_time, setup_time_used, time_to}
use Rattle.plan_page.specs.Totals.{backlog_total, hold_total, setup_total, unit_total}

-- the totals of the four parts add up to those of all items
pub totals_sum : (m : Problem) (p : Plan) → unit_total m p + setup_total m p + hold_total m p + backlog_total m p ≡ sum_to (item_count m) (parts_of m p)
unfolding unit_total setup_total hold_total backlog_total
totals_sum m p =
    let n = item_count m in
    let a = unit_part m p in
    let b = setup_part m p in
    let c = hold_part m p in
    let d = backlog_part m p in
    omega (arith, sum_to-add n a b, sum_to-add n (λ i. a i + b i) c, sum_to-add n (λ i. a i + b i + c i) d)

-- the time of the items so far, with that of the next
pub time_to_more : (m : Problem) (p : Plan) (k t n : ℕ) → 1 ≤ n → time_to m p k t (n + 1 - 1) ≡ time_to m p k t (n - 1) + (run_time m p k t n + setup_time_used m p k t n)
unfolding time_to
time_to_more m p k t n low = sum_to_more n (λ i. run_time m p k t i + setup_time_used m p k t i) low

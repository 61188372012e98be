-- What a row of costs adds to, and that it holds where the inequality does.
use Rattle.std.proofs.Common.{◌≡◌, ◌≤◌, ◌+◌, ◌*◌, ◌∙◌, ℕ, zero, suc, refl, sym, ap, arith, Bool, true, false, List, ◌++◌}
use Rattle.std.specs.Prelude.{if◌then◌else◌, Some, None, IsNone, pos, ◌+ℤ◌}
use Rattle.lot_sizing.specs.Sums.{sum_to}
use Rattle.lot_sizing.specs.Problem.{backlog_price, entry}
use Rattle.lot_sizing.specs.Net.{net_in}
use Rattle.lot_sizing.proofs.Sums.{sum_to-add, sum_to-same}
use Rattle.echelon.proofs.Singles.{list_each}
use Rattle.lin_rows.specs.declared.column.Column.TheVariants.{X, Y, S, R}
use Rattle.lin_rows.specs.Base.{term}
use Rattle.lin_rows.specs.Rows.{HoldsAt, Values, sum_at, whole_point}
use Rattle.lin_rows.proofs.Terms.{sum_append}
use Rattle.valid_inequalities.specs.Trajectory.{IsNetOf, IsTrajectory}
use Rattle.valid_inequalities.specs.Inequalities.{kept_cost}
use Rattle.echelon_rows.specs.Rows.{Echelon, backlog_at, cells_to, cost_terms, owed_times, periods_to, priced, row_with, stock_at, trajectory_at}
use Rattle.echelon_rows.proofs.Adding.{cells_sum, periods_sum, row_holds, weighed}

stock_some : (e : Echelon) (v : Values) (t : ℕ) → 1 ≤ t → stock_at e v t ≡ sum_to e.items (λ j. e.weight j * v (S j t))
stock_some e v zero low = absurd (omega (arith, low))
stock_some e v (suc t) low = refl

-- what a period costs
period_cost : Echelon → Values → (setup unit hold back : ℕ → ℕ) → ℕ → ℕ
period_cost e v setup unit hold back t = setup t * v (Y e.item t) + (unit t * v (X e.item t) + hold t * stock_at e v t + back t * backlog_at e v t)

cost_sum : (e : Echelon) (v : Values) (setup unit hold back : ℕ → ℕ) → sum_at v (cost_terms e setup unit hold back) ≡ pos (sum_to e.asked.periods (period_cost e v setup unit hold back))
unfolding period_cost
cost_sum e v setup unit hold back =
    let T = e.asked.periods in
    let n = e.items in
    let xs = periods_to T (λ t. term (X e.item t) (pos (unit t))) in
    let ys = periods_to T (λ t. term (Y e.item t) (pos (setup t))) in
    let ss = cells_to n T (λ j t. term (S j t) (pos (hold t * e.weight j))) in
    let rs = cells_to n T (λ j t. term (R j t) (pos (back t * owed_times e j t))) in
    let x = λ (t : ℕ). unit t * v (X e.item t) in
    let y = λ (t : ℕ). setup t * v (Y e.item t) in
    let s = λ (t : ℕ). hold t * stock_at e v t in
    let r = λ (t : ℕ). back t * backlog_at e v t in
    let A = sum_to T x in
    let B = sum_to T y in
    let C = sum_to n (λ j. sum_to T (λ t. (hold t * e.weight j) * v (S j t))) in
    let D = sum_to n (λ j. sum_to T (λ t. (back t * owed_times e j t) * v (R j t))) in
    let stocks = weighed n T hold (λ j t. e.weight j) (λ j t. v (S j t)) in
    let held = sum_to-same T (λ t. hold t * sum_to n (λ j. e.weight j * v (S j t))) s (λ t low high. ap (λ k. hold t * k) (sym (stock_some e v t low))) in
    let owed = weighed n T back (owed_times e) (λ j t. v (R j t)) in
    let whole : A + (B + (C + D)) ≡ sum_to T (λ t. y t + (x t + s t + r t)) = omega (arith, stocks, held, owed, sum_to-add T y (λ t. x t + s t + r t), sum_to-add T (λ t. x t + s t) r, sum_to-add T x s) in
    sum_append v xs (ys ++ (ss ++ rs))
    ∙ ap (λ z. z +ℤ sum_at v (ys ++ (ss ++ rs))) (periods_sum v T (λ t. X e.item t) unit)
    ∙ ap (λ z. pos A +ℤ z)
    (sum_append v ys (ss ++ rs) ∙ ap (λ z. z +ℤ sum_at v (ss ++ rs)) (periods_sum v T (λ t. Y e.item t) setup)
    ∙ ap (λ z. pos B +ℤ z)
    (sum_append v ss rs ∙ ap (λ z. z +ℤ sum_at v rs) (cells_sum v n T (λ j t. S j t) (λ j t. hold t * e.weight j)) ∙ ap (λ z. pos C +ℤ z) (cells_sum v n T (λ j t. R j t) (λ j t. back t * owed_times e j t))))
    ∙ ap pos whole

none_then : (b : Bool) (xs : List ℕ) → IsNone (if b then Some xs else None) → b ≡ false
none_then true xs h = cc h
none_then false xs h = refl

pub net_of_priced : (e : Echelon) (setup unit hold back : List ℕ) → IsNetOf e.asked e.owing (priced e setup unit hold back)
net_of_priced e setup unit hold back =
    let each = list_each (net_in e.asked) e.asked.periods in
    record { periods = each.size; net = each.each; back = none_then e.owing back }

-- where no backlog is allowed its price doesn't matter
same_back : (owing : Bool) (back : List ℕ) (t owed : ℕ) → (owing ≡ false → owed ≡ 0) → backlog_price (if owing then Some back else None) t * owed ≡ entry back t * owed
same_back true back t owed h = refl
same_back false back t owed h = omega (arith, ap (λ k. entry back t * k) (h refl))

same_cost : (e : Echelon) (v : Values) → IsTrajectory e.asked e.owing (trajectory_at e v) → (prices unit hold back : List ℕ) (setup : ℕ → ℕ) → sum_to e.asked.periods (period_cost e v setup (entry unit) (entry hold) (entry back)) ≡ sum_to e.asked.periods (λ t. setup t * v (Y e.item t) + kept_cost (priced e prices unit hold back) (trajectory_at e v) t)
unfolding period_cost
same_cost e v is prices unit hold back setup =
    sum_to-same e.asked.periods (period_cost e v setup (entry unit) (entry hold) (entry back)) (λ t. setup t * v (Y e.item t) + kept_cost (priced e prices unit hold back) (trajectory_at e v) t) (λ t low high.
    omega (arith, same_back e.owing back t (backlog_at e v t) (λ free. is.in_time free t low high)))

pub cost_row_holds : (e : Echelon) (v : Values) → IsTrajectory e.asked e.owing (trajectory_at e v) → (times : ℕ → ℕ) (setup unit hold back : List ℕ) (right : ℕ)
    → right ≤ sum_to e.asked.periods (λ t. times t * v (Y e.item t) + kept_cost (priced e setup unit hold back) (trajectory_at e v) t)
    → HoldsAt (whole_point v) (row_with (cost_terms e times (entry unit) (entry hold) (entry back)) (pos right))
cost_row_holds e v is times setup unit hold back right h =
    row_holds v (cost_terms e times (entry unit) (entry hold) (entry back)) right _ (cost_sum e v times (entry unit) (entry hold) (entry back)) (omega (arith, h, same_cost e v is setup unit hold back times))

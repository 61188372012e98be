-- What the (l,S) row adds to at whole values, and that it holds.
use Rattle.std.proofs.Common.{◌≡◌, ◌≢◌, ◌≤◌, ◌+◌, ◌-◌, ◌*◌, ◌∙◌, ⊎_elim, ℕ, zero, suc, ap, arith, Bool, true, false, ◌++◌}
use Rattle.std.specs.Prelude.{if◌then◌else◌, ◌==◌, pos, ◌+ℤ◌}
use Rattle.std.proofs.lemmas.Bool.{cases_Bool}
use Rattle.lot_sizing.specs.Sums.{sum_to}
use Rattle.lot_sizing.proofs.Sums.{sum_to-add, sum_to-same}
use Rattle.lin_rows.specs.declared.column.Column.TheVariants.{X, Y, R}
use Rattle.lin_rows.specs.Base.{term}
use Rattle.lin_rows.specs.Rows.{HoldsAt, Values, sum_at, whole_point}
use Rattle.lin_rows.proofs.Terms.{sum_append, sum_some}
use Rattle.valid_inequalities.specs.Inequalities.{HoldsLs, demand_between, ls_part}
use Rattle.echelon_rows.specs.Rows.{Echelon, backlog_at, cells_to, owed_times, periods_to, trajectory_at}
use Rattle.echelon_rows.proofs.Adding.{cells_sum, periods_sum, row_holds_less, weighed}
use Rattle.echelon_rows.proofs.Ways.{nothing_before}
use Rattle.ls_cuts.specs.Rows.{Periods, backlog_times, ls_row, ls_terms, setup_times, unit_times}

-- the backlogs before chosen periods
chosen_owed : Periods → (ℕ → ℕ) → ℕ → ℕ
chosen_owed chosen b t = if chosen t then b (t - 1) else 0

owed_step : (chosen : Periods) (b : ℕ → ℕ) (n : ℕ) → chosen_owed chosen b (suc n) ≡ (if chosen (n + 1) then 1 else 0) * b n
unfolding chosen_owed
owed_step chosen b n =
    let e : n + 1 ≡ suc n = omega arith in
    let d : suc n - 1 ≡ n = omega arith in
    let right = ap (λ k. (if chosen k then 1 else 0) * b n) e in
    ⊎_elim
    (λ yes. omega (arith, ap (λ c. if c then b (suc n - 1) else 0) yes, ap b d, right, ap (λ c. (if c then 1 else 0) * b n) yes))
    (λ no. omega (arith, ap (λ c. if c then b (suc n - 1) else 0) no, right, ap (λ c. (if c then 1 else 0) * b n) no))
    (cases_Bool (chosen (suc n)))

shifted : (chosen : Periods) (b : ℕ → ℕ) → b 0 ≡ 0 → (n : ℕ) → sum_to (suc n) (chosen_owed chosen b) ≡ sum_to n (λ t. (if chosen (t + 1) then 1 else 0) * b t)
shifted chosen b none zero = omega (arith, owed_step chosen b 0, ap (λ k. (if chosen (0 + 1) then 1 else 0) * k) none)
shifted chosen b none (suc n) = omega (arith, shifted chosen b none n, owed_step chosen b (suc n))

times_last : (l : ℕ) (chosen : Periods) → backlog_times l chosen l ≡ 1
times_last l chosen = grind arith

times_before : (l : ℕ) (chosen : Periods) (t : ℕ) → t ≢ l → backlog_times l chosen t ≡ (if chosen (t + 1) then 1 else 0)
times_before l chosen t h = let e : (t == l) ≡ false = grind (arith, h) in ap (λ b. if b then 1 else if chosen (t + 1) then 1 else 0) e

-- the backlogs that the row takes
owed_total : (l : ℕ) (chosen : Periods) (b : ℕ → ℕ) → 1 ≤ l → b 0 ≡ 0 → sum_to l (λ t. backlog_times l chosen t * b t) ≡ sum_to l (chosen_owed chosen b) + b l
owed_total zero chosen b low none = absurd (omega (arith, low))
owed_total (suc n) chosen b low none =
    let l = suc n in
    let before = sum_to-same n (λ t. backlog_times l chosen t * b t) (λ t. (if chosen (t + 1) then 1 else 0) * b t) (λ t t_low t_high. ap (λ k. k * b t) (times_before l chosen t (λ same. omega (arith, same, t_high)))) in
    omega (arith, before, shifted chosen b none n, ap (λ k. k * b l) (times_last l chosen))

part_by : (b : Bool) (d y o x : ℕ) → (if b then d * y + o else x) ≡ (if b then 0 else 1) * x + (if b then d else 0) * y + (if b then o else 0)
part_by true d y o x = omega arith
part_by false d y o x = omega arith

-- what the chosen and the other periods add, and what is owed in the end
pub ls_sum : (e : Echelon) (v : Values) (l : ℕ) (chosen : Periods) → 1 ≤ l → sum_at v (ls_terms e l chosen) ≡ pos (sum_to l (ls_part e.asked (trajectory_at e v) l chosen) + backlog_at e v l)
unfolding chosen_owed
ls_sum e v l chosen low =
    let b = backlog_at e v in
    let kx : ℕ → ℕ = unit_times chosen in
    let ky : ℕ → ℕ = setup_times e.asked l chosen in
    let kr = λ (j t : ℕ). backlog_times l chosen t * owed_times e j t in
    let xs = periods_to l (λ t. term (X e.item t) (pos (kx t))) in
    let ys = periods_to l (λ t. term (Y e.item t) (pos (ky t))) in
    let rs = cells_to e.items l (λ j t. term (R j t) (pos (kr j t))) in
    let A = sum_to l (λ t. kx t * v (X e.item t)) in
    let B = sum_to l (λ t. ky t * v (Y e.item t)) in
    let C = sum_to e.items (λ j. sum_to l (λ t. kr j t * v (R j t))) in
    let parts = sum_to-same l (ls_part e.asked (trajectory_at e v) l chosen) (λ t. kx t * v (X e.item t) + ky t * v (Y e.item t) + chosen_owed chosen b t) (λ t t_low t_high. part_by (chosen t) (demand_between e.asked t l) (v (Y e.item t)) (b (t - 1)) (v (X e.item t))) in
    let two = sum_to-add l (λ t. kx t * v (X e.item t) + ky t * v (Y e.item t)) (chosen_owed chosen b) in
    let one = sum_to-add l (λ t. kx t * v (X e.item t)) (λ t. ky t * v (Y e.item t)) in
    let owed = weighed e.items l (backlog_times l chosen) (owed_times e) (λ j t. v (R j t)) in
    let all : A + (B + C) ≡ sum_to l (ls_part e.asked (trajectory_at e v) l chosen) + b l = omega (arith, parts, two, one, owed, owed_total l chosen b low (nothing_before e v)) in
    sum_append v xs (ys ++ rs)
    ∙ ap (λ z. z +ℤ sum_at v (ys ++ rs)) (periods_sum v l (λ t. X e.item t) kx)
    ∙ ap (λ z. pos A +ℤ z) (sum_append v ys rs ∙ ap (λ z. z +ℤ sum_at v rs) (periods_sum v l (λ t. Y e.item t) ky) ∙ ap (λ z. pos B +ℤ z) (cells_sum v e.items l (λ j t. R j t) kr))
    ∙ ap pos all

pub row_sum : (e : Echelon) (v : Values) (l : ℕ) (chosen : Periods) → 1 ≤ l → sum_at v (ls_row e l chosen).terms ≡ pos (sum_to l (ls_part e.asked (trajectory_at e v) l chosen) + backlog_at e v l)
row_sum e v l chosen low = sum_some v (ls_terms e l chosen) ∙ ls_sum e v l chosen low

-- the row holds where the inequality does
pub ls_row_holds : (e : Echelon) (v : Values) (l : ℕ) (chosen : Periods) → 1 ≤ l → HoldsLs e.asked (trajectory_at e v) l chosen → HoldsAt (whole_point v) (ls_row e l chosen)
ls_row_holds e v l chosen low holds =
    row_holds_less v (ls_terms e l chosen) (demand_between e.asked 1 l) e.asked.opening (sum_to l (ls_part e.asked (trajectory_at e v) l chosen) + backlog_at e v l) (ls_sum e v l chosen low) (omega (arith, holds))

-- The objective of the linear model: each column its cost times.
use Rattle.std.proofs.Common.{◌≡◌, ◌≤◌, ◌<◌, ◌+◌, ◌*◌, ◌∙◌, ⊎_elim, ℕ, zero, suc, refl, sym, ap, arith, Bool, true, false, List, [], ◌∷◌, ◌++◌}
use Rattle.std.specs.Prelude.{if◌then◌else◌, is_some, ◌&&◌, nat_le, nat_lt, pos, ◌+ℤ◌, ◌≤ℤ◌}
use Rattle.std.specs.List.{All}
use Rattle.std.proofs.lemmas.Bool.{cases_Bool, cases_eq}
use Rattle.std.proofs.lemmas.List.Elements.{All-append}
use Rattle.algebra.proofs.Order.{linear}
use Rattle.lot_sizing.specs.Sums.{sum_to}
use Rattle.lot_sizing.specs.Problem.{Problem, backlog_cost, hold_cost, item_at, item_count, setup_cost, unit_cost}
use Rattle.lot_sizing.proofs.Sums.{sum_to-add, sum_to-same}
use Rattle.lin_rows.specs.declared.column.Column.{Column}
use Rattle.lin_rows.specs.declared.column.Column.TheVariants.{X, Y, S, R}
use Rattle.lin_rows.specs.declared.row.Term.{Term}
use Rattle.lin_rows.specs.Base.{is_owing, is_some_term, some_terms, term}
use Rattle.lin_rows.specs.Columns.{column_cost}
use Rattle.lin_rows.specs.Costs.{owed_cost, point_cost, point_cost_at}
use Rattle.lin_rows.specs.Rows.{Values, sum_at}
use Rattle.lin_rows.specs.Sums.{coefficient, same_column}
use Rattle.lin_rows.proofs.Below.{coefficient_append}
use Rattle.lin_rows.proofs.Cells.{same_parts}
use Rattle.lin_rows.proofs.Terms.{sum_append}
use Rattle.echelon_rows.specs.Rows.{cells_to, periods_to}
use Rattle.echelon_rows.proofs.Shapes.{Counts, Exists, items_each, some_exist}
use Rattle.echelon_rows.proofs.Adding.{cells_sum}

-- each column its cost times
unfoldable pub objective : Problem → List Term
objective m =
    cells_to (item_count m) m.periods (λ i t. term (X i t) (pos (unit_cost m i t)))
    ++ (cells_to (item_count m) m.periods (λ i t. term (Y i t) (pos (setup_cost m i t)))
    ++ (cells_to (item_count m) m.periods (λ i t. term (S i t) (pos (hold_cost m i t)))
    ++ cells_to (item_count m) m.periods (λ i t. term (R i t) (pos (owed_cost m i t)))))

-- sums of four, period by period and item by item
four : (n : ℕ) (a b c d : ℕ → ℕ) → sum_to n (λ k. a k + b k + c k + d k) ≡ sum_to n a + (sum_to n b + (sum_to n c + sum_to n d))
four n a b c d = omega (arith, sum_to-add n (λ k. a k + b k + c k) d, sum_to-add n (λ k. a k + b k) c, sum_to-add n a b)

-- the objective at a point is what it costs
pub objective_at : (m : Problem) (v : Values) → sum_at v (objective m) ≡ pos (point_cost m v)
unfolding objective
objective_at m v =
    let n = item_count m in
    let T = m.periods in
    let x = λ (i t : ℕ). unit_cost m i t * v (X i t) in
    let y = λ (i t : ℕ). setup_cost m i t * v (Y i t) in
    let s = λ (i t : ℕ). hold_cost m i t * v (S i t) in
    let o = λ (i t : ℕ). owed_cost m i t * v (R i t) in
    let whole = λ (q : ℕ → ℕ → ℕ). sum_to n (λ i. sum_to T (q i)) in
    let xs = cells_to n T (λ i t. term (X i t) (pos (unit_cost m i t))) in
    let ys = cells_to n T (λ i t. term (Y i t) (pos (setup_cost m i t))) in
    let ss = cells_to n T (λ i t. term (S i t) (pos (hold_cost m i t))) in
    let rs = cells_to n T (λ i t. term (R i t) (pos (owed_cost m i t))) in
    let each = sum_to-same n (λ i. sum_to T (λ t. point_cost_at m v i t)) (λ i. sum_to T (x i) + (sum_to T (y i) + (sum_to T (s i) + sum_to T (o i)))) (λ i low high. four T (x i) (y i) (s i) (o i)) in
    let total : whole x + (whole y + (whole s + whole o)) ≡ point_cost m v = omega (arith, sum_to-add n (λ i. sum_to T (x i)) (λ i. sum_to T (y i) + (sum_to T (s i) + sum_to T (o i))), sum_to-add n (λ i. sum_to T (y i)) (λ i. sum_to T (s i) + sum_to T (o i)), sum_to-add n (λ i. sum_to T (s i)) (λ i. sum_to T (o i)), each) in
    sum_append v xs (ys ++ (ss ++ rs))
    ∙ ap (λ z. z +ℤ sum_at v (ys ++ (ss ++ rs))) (cells_sum v n T (λ i t. X i t) (unit_cost m))
    ∙ ap (λ z. pos (whole x) +ℤ z)
    (sum_append v ys (ss ++ rs) ∙ ap (λ z. z +ℤ sum_at v (ss ++ rs)) (cells_sum v n T (λ i t. Y i t) (setup_cost m))
    ∙ ap (λ z. pos (whole y) +ℤ z)
    (sum_append v ss rs ∙ ap (λ z. z +ℤ sum_at v rs) (cells_sum v n T (λ i t. S i t) (hold_cost m)) ∙ ap (λ z. pos (whole s) +ℤ z) (cells_sum v n T (λ i t. R i t) (owed_cost m))))
    ∙ ap pos total

-- ---- the objective takes no column more often than it costs
one_none : (b : Bool) (k : ℕ) → b ≡ false → ((if b then pos k else pos 0) +ℤ pos 0) ≡ pos 0
one_none b k is = rw is refl

one_all : (b : Bool) (k : ℕ) → ((if b then pos k else pos 0) +ℤ pos 0) ≤ℤ pos k
one_all true k = omega (arith, linear)
one_all false k = omega (arith, linear)

terms_absent : (T : ℕ) (c : ℕ → Column) (k : ℕ → ℕ) (d : Column) → ((t : ℕ) → t ≤ T → same_column (c t) d ≡ false) → coefficient (periods_to T (λ t. term (c t) (pos (k t)))) d ≡ pos 0
terms_absent zero c k d none = refl
terms_absent (suc n) c k d none =
    let f : ℕ → Term = λ t. term (c t) (pos (k t)) in
    omega (arith, linear, coefficient_append (periods_to n f) (f (suc n) ∷ []) d, terms_absent n c k d (λ t high. none t (omega (arith, high))), one_none (same_column (c (suc n)) d) (k (suc n)) (none (suc n) (omega arith)))

not_same : (b : Bool) → (b ≡ true → ⊥) → b ≡ false
not_same true h = absurd (h refl)
not_same false h = refl

terms_most : (T : ℕ) (c : ℕ → Column) (k : ℕ → ℕ) (d : Column) (s : ℕ) → ((t : ℕ) → same_column (c t) d ≡ true → t ≡ s) → coefficient (periods_to T (λ t. term (c t) (pos (k t)))) d ≤ℤ pos (k s)
terms_most zero c k d s only = omega (arith, linear)
terms_most (suc n) c k d s only =
    let f : ℕ → Term = λ t. term (c t) (pos (k t)) in
    let parts = coefficient_append (periods_to n f) (f (suc n) ∷ []) d in
    ⊎_elim
    (λ same.
    let here = only (suc n) same in
    let before = terms_absent n c k d (λ t high. not_same (same_column (c t) d) (λ is. omega (arith, only t is, here, high))) in
    omega (arith, linear, parts, before, one_all (same_column (c (suc n)) d) (k (suc n)), ap k here))
    (λ apart. omega (arith, linear, parts, terms_most n c k d s only, one_none (same_column (c (suc n)) d) (k (suc n)) apart))
    (cases_Bool (same_column (c (suc n)) d))

cells_absent : (n T : ℕ) (c : ℕ → ℕ → Column) (k : ℕ → ℕ → ℕ) (d : Column) → ((j t : ℕ) → j ≤ n → same_column (c j t) d ≡ false) → coefficient (cells_to n T (λ j t. term (c j t) (pos (k j t)))) d ≡ pos 0
cells_absent zero T c k d none = refl
cells_absent (suc n) T c k d none =
    let f : ℕ → ℕ → Term = λ j t. term (c j t) (pos (k j t)) in
    omega (arith, linear, coefficient_append (cells_to n T f) (periods_to T (f (suc n))) d, cells_absent n T c k d (λ j t high. none j t (omega (arith, high))), terms_absent T (c (suc n)) (k (suc n)) d (λ t high. none (suc n) t (omega arith)))

cells_most : (n T : ℕ) (c : ℕ → ℕ → Column) (k : ℕ → ℕ → ℕ) (d : Column) (i s : ℕ) → ((j t : ℕ) → same_column (c j t) d ≡ true → (j ≡ i) × (t ≡ s)) → coefficient (cells_to n T (λ j t. term (c j t) (pos (k j t)))) d ≤ℤ pos (k i s)
cells_most zero T c k d i s only = omega (arith, linear)
cells_most (suc n) T c k d i s only =
    let f : ℕ → ℕ → Term = λ j t. term (c j t) (pos (k j t)) in
    let parts = coefficient_append (cells_to n T f) (periods_to T (f (suc n))) d in
    ⊎_elim
    (λ here.
    let before = cells_absent n T c k d (λ j t high. not_same (same_column (c j t) d) (λ is. omega (arith, (only j t is).0, here, high))) in
    omega (arith, linear, parts, before, terms_most T (c (suc n)) (k (suc n)) d s (λ t is. (only (suc n) t is).1), ap (λ j. k j s) here))
    (λ there.
    let none = terms_absent T (c (suc n)) (k (suc n)) d (λ t high. not_same (same_column (c (suc n) t) d) (λ is. there ((only (suc n) t is).0))) in
    omega (arith, linear, parts, cells_most n T c k d i s only, none))
    (cases_eq (suc n) i)

coefficient_parts : (a b c d : List Term) (e : Column) → coefficient (a ++ (b ++ (c ++ d))) e ≡ coefficient a e +ℤ (coefficient b e +ℤ (coefficient c e +ℤ coefficient d e))
coefficient_parts a b c d e = coefficient_append a (b ++ (c ++ d)) e ∙ ap (λ z. coefficient a e +ℤ z) (coefficient_append b (c ++ d) e ∙ ap (λ z. coefficient b e +ℤ z) (coefficient_append c d e))

owed_most : (b : Bool) (k : ℕ) → (if b then k else 0) ≤ k
owed_most true k = omega arith
owed_most false k = omega arith

x_parts : (i t j s : ℕ) → same_column (X j s) (X i t) ≡ true → (j ≡ i) × (s ≡ t)
x_parts i t j s is = let (k, e, f) = same_parts (X j s) (X i t) is in (e, f)

y_parts : (i t j s : ℕ) → same_column (Y j s) (Y i t) ≡ true → (j ≡ i) × (s ≡ t)
y_parts i t j s is = let (k, e, f) = same_parts (Y j s) (Y i t) is in (e, f)

s_parts : (i t j s : ℕ) → same_column (S j s) (S i t) ≡ true → (j ≡ i) × (s ≡ t)
s_parts i t j s is = let (k, e, f) = same_parts (S j s) (S i t) is in (e, f)

r_parts : (i t j s : ℕ) → same_column (R j s) (R i t) ≡ true → (j ≡ i) × (s ≡ t)
r_parts i t j s is = let (k, e, f) = same_parts (R j s) (R i t) is in (e, f)

x_cells : Problem → List Term
x_cells m = cells_to (item_count m) m.periods (λ i t. term (X i t) (pos (unit_cost m i t)))

y_cells : Problem → List Term
y_cells m = cells_to (item_count m) m.periods (λ i t. term (Y i t) (pos (setup_cost m i t)))

s_cells : Problem → List Term
s_cells m = cells_to (item_count m) m.periods (λ i t. term (S i t) (pos (hold_cost m i t)))

r_cells : Problem → List Term
r_cells m = cells_to (item_count m) m.periods (λ i t. term (R i t) (pos (owed_cost m i t)))

objective_parts : (m : Problem) (c : Column) → coefficient (objective m) c ≡ coefficient (x_cells m) c +ℤ (coefficient (y_cells m) c +ℤ (coefficient (s_cells m) c +ℤ coefficient (r_cells m) c))
unfolding objective x_cells y_cells s_cells r_cells
objective_parts m c = coefficient_parts (x_cells m) (y_cells m) (s_cells m) (r_cells m) c

pub costs_at_most : (m : Problem) (c : Column) → coefficient (objective m) c ≤ℤ pos (column_cost m c)
unfolding x_cells y_cells s_cells r_cells
costs_at_most m (X i t) =
    let n = item_count m in
    let T = m.periods in
    omega (arith, linear, objective_parts m (X i t), cells_most n T (λ j s. X j s) (unit_cost m) (X i t) i t (λ j s is. x_parts i t j s is), cells_absent n T (λ j s. Y j s) (setup_cost m) (X i t) (λ j s high. refl), cells_absent n T (λ j s. S j s) (hold_cost m) (X i t) (λ j s high. refl), cells_absent n T (λ j s. R j s) (owed_cost m) (X i t) (λ j s high. refl))
costs_at_most m (Y i t) =
    let n = item_count m in
    let T = m.periods in
    omega (arith, linear, objective_parts m (Y i t), cells_absent n T (λ j s. X j s) (unit_cost m) (Y i t) (λ j s high. refl), cells_most n T (λ j s. Y j s) (setup_cost m) (Y i t) i t (λ j s is. y_parts i t j s is), cells_absent n T (λ j s. S j s) (hold_cost m) (Y i t) (λ j s high. refl), cells_absent n T (λ j s. R j s) (owed_cost m) (Y i t) (λ j s high. refl))
costs_at_most m (S i t) =
    let n = item_count m in
    let T = m.periods in
    omega (arith, linear, objective_parts m (S i t), cells_absent n T (λ j s. X j s) (unit_cost m) (S i t) (λ j s high. refl), cells_absent n T (λ j s. Y j s) (setup_cost m) (S i t) (λ j s high. refl), cells_most n T (λ j s. S j s) (hold_cost m) (S i t) i t (λ j s is. s_parts i t j s is), cells_absent n T (λ j s. R j s) (owed_cost m) (S i t) (λ j s high. refl))
costs_at_most m (R i t) =
    let n = item_count m in
    let T = m.periods in
    omega (arith, linear, objective_parts m (R i t), cells_absent n T (λ j s. X j s) (unit_cost m) (R i t) (λ j s high. refl), cells_absent n T (λ j s. Y j s) (setup_cost m) (R i t) (λ j s high. refl), cells_absent n T (λ j s. S j s) (hold_cost m) (R i t) (λ j s high. refl), cells_most n T (λ j s. R j s) (owed_cost m) (R i t) i t (λ j s is. r_parts i t j s is), owed_most (is_owing m i t) (backlog_cost m i t))

-- ---- those of the objective are of columns of the problem
owing_parts : (t n : ℕ) (some : Bool) → (nat_le 1 t && (nat_lt t n && some)) ≡ true → (t < n) × (some ≡ true)
owing_parts t n some is = (grind (arith, is), grind (arith, is))

owed_counts : (m : Problem) (j t : ℕ) → 1 ≤ j → j ≤ item_count m → 1 ≤ t → t ≤ m.periods → Counts m (term (R j t) (pos (owed_cost m j t)))
owed_counts m j t low high t_low t_high some =
    ⊎_elim
    (λ yes. let parts = owing_parts t m.periods (is_some (item_at m j).backlog_cost) yes in ((low, high, t_low, t_high), parts.0, parts.1))
    (λ no. cc (sym (ap (λ b. is_some_term (pos (if b then backlog_cost m j t else 0))) no) ∙ some))
    (cases_Bool (is_owing m j t))

pub objective_exists : (m : Problem) → All (Exists m) (some_terms (objective m))
unfolding objective
objective_exists m =
    let n = item_count m in
    let T = m.periods in
    some_exist m (objective m)
    (All-append (Counts m) (cells_to n T (λ i t. term (X i t) (pos (unit_cost m i t)))) _ (items_each (Counts m) n T _ (λ j t low high t_low t_high _. (low, high, t_low, t_high)))
    (All-append (Counts m) (cells_to n T (λ i t. term (Y i t) (pos (setup_cost m i t)))) _ (items_each (Counts m) n T _ (λ j t low high t_low t_high _. (low, high, t_low, t_high)))
    (All-append (Counts m) (cells_to n T (λ i t. term (S i t) (pos (hold_cost m i t)))) _ (items_each (Counts m) n T _ (λ j t low high t_low t_high _. (low, high, t_low, t_high)))
    (items_each (Counts m) n T _ (owed_counts m)))))

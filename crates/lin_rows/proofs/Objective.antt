-- The objective of the linear model: each column its cost times.
use Rattle.std.proofs.Common.{◌≡◌, ◌≤◌, ◌<◌, ◌+◌, ◌*◌, ◌∙◌, ◌⊎◌, ⊎_elim, inl, inr, ℕ, zero, suc, refl, sym, ap, arith, Bool, true, false, List, [], ◌∷◌, ◌++◌}
use Rattle.std.specs.Prelude.{if◌then◌else◌, is_some, Option, Some, None, IsNone, ◌&&◌, nat_le, nat_lt, ℤ, pos, ◌+ℤ◌, ◌*ℤ◌, ◌≤ℤ◌}
use Rattle.std.proofs.lemmas.Bool.{cases_eq, cases_lt}
use Rattle.algebra.proofs.Order.{linear}
use Rattle.lot_sizing.specs.Sums.{sum_to}
use Rattle.lot_sizing.specs.Problem.{Problem, backlog_cost, hold_cost, item_at, item_count, setup_cost, unit_cost}
use Rattle.lot_sizing.specs.Plan.{Plan, IsFeasible, cost, cost_at}
use Rattle.lot_sizing.proofs.Sums.{sum_to-add, sum_to-same}
use Rattle.lin_rows.specs.declared.column.Column.{Column}
use Rattle.lin_rows.specs.declared.column.Column.TheVariants.{X, Y, S, R}
use Rattle.lin_rows.specs.declared.row.Term.{Term}
use Rattle.lin_rows.specs.Base.{is_owing, term}
use Rattle.lin_rows.specs.Columns.{IsColumn, column_cost, value_in}
use Rattle.lin_rows.specs.Costs.{owed_cost, point_cost, point_cost_at}
use Rattle.lin_rows.specs.Rows.{Values, sum_at}
use Rattle.lin_rows.specs.Sums.{coefficient, same_column}
use Rattle.lin_rows.proofs.Below.{coefficient_append}
use Rattle.lin_rows.proofs.Cells.{same_self}
use Rattle.lin_rows.proofs.Terms.{sum_append}

-- a term of each number up to n
abbrev pub each_to : ℕ → (ℕ → Term) → List Term
each_to zero f = []
each_to (suc n) f = each_to n f ++ (f (suc n) ∷ [])

-- for each of so many items a term of each period
abbrev pub cells_to : ℕ → ℕ → (ℕ → ℕ → Term) → List Term
cells_to zero periods f = []
cells_to (suc n) periods f = cells_to n periods f ++ each_to periods (f (suc n))

one_more : (a b : ℕ) → a + (b + 0) ≡ a + b
one_more a b = omega arith

-- terms that are taken a whole number of times
pub terms_sum : (v : Values) (n : ℕ) (c : ℕ → Column) (k : ℕ → ℕ) → sum_at v (each_to n (λ t. term (c t) (pos (k t)))) ≡ pos (sum_to n (λ t. k t * v (c t)))
terms_sum v zero c k = refl
terms_sum v (suc n) c k =
    let f = λ (t : ℕ). term (c t) (pos (k t)) in
    let x = k (suc n) * v (c (suc n)) in
    sum_append v (each_to n f) (f (suc n) ∷ [])
    ∙ ap (λ z. z +ℤ (pos (k (suc n)) *ℤ pos (v (c (suc n))) +ℤ pos 0)) (terms_sum v n c k)
    ∙ ap pos (one_more (sum_to n (λ t. k t * v (c t))) x)

pub cells_sum : (v : Values) (n T : ℕ) (c : ℕ → ℕ → Column) (k : ℕ → ℕ → ℕ) → sum_at v (cells_to n T (λ j t. term (c j t) (pos (k j t)))) ≡ pos (sum_to n (λ j. sum_to T (λ t. k j t * v (c j t))))
cells_sum v zero T c k = refl
cells_sum v (suc n) T c k =
    let f = λ (j t : ℕ). term (c j t) (pos (k j t)) in
    sum_append v (cells_to n T f) (each_to T (f (suc n)))
    ∙ ap (λ z. z +ℤ sum_at v (each_to T (f (suc n)))) (cells_sum v n T c k)
    ∙ ap (λ z. pos (sum_to n (λ j. sum_to T (λ t. k j t * v (c j t)))) +ℤ z) (terms_sum v T (c (suc n)) (k (suc n)))

-- terms that are taken a whole number of times
one_nonneg : (b : Bool) (k : ℕ) → pos 0 ≤ℤ ((if b then pos k else pos 0) +ℤ pos 0)
one_nonneg true k = omega (arith, linear)
one_nonneg false k = omega (arith, linear)

one_own : (b : Bool) (k : ℕ) → b ≡ true → pos k ≤ℤ ((if b then pos k else pos 0) +ℤ pos 0)
one_own b k is = rw is (omega (arith, linear))

terms_nonneg : (T : ℕ) (c : ℕ → Column) (k : ℕ → ℕ) (d : Column) → pos 0 ≤ℤ coefficient (each_to T (λ t. term (c t) (pos (k t)))) d
terms_nonneg zero c k d = omega (arith, linear)
terms_nonneg (suc n) c k d =
    let f : ℕ → Term = λ t. term (c t) (pos (k t)) in
    omega (arith, linear, coefficient_append (each_to n f) (f (suc n) ∷ []) d, terms_nonneg n c k d, one_nonneg (same_column (c (suc n)) d) (k (suc n)))

terms_own : (T : ℕ) (c : ℕ → Column) (k : ℕ → ℕ) (d : Column) (t : ℕ) → 1 ≤ t → t ≤ T → same_column (c t) d ≡ true → pos (k t) ≤ℤ coefficient (each_to T (λ s. term (c s) (pos (k s)))) d
terms_own zero c k d t low high same = absurd (omega (arith, low, high))
terms_own (suc n) c k d t low high same =
    let f : ℕ → Term = λ s. term (c s) (pos (k s)) in
    let parts = coefficient_append (each_to n f) (f (suc n) ∷ []) d in
    ⊎_elim
    (λ last. omega (arith, linear, parts, terms_nonneg n c k d, one_own (same_column (c (suc n)) d) (k (suc n)) (sym (ap (λ s. same_column (c s) d) last) ∙ same), ap k last))
    (λ before. omega (arith, linear, parts, terms_own n c k d t low (omega (arith, high, before)) same, one_nonneg (same_column (c (suc n)) d) (k (suc n))))
    (cases_eq t (suc n))

cells_nonneg : (n T : ℕ) (c : ℕ → ℕ → Column) (k : ℕ → ℕ → ℕ) (d : Column) → pos 0 ≤ℤ coefficient (cells_to n T (λ j t. term (c j t) (pos (k j t)))) d
cells_nonneg zero T c k d = omega (arith, linear)
cells_nonneg (suc n) T c k d =
    let f : ℕ → ℕ → Term = λ j t. term (c j t) (pos (k j t)) in
    omega (arith, linear, coefficient_append (cells_to n T f) (each_to T (f (suc n))) d, cells_nonneg n T c k d, terms_nonneg T (c (suc n)) (k (suc n)) d)

cells_own : (n T : ℕ) (c : ℕ → ℕ → Column) (k : ℕ → ℕ → ℕ) (d : Column) (j t : ℕ) → 1 ≤ j → j ≤ n → 1 ≤ t → t ≤ T → same_column (c j t) d ≡ true → pos (k j t) ≤ℤ coefficient (cells_to n T (λ i s. term (c i s) (pos (k i s)))) d
cells_own zero T c k d j t low high t_low t_high same = absurd (omega (arith, low, high))
cells_own (suc n) T c k d j t low high t_low t_high same =
    let f : ℕ → ℕ → Term = λ i s. term (c i s) (pos (k i s)) in
    let parts = coefficient_append (cells_to n T f) (each_to T (f (suc n))) d in
    ⊎_elim
    (λ last. omega (arith, linear, parts, cells_nonneg n T c k d, terms_own T (c (suc n)) (k (suc n)) d t t_low t_high (sym (ap (λ i. same_column (c i t) d) last) ∙ same), ap (λ i. k i t) last))
    (λ before. omega (arith, linear, parts, cells_own n T c k d j t low (omega (arith, high, before)) t_low t_high same, terms_nonneg T (c (suc n)) (k (suc n)) d))
    (cases_eq j (suc n))

-- each column its cost times
unfoldable pub objective : Problem → List Term
objective m =
    cells_to (item_count m) m.periods (λ i t. term (X i t) (pos (unit_cost m i t)))
    ++ (cells_to (item_count m) m.periods (λ i t. term (Y i t) (pos (setup_cost m i t)))
    ++ (cells_to (item_count m) m.periods (λ i t. term (S i t) (pos (hold_cost m i t)))
    ++ cells_to (item_count m) m.periods (λ i t. term (R i t) (pos (owed_cost m i t)))))

coefficient_parts : (a b c d : List Term) (e : Column) → coefficient (a ++ (b ++ (c ++ d))) e ≡ coefficient a e +ℤ (coefficient b e +ℤ (coefficient c e +ℤ coefficient d e))
coefficient_parts a b c d e = coefficient_append a (b ++ (c ++ d)) e ∙ ap (λ z. coefficient a e +ℤ z) (coefficient_append b (c ++ d) e ∙ ap (λ z. coefficient b e +ℤ z) (coefficient_append c d e))

owing_yes : (t n : ℕ) (some : Bool) → 1 ≤ t → t < n → some ≡ true → (nat_le 1 t && (nat_lt t n && some)) ≡ true
owing_yes t n some low high is = grind (arith, low, high, is)

pub some_or_none : (o : Option (List ℕ)) → (is_some o ≡ true) ⊎ IsNone o
some_or_none None = inr refl
some_or_none (Some x) = inl refl

owed_is : (m : Problem) (i t : ℕ) → is_owing m i t ≡ true → owed_cost m i t ≡ backlog_cost m i t
owed_is m i t is = ap (λ b. if b then backlog_cost m i t else 0) is

x_cells : Problem → List Term
x_cells m = cells_to (item_count m) m.periods (λ i t. term (X i t) (pos (unit_cost m i t)))

y_cells : Problem → List Term
y_cells m = cells_to (item_count m) m.periods (λ i t. term (Y i t) (pos (setup_cost m i t)))

s_cells : Problem → List Term
s_cells m = cells_to (item_count m) m.periods (λ i t. term (S i t) (pos (hold_cost m i t)))

r_cells : Problem → List Term
r_cells m = cells_to (item_count m) m.periods (λ i t. term (R i t) (pos (owed_cost m i t)))

record AreNonneg (m : Problem) (c : Column) : Type 0 where
  x : pos 0 ≤ℤ coefficient (x_cells m) c
  y : pos 0 ≤ℤ coefficient (y_cells m) c
  s : pos 0 ≤ℤ coefficient (s_cells m) c
  r : pos 0 ≤ℤ coefficient (r_cells m) c
  whole : coefficient (objective m) c ≡ coefficient (x_cells m) c +ℤ (coefficient (y_cells m) c +ℤ (coefficient (s_cells m) c +ℤ coefficient (r_cells m) c))

are_nonneg : (m : Problem) (c : Column) → AreNonneg m c
unfolding objective x_cells y_cells s_cells r_cells
are_nonneg m c =
    let n = item_count m in
    let T = m.periods in
    record {
      x = cells_nonneg n T (λ i t. X i t) (unit_cost m) c;
      y = cells_nonneg n T (λ i t. Y i t) (setup_cost m) c;
      s = cells_nonneg n T (λ i t. S i t) (hold_cost m) c;
      r = cells_nonneg n T (λ i t. R i t) (owed_cost m) c;
      whole = coefficient_parts (x_cells m) (y_cells m) (s_cells m) (r_cells m) c;
    }

pub nonneg : (m : Problem) (c : Column) → pos 0 ≤ℤ coefficient (objective m) c
nonneg m c = let all = are_nonneg m c in omega (arith, linear, all.x, all.y, all.s, all.r, all.whole)

-- a column of the problem stands there with its cost at least
pub costs_at_least : (m : Problem) (c : Column) → IsColumn m c → pos (column_cost m c) ≤ℤ coefficient (objective m) c
unfolding x_cells y_cells s_cells r_cells
costs_at_least m (X i t) is =
    let all = are_nonneg m (X i t) in
    omega (arith, linear, all.y, all.s, all.r, all.whole, cells_own (item_count m) m.periods (λ j s. X j s) (unit_cost m) (X i t) i t is.0 is.1 is.2 is.3 (same_self (X i t)))
costs_at_least m (Y i t) is =
    let all = are_nonneg m (Y i t) in
    omega (arith, linear, all.x, all.s, all.r, all.whole, cells_own (item_count m) m.periods (λ j s. Y j s) (setup_cost m) (Y i t) i t is.0 is.1 is.2 is.3 (same_self (Y i t)))
costs_at_least m (S i t) is =
    let all = are_nonneg m (S i t) in
    omega (arith, linear, all.x, all.y, all.r, all.whole, cells_own (item_count m) m.periods (λ j s. S j s) (hold_cost m) (S i t) i t is.0 is.1 is.2 is.3 (same_self (S i t)))
costs_at_least m (R i t) is =
    let all = are_nonneg m (R i t) in
    let cell = is.0 in
    let owing = owed_is m i t (owing_yes t m.periods (is_some (item_at m i).backlog_cost) cell.2 is.1 is.2) in
    omega (arith, linear, all.x, all.y, all.s, all.whole, cells_own (item_count m) m.periods (λ j s. R j s) (owed_cost m) (R i t) i t cell.0 cell.1 cell.2 cell.3 (same_self (R i t)), owing)

-- sums of four, period by period and item by item
four : (n : ℕ) (a b c d : ℕ → ℕ) → sum_to n (λ k. a k + b k + c k + d k) ≡ sum_to n a + (sum_to n b + (sum_to n c + sum_to n d))
four n a b c d = omega (arith, sum_to-add n (λ k. a k + b k + c k) d, sum_to-add n (λ k. a k + b k) c, sum_to-add n a b)

-- the objective at a point is what it costs
pub objective_at : (m : Problem) (v : Values) → sum_at v (objective m) ≡ pos (point_cost m v)
unfolding objective
objective_at m v =
    let n = item_count m in
    let T = m.periods in
    let x = λ (i t : ℕ). unit_cost m i t * v (X i t) in
    let y = λ (i t : ℕ). setup_cost m i t * v (Y i t) in
    let s = λ (i t : ℕ). hold_cost m i t * v (S i t) in
    let o = λ (i t : ℕ). owed_cost m i t * v (R i t) in
    let whole = λ (q : ℕ → ℕ → ℕ). sum_to n (λ i. sum_to T (q i)) in
    let xs = cells_to n T (λ i t. term (X i t) (pos (unit_cost m i t))) in
    let ys = cells_to n T (λ i t. term (Y i t) (pos (setup_cost m i t))) in
    let ss = cells_to n T (λ i t. term (S i t) (pos (hold_cost m i t))) in
    let rs = cells_to n T (λ i t. term (R i t) (pos (owed_cost m i t))) in
    let each = sum_to-same n (λ i. sum_to T (λ t. point_cost_at m v i t)) (λ i. sum_to T (x i) + (sum_to T (y i) + (sum_to T (s i) + sum_to T (o i)))) (λ i low high. four T (x i) (y i) (s i) (o i)) in
    let total : whole x + (whole y + (whole s + whole o)) ≡ point_cost m v = omega (arith, sum_to-add n (λ i. sum_to T (x i)) (λ i. sum_to T (y i) + (sum_to T (s i) + sum_to T (o i))), sum_to-add n (λ i. sum_to T (y i)) (λ i. sum_to T (s i) + sum_to T (o i)), sum_to-add n (λ i. sum_to T (s i)) (λ i. sum_to T (o i)), each) in
    sum_append v xs (ys ++ (ss ++ rs))
    ∙ ap (λ z. z +ℤ sum_at v (ys ++ (ss ++ rs))) (cells_sum v n T (λ i t. X i t) (unit_cost m))
    ∙ ap (λ z. pos (whole x) +ℤ z)
    (sum_append v ys (ss ++ rs) ∙ ap (λ z. z +ℤ sum_at v (ss ++ rs)) (cells_sum v n T (λ i t. Y i t) (setup_cost m))
    ∙ ap (λ z. pos (whole y) +ℤ z)
    (sum_append v ss rs ∙ ap (λ z. z +ℤ sum_at v rs) (cells_sum v n T (λ i t. S i t) (hold_cost m)) ∙ ap (λ z. pos (whole s) +ℤ z) (cells_sum v n T (λ i t. R i t) (owed_cost m))))
    ∙ ap pos total

-- a feasible plan owes nothing where there is no column of it
nothing_owed : (m : Problem) (p : Plan) (i t : ℕ) → p.backlog i t ≡ 0 → backlog_cost m i t * p.backlog i t ≡ owed_cost m i t * p.backlog i t
nothing_owed m p i t none = omega (arith, ap (λ k. backlog_cost m i t * k) none, ap (λ k. owed_cost m i t * k) none)

owed_value : (m : Problem) (p : Plan) (i t : ℕ) → IsFeasible m p → 1 ≤ i → i ≤ item_count m → 1 ≤ t → t ≤ m.periods → backlog_cost m i t * p.backlog i t ≡ owed_cost m i t * p.backlog i t
owed_value m p i t f low high t_low t_high =
    let allowed = f.backlog i t low high t_low t_high in
    let free = λ (none : p.backlog i t ≡ 0). nothing_owed m p i t none in
    ⊎_elim
    (λ before. ⊎_elim
    (λ some. ap (λ k. k * p.backlog i t) (sym (owed_is m i t (owing_yes t m.periods (is_some (item_at m i).backlog_cost) t_low before some))))
    (λ none. free (allowed.0 none))
    (some_or_none (item_at m i).backlog_cost))
    (λ last. free (allowed.1 (omega (arith, last, t_high))))
    (cases_lt t m.periods)

pub plan_costs : (m : Problem) (p : Plan) → IsFeasible m p → point_cost m (value_in p) ≡ cost m p
plan_costs m p f =
    sum_to-same (item_count m) (λ i. sum_to m.periods (λ t. point_cost_at m (value_in p) i t)) (λ i. sum_to m.periods (λ t. cost_at m p i t)) (λ i low high.
    sum_to-same m.periods (λ t. point_cost_at m (value_in p) i t) (λ t. cost_at m p i t) (λ t t_low t_high.
    ap (λ n. unit_cost m i t * p.make i t + setup_cost m i t * p.setup i t + hold_cost m i t * p.stock i t + n) (sym (owed_value m p i t f low high t_low t_high))))

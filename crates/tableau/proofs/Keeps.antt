-- Every dictionary of a run is the program's.
use Rattle.std.proofs.Common.{◌≡◌, ◌≢◌, ◌⊎◌, ◌≤◌, ◌<◌, ◌+◌, ◌-◌, ◌∙◌, ⊎_elim, ℕ, zero, suc, refl, sym, ap, subst, arith, inl, inr}
use Rattle.std.proofs.lemmas.Bool.{cases_eq}
use Rattle.std.proofs.lemmas.Int.{ints}
use Rattle.std.specs.Prelude.{pos}
use Rattle.std.specs.declared.cmp.Ordering.{Ordering}
use Rattle.std.specs.declared.cmp.Ordering.TheVariants.{Less, Equal, Greater}
use Rattle.rational.specs.Rational.{ℚ, whole, inv_ℚ, neg_ℚ, ◌+ℚ◌, ◌*ℚ◌, ◌-ℚ◌, ◌≤ℚ◌, cmp_ℚ, IsOrder}
use Rattle.rational.proofs.Rationals as Q
use Rattle.rational.proofs.Rationals.{rational_ring, rational_ordered, inv-mul}
use Rattle.rational.proofs.Facts.{cancel_le, whole-le}
use Rattle.rational.proofs.Orders.{order_of}
use Rattle.algebra.proofs.Rings.{con, ◌⊕◌, ◌⊖◌, ◌⊗◌, ◌⊜◌, ring1, ring2, ring3}
use Rattle.algebra.proofs.Claims.{le3, le4, so, from, from_times, from_same}
use Rattle.algebra.proofs.Sums.{sum-same, sum-first}
use Rattle.tableau.specs.Program.{Program, column_count, cost_at, entry_at, right_at, row_count, sum_ℚ, zero_ℚ}
use Rattle.tableau.specs.Dictionary.{Dictionary, IsPivoted, IsStart, Meets, Solves, basic_at, cell, cost_of, factor_at, height, nonbasic_at, width}
use Rattle.tableau.specs.Run.{IsCandidate, IsPositive, Rule, Runs, ratio_at}
use Rattle.tableau.specs.Meaning.{IsBasis, IsDictionaryOf, IsDualFeasible, SaysTheSame}
use Rattle.tableau.proofs.Pivots.{Turn, solves_back, solves_on}
use Rattle.tableau.specs.Laws.{AreKept}

-- ---- positive numbers
pub is_positive : (x : ℚ) → (x ≤ℚ zero_ℚ) ⊎ IsPositive x
is_positive x = by (cmp_ℚ x zero_ℚ) (order_of x zero_ℚ)
  where
    by : (o : Ordering) → IsOrder x zero_ℚ o → (x ≤ℚ zero_ℚ) ⊎ IsPositive x
    by Less is = ⊎_elim (λ low. inl low) (λ high. absurd (is high)) (Q.le_total x zero_ℚ)
    by Equal is = inl (subst (λ y. x ≤ℚ y) is (Q.le_refl x))
    by Greater is = inr is

pub not_zero : (x : ℚ) → IsPositive x → x ≢ zero_ℚ
not_zero x positive is = positive (subst (λ y. x ≤ℚ y) is (Q.le_refl x))

pub not_minus_zero : (x : ℚ) → IsPositive x → neg_ℚ x ≢ zero_ℚ
not_minus_zero x positive is = not_zero x positive (sym (Q.zero_add x) ∙ ap (λ y. y +ℚ x) (sym is) ∙ Q.neg_add x)

pub positive_le : (x : ℚ) → IsPositive x → zero_ℚ ≤ℚ x
positive_le x positive = ⊎_elim (λ low. absurd (positive low)) (λ high. high) (Q.le_total x zero_ℚ)

pub inverse_le : (x : ℚ) → IsPositive x → zero_ℚ ≤ℚ inv_ℚ x
inverse_le x positive =
    let one : x *ℚ inv_ℚ x ≡ whole (pos 1) = Q.mul_comm x (inv_ℚ x) ∙ inv-mul x (not_zero x positive) in
    let none : x *ℚ zero_ℚ ≡ zero_ℚ = ring1 rational_ring (λ a. a ⊗ con (pos 0) ⊜ con (pos 0)) refl x in
    cancel_le x zero_ℚ (inv_ℚ x) positive (subst (λ y. (x *ℚ zero_ℚ) ≤ℚ y) (sym one) (subst (λ y. y ≤ℚ whole (pos 1)) (sym none) (whole-le (pos 0) (pos 1) (omega arith))))

-- ---- the first dictionary
-- a sum over one place more, from the front
pub sum_front : (n : ℕ) (f : ℕ → ℚ) → sum_ℚ (n + 1) f ≡ f 0 +ℚ sum_ℚ n (λ i. f (i + 1))
sum_front n f =
    let e : n + 1 ≡ suc n = omega arith in
    ap (λ m. sum_ℚ m f) e ∙ sum-first rational_ring n f ∙ ap (λ s. f 0 +ℚ s) (sum-same rational_ring n (λ i. f (suc i)) (λ i. f (i + 1)) (λ i less. ap f (one_more i)))
  where
    one_more : (i : ℕ) → suc i ≡ i + 1
    one_more i = omega arith

module _ (p : Program) (d : Dictionary) (start : IsStart p d) where
  before : (i : ℕ) → 1 ≤ i → i - 1 + 1 ≡ i
  before i low = omega (arith, low)

  start_basic : (i : ℕ) → 1 ≤ i → i < height d → basic_at d i ≡ column_count p + i
  start_basic i low high =
      ap (basic_at d) (sym (before i low)) ∙ start.slacks (i - 1) (omega (arith, low, high, start.rows)) ∙ omega (arith, low)

  start_row : (i : ℕ) → i < height d → ((i ≡ 0) × (basic_at d i ≡ cost_of p)) ⊎ ((1 ≤ i) × (basic_at d i ≡ column_count p + i))
  start_row i high = ⊎_elim (λ none. inl (none, ap (basic_at d) none ∙ start.first)) (λ some. inr (omega (arith, some), start_basic i (omega (arith, some)) high)) (cases_eq i 0)

  pub start_names : IsBasis p d
  start_names = record {
    rows = start.rows;
    columns = start.columns;
    cost = start.first;
    constants = start.names 0 (omega (arith, start.columns));
    basics_low = λ i high. ⊎_elim (λ a. omega (arith, a.1)) (λ b. omega (arith, b.0, b.1)) (start_row i high);
    basics_high = λ i low high. omega (arith, start_basic i low high, high, start.rows);
    nonbasics_low = λ t low high. omega (arith, start.names t high, low);
    nonbasics_high = λ t high. omega (arith, start.names t high, high, start.columns);
    rows_apart = λ i h i_high h_high same.
        ⊎_elim (λ a. ⊎_elim (λ b. omega (arith, a.0, b.0)) (λ b. absurd (omega (arith, a.1, b.1, same, h_high, start.rows))) (start_row h h_high))
        (λ a. ⊎_elim (λ b. absurd (omega (arith, a.1, b.1, same, i_high, start.rows))) (λ b. omega (arith, a.1, b.1, same)) (start_row h h_high)) (start_row i i_high);
    columns_apart = λ t u t_high u_high same. omega (arith, start.names t t_high, start.names u u_high, same);
    apart = λ i t i_high t_high same. ⊎_elim (λ a. omega (arith, a.1, same, start.names t t_high, t_high, start.columns)) (λ a. omega (arith, a.0, a.1, same, start.names t t_high, t_high, start.columns)) (start_row i i_high);
  }

  module _ (x : ℕ → ℚ) where
    -- a row's sum, the constant first
    start_sum : (i : ℕ) → sum_ℚ (width d) (λ t. cell d i t *ℚ x (nonbasic_at d t)) ≡ cell d i 0 *ℚ x 0 +ℚ sum_ℚ (column_count p) (λ c. cell d i (c + 1) *ℚ x (c + 1))
    start_sum i =
        ap (λ n. sum_ℚ n (λ t. cell d i t *ℚ x (nonbasic_at d t))) start.columns ∙ sum_front (column_count p) (λ t. cell d i t *ℚ x (nonbasic_at d t))
        ∙ ap (λ v. cell d i 0 *ℚ x v +ℚ sum_ℚ (column_count p) (λ c. cell d i (c + 1) *ℚ x (nonbasic_at d (c + 1)))) (start.names 0 (omega (arith, start.columns)))
        ∙ ap (λ s. cell d i 0 *ℚ x 0 +ℚ s) (sum-same rational_ring (column_count p) (λ c. cell d i (c + 1) *ℚ x (nonbasic_at d (c + 1))) (λ c. cell d i (c + 1) *ℚ x (c + 1)) (λ c less. ap (λ v. cell d i (c + 1) *ℚ x v) (start.names (c + 1) (omega (arith, less, start.columns)))))

    cost_row : sum_ℚ (width d) (λ t. cell d 0 t *ℚ x (nonbasic_at d t)) ≡ sum_ℚ (column_count p) (λ c. cost_at p c *ℚ x (c + 1))
    cost_row =
        start_sum 0 ∙ ap (λ z. z *ℚ x 0 +ℚ sum_ℚ (column_count p) (λ c. cell d 0 (c + 1) *ℚ x (c + 1))) start.value
        ∙ ring2 rational_ring (λ u s. con (pos 0) ⊗ u ⊕ s ⊜ s) refl (x 0) (sum_ℚ (column_count p) (λ c. cell d 0 (c + 1) *ℚ x (c + 1)))
        ∙ sum-same rational_ring (column_count p) (λ c. cell d 0 (c + 1) *ℚ x (c + 1)) (λ c. cost_at p c *ℚ x (c + 1)) (λ c less. ap (λ z. z *ℚ x (c + 1)) (start.costs c less))

    slack_row : (k : ℕ) → k < row_count p → sum_ℚ (width d) (λ t. cell d (k + 1) t *ℚ x (nonbasic_at d t)) ≡ sum_ℚ (column_count p) (λ c. entry_at p k c *ℚ x (c + 1)) -ℚ right_at p k *ℚ x 0
    slack_row k high =
        start_sum (k + 1) ∙ ap (λ z. z *ℚ x 0 +ℚ sum_ℚ (column_count p) (λ c. cell d (k + 1) (c + 1) *ℚ x (c + 1))) (start.constants k high ∙ sym (Q.zero_add (neg_ℚ (right_at p k))))
        ∙ ring3 rational_ring (λ r u s. (con (pos 0) ⊖ r) ⊗ u ⊕ s ⊜ s ⊖ r ⊗ u) refl (right_at p k) (x 0) (sum_ℚ (column_count p) (λ c. cell d (k + 1) (c + 1) *ℚ x (c + 1)))
        ∙ ap (λ s. s -ℚ right_at p k *ℚ x 0) (sum-same rational_ring (column_count p) (λ c. cell d (k + 1) (c + 1) *ℚ x (c + 1)) (λ c. entry_at p k c *ℚ x (c + 1)) (λ c less. ap (λ z. z *ℚ x (c + 1)) (start.entries k c high less)))

    start_solves : Meets p x → Solves d x
    start_solves meets i high =
        ⊎_elim
        (λ none. ap (λ h. x (basic_at d h)) none ∙ ap x start.first ∙ meets.cost ∙ sym cost_row ∙ ap (λ h. sum_ℚ (width d) (λ t. cell d h t *ℚ x (nonbasic_at d t))) (sym none))
        (λ some.
        let less : i - 1 < row_count p = omega (arith, some, high, start.rows) in
        let is : i - 1 + 1 ≡ i = omega (arith, some) in
        ap (λ h. x (basic_at d h)) (sym is) ∙ ap x (start.slacks (i - 1) less) ∙ meets.slacks (i - 1) less ∙ sym (slack_row (i - 1) less) ∙ ap (λ h. sum_ℚ (width d) (λ t. cell d h t *ℚ x (nonbasic_at d t))) is)
        (cases_eq i 0)

    start_meets : Solves d x → Meets p x
    start_meets solves = record {
      cost = ap x (sym start.first) ∙ solves 0 (omega (arith, start.rows)) ∙ cost_row;
      slacks = λ k high. ap x (sym (start.slacks k high)) ∙ solves (k + 1) (omega (arith, high, start.rows)) ∙ slack_row k high;
    }

  cost_le : (c : ℕ) → zero_ℚ ≤ℚ cost_at p c
  cost_le c = whole-le (pos 0) _ (omega (arith, ints))

  start_dual : IsDualFeasible d
  start_dual t low high =
      let is : t - 1 + 1 ≡ t = omega (arith, low) in
      subst (λ u. zero_ℚ ≤ℚ cell d 0 u) is (subst (λ z. zero_ℚ ≤ℚ z) (sym (start.costs (t - 1) (omega (arith, low, high, start.columns)))) (cost_le (t - 1)))

  pub start_is : IsDictionaryOf p d
  start_is = record {
    names = start_names;
    same = record { solves = start_solves; meets = start_meets };
    dual = start_dual;
  }

-- ---- one pivot
module _ (p : Program) (d e : Dictionary) (k j : ℕ) (old : IsDictionaryOf p d) (piv : IsPivoted d k j e) (k_low : 1 ≤ k) (k_high : k < height d) (chosen : IsCandidate d k j) where
  turn : Turn d e k j
  turn = record { pivoted = piv; row = k_high; column = chosen.high; some = not_zero (cell d k j) chosen.positive; other = not_minus_zero (cell d k j) chosen.positive }

  -- the variable of a row, and that of a column
  new_row : (i : ℕ) → i < height e → ((i ≡ k) × (basic_at e i ≡ nonbasic_at d j)) ⊎ ((i ≢ k) × (basic_at e i ≡ basic_at d i))
  new_row i high = ⊎_elim (λ is. inl (is, ap (basic_at e) is ∙ piv.entered)) (λ apart. inr (apart, piv.basics i (omega (arith, high, piv.rows)) apart)) (cases_eq i k)

  new_column : (t : ℕ) → t < width e → ((t ≡ j) × (nonbasic_at e t ≡ basic_at d k)) ⊎ ((t ≢ j) × (nonbasic_at e t ≡ nonbasic_at d t))
  new_column t high = ⊎_elim (λ is. inl (is, ap (nonbasic_at e) is ∙ piv.left)) (λ apart. inr (apart, piv.nonbasics t (omega (arith, high, piv.columns)) apart)) (cases_eq t j)

  row_high : (i : ℕ) → i < height e → i < height d
  row_high i high = omega (arith, high, piv.rows)

  column_high : (t : ℕ) → t < width e → t < width d
  column_high t high = omega (arith, high, piv.columns)

  new_names : IsBasis p e
  new_names = record {
    rows = omega (arith, piv.rows, old.names.rows);
    columns = omega (arith, piv.columns, old.names.columns);
    cost = piv.basics 0 (omega (arith, k_high)) (omega (arith, k_low)) ∙ old.names.cost;
    constants = piv.nonbasics 0 (omega (arith, chosen.high)) (omega (arith, chosen.low)) ∙ old.names.constants;
    basics_low = λ i high. ⊎_elim (λ a. omega (arith, a.1, old.names.nonbasics_low j chosen.low chosen.high)) (λ a. omega (arith, a.1, old.names.basics_low i (row_high i high))) (new_row i high);
    basics_high = λ i low high. ⊎_elim (λ a. omega (arith, a.1, old.names.nonbasics_high j chosen.high)) (λ a. omega (arith, a.1, old.names.basics_high i low (row_high i high))) (new_row i high);
    nonbasics_low = λ t low high. ⊎_elim (λ a. omega (arith, a.1, old.names.basics_low k k_high)) (λ a. omega (arith, a.1, old.names.nonbasics_low t low (column_high t high))) (new_column t high);
    nonbasics_high = λ t high. ⊎_elim (λ a. omega (arith, a.1, old.names.basics_high k k_low k_high)) (λ a. omega (arith, a.1, old.names.nonbasics_high t (column_high t high))) (new_column t high);
    rows_apart = λ i h i_high h_high same.
        ⊎_elim (λ a. ⊎_elim (λ b. a.0 ∙ sym b.0) (λ b. absurd (old.names.apart h j (row_high h h_high) chosen.high (sym b.1 ∙ sym same ∙ a.1))) (new_row h h_high))
        (λ a. ⊎_elim (λ b. absurd (old.names.apart i j (row_high i i_high) chosen.high (sym a.1 ∙ same ∙ b.1))) (λ b. old.names.rows_apart i h (row_high i i_high) (row_high h h_high) (sym a.1 ∙ same ∙ b.1)) (new_row h h_high)) (new_row i i_high);
    columns_apart = λ t u t_high u_high same.
        ⊎_elim (λ a. ⊎_elim (λ b. a.0 ∙ sym b.0) (λ b. absurd (old.names.apart k u k_high (column_high u u_high) (sym a.1 ∙ same ∙ b.1))) (new_column u u_high))
        (λ a. ⊎_elim (λ b. absurd (old.names.apart k t k_high (column_high t t_high) (sym b.1 ∙ sym same ∙ a.1))) (λ b. old.names.columns_apart t u (column_high t t_high) (column_high u u_high) (sym a.1 ∙ same ∙ b.1)) (new_column u u_high)) (new_column t t_high);
    apart = λ i t i_high t_high same.
        ⊎_elim
        (λ a. ⊎_elim (λ b. old.names.apart k j k_high chosen.high (sym b.1 ∙ sym same ∙ a.1)) (λ b. b.0 (old.names.columns_apart t j (column_high t t_high) chosen.high (sym b.1 ∙ sym same ∙ a.1))) (new_column t t_high))
        (λ a. ⊎_elim (λ b. a.0 (old.names.rows_apart i k (row_high i i_high) k_high (sym a.1 ∙ same ∙ b.1))) (λ b. old.names.apart i t (row_high i i_high) (column_high t t_high) (sym a.1 ∙ same ∙ b.1)) (new_column t t_high)) (new_row i i_high);
  }

  new_same : SaysTheSame p e
  new_same = record {
    solves = λ x meets. solves_on d e k j x turn (old.same.solves x meets);
    meets = λ x solves. old.same.meets x (solves_back d e k j x turn solves);
  }

  module _ (least : (t : ℕ) → IsCandidate d k t → ratio_at d k j ≤ℚ ratio_at d k t) where
    factor_le : zero_ℚ ≤ℚ factor_at d k j 0
    factor_le = Q.mul_nonneg (cell d 0 j) (inv_ℚ (cell d k j)) (old.dual j chosen.low chosen.high) (inverse_le (cell d k j) chosen.positive)

    -- a reduced cost of another column
    other_dual : (t : ℕ) → 1 ≤ t → t < width d → zero_ℚ ≤ℚ (cell d 0 t -ℚ factor_at d k j 0 *ℚ cell d k t)
    other_dual t low high =
        ⊎_elim
        (λ none. le3 rational_ordered (λ c f r. from 1 (con (pos 0)) c (from_times f r (con (pos 0)) (so (con (pos 0)) (c ⊖ f ⊗ r)))) refl (cell d 0 t) (factor_at d k j 0) (cell d k t) (old.dual t low high) factor_le none)
        (λ some.
        let one : inv_ℚ (cell d k t) *ℚ cell d k t ≡ whole (pos 1) = inv-mul (cell d k t) (not_zero (cell d k t) some) in
        le4 rational_ordered (λ c f r i. from_times r f (c ⊗ i) (from_same c (i ⊗ r) (con (pos 1)) (so (con (pos 0)) (c ⊖ f ⊗ r)))) refl (cell d 0 t) (factor_at d k j 0) (cell d k t) (inv_ℚ (cell d k t)) (positive_le (cell d k t) some) (least t (record { low = low; high = high; positive = some })) one)
        (is_positive (cell d k t))

    new_dual : IsDualFeasible e
    new_dual t low high =
        ⊎_elim
        (λ is. subst (λ u. zero_ℚ ≤ℚ cell e 0 u) (sym is) (subst (λ z. zero_ℚ ≤ℚ z) (sym (piv.pivot_column 0 (omega (arith, k_high)) (omega (arith, k_low)))) factor_le))
        (λ apart. subst (λ z. zero_ℚ ≤ℚ z) (sym (piv.others 0 t (omega (arith, k_high)) (column_high t high) (omega (arith, k_low)) apart)) (other_dual t low (column_high t high)))
        (cases_eq t j)

    pub pivot_keeps : IsDictionaryOf p e
    pivot_keeps = record { names = new_names; same = new_same; dual = new_dual }

-- ---- a run
-- a rule that takes a column of positive coefficient and least ratio
pub record KeepsDual (rule : Rule) : Type 0 where
  pub row_low : (d : Dictionary) (k j : ℕ) → rule d k j → 1 ≤ k
  pub row_high : (d : Dictionary) (k j : ℕ) → rule d k j → k < height d
  pub candidate : (d : Dictionary) (k j : ℕ) → rule d k j → IsCandidate d k j
  pub least : (d : Dictionary) (k j : ℕ) → rule d k j → (t : ℕ) → IsCandidate d k t → ratio_at d k j ≤ℚ ratio_at d k t

pub runs_keep : (rule : Rule) → KeepsDual rule → (p : Program) (n : ℕ) (d : Dictionary) → Runs rule p n d → IsDictionaryOf p d
runs_keep rule keeps p zero d run = start_is p d run
runs_keep rule keeps p (suc n) e run =
    let (d, so_far, step) = run in
    pivot_keeps p d e step.row step.column (runs_keep rule keeps p n d so_far) step.pivoted (keeps.row_low d step.row step.column step.chosen) (keeps.row_high d step.row step.column step.chosen) (keeps.candidate d step.row step.column step.chosen) (keeps.least d step.row step.column step.chosen)

pub kept : (p : Program) → AreKept p
kept p = record {
  start = λ d start. start_is p d start;
  pivot = λ d e k j is by. pivot_keeps p d e k j is by.pivoted by.low by.high by.candidate by.least;
}

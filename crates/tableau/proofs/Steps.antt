-- Steps of a run, and its end.
use Rattle.std.proofs.Common.{◌≡◌, ◌≢◌, ◌≤◌, ◌<◌, ◌+◌, ◌∙◌, ⊎_elim, ℕ, suc, refl, sym, ap, subst, arith, List, length, slice_index_or}
use Rattle.std.proofs.lemmas.Bool.{cases_eq}
use Rattle.std.specs.Prelude.{pos, if◌then◌else◌, ◌==◌, slice_set}
use Rattle.rational.specs.Rational.{ℚ, whole, ◌+ℚ◌, ◌*ℚ◌, ◌-ℚ◌, ◌≤ℚ◌}
use Rattle.rational.proofs.Rationals as Q
use Rattle.rational.proofs.Rationals.{rational_ring}
use Rattle.algebra.proofs.Sums.{sum-same, sum-zero}
use Rattle.std.proofs.Common.{get_or-set_other}
use Rattle.std.proofs.lemmas.List.{get_or-set_same, length-set}
use Rattle.tableau.proofs.Numbers.{if_other, if_same}
use Rattle.algebra.proofs.Rings.{con, ◌⊖◌, ◌⊜◌, ring1}
use Rattle.tableau.specs.Program.{Program, column_count, cost_at, entry_at, right_at, row_count, sum_ℚ, zero_ℚ}
use Rattle.tableau.specs.Dictionary.{Dictionary, basic_at, cell, height, nonbasic_at, slack_of, width}
use Rattle.tableau.specs.Run.{IsFittingStep, IsPrimalFeasible, IsLeaving, IsPositive, IsStep, Runs}
use Rattle.tableau.specs.Meaning.{AreBest, AreEmpty, IsDictionaryOf, coefficient_at, column_sum, opposite_at, right_sum, value_at}
use Rattle.tableau.proofs.Keeps.{KeepsDual}
use Rattle.tableau.specs.Steps.{HasNoneTo, HasSameNames}
use Rattle.tableau.specs.declared.outcome.Outcome.{Outcome}
use Rattle.tableau.specs.declared.outcome.Outcome.TheVariants as outcome
use Rattle.std.specs.Prelude.{Result, Ok, Err, IfOk}
use Rattle.tableau.specs.Outcomes.{AreApart, AreValues, GivesEmpty, GivesLeast, IsCertain, IsNowhere, IsOutcome, IsPutIn, IsEmptyOf, IsLeastOf, IsReached, number_at, row_number}
use Rattle.tableau.proofs.Keeps.{is_positive, runs_keep}
use Rattle.tableau.proofs.Ends.{last_is_best, row_is_empty}
use Rattle.tableau.proofs.Loops.{AreOpposite, ArePut}

pub same_row_number : (d e : Dictionary) (i : ℕ) → HasSameNames d e → row_number e i ≡ row_number d i
same_row_number d e i names = ap (λ bs. if i == 0 then 0 else slice_index_or bs i 0) names.basics

-- ---- the rule takes a candidate of least ratio
fitting_keeps : KeepsDual IsFittingStep
fitting_keeps = record {
  row_low = λ d k j chosen. chosen.step.leaving.low;
  row_high = λ d k j chosen. chosen.step.leaving.high;
  candidate = λ d k j chosen. chosen.step.entering.candidate;
  least = λ d k j chosen. chosen.step.entering.least;
}

pub reached_is : (p : Program) (n : ℕ) (d : Dictionary) → IsReached p n d → IsDictionaryOf p d
reached_is p n d r = runs_keep IsFittingStep fitting_keeps p r.made d r.run

pub run_is : (p : Program) (n : ℕ) (d : Dictionary) → Runs IsFittingStep p n d → IsDictionaryOf p d
run_is p n d r = runs_keep IsFittingStep fitting_keeps p n d r

-- ---- the same numbers prove the same
same_best : (p : Program) (x y u v : ℕ → ℚ) (a b : ℚ) → ((c : ℕ) → c < column_count p → u c ≡ x c) → ((k : ℕ) → k < row_count p → v k ≡ y k) → b ≡ a → AreBest p x y a → AreBest p u v b
same_best p x y u v a b points multipliers value best = record {
  feasible = record {
    columns = λ c less. subst (λ z. zero_ℚ ≤ℚ z) (sym (points c less)) (best.feasible.columns c less);
    rows = λ k less. subst (λ z. right_at p k ≤ℚ z) (sum-same rational_ring (column_count p) (λ c. entry_at p k c *ℚ x c) (λ c. entry_at p k c *ℚ u c) (λ c small. ap (λ z. entry_at p k c *ℚ z) (sym (points c small)))) (best.feasible.rows k less);
  };
  cost = sum-same rational_ring (column_count p) (λ c. cost_at p c *ℚ u c) (λ c. cost_at p c *ℚ x c) (λ c small. ap (λ z. cost_at p c *ℚ z) (points c small)) ∙ best.cost ∙ sym value;
  multipliers = λ k less. subst (λ z. zero_ℚ ≤ℚ z) (sym (multipliers k less)) (best.multipliers k less);
  columns = λ c less. subst (λ z. z ≤ℚ cost_at p c) (sym (same_columns c)) (best.columns c less);
  right = same_right ∙ best.right ∙ sym value;
}
  where
    same_columns : (c : ℕ) → column_sum p v c ≡ column_sum p y c
    same_columns c = sum-same rational_ring (row_count p) (λ k. v k *ℚ entry_at p k c) (λ k. y k *ℚ entry_at p k c) (λ k small. ap (λ z. z *ℚ entry_at p k c) (multipliers k small))

    same_right : right_sum p v ≡ right_sum p y
    same_right = sum-same rational_ring (row_count p) (λ k. v k *ℚ right_at p k) (λ k. y k *ℚ right_at p k) (λ k small. ap (λ z. z *ℚ right_at p k) (multipliers k small))

same_empty : (p : Program) (y v : ℕ → ℚ) → ((k : ℕ) → k < row_count p → v k ≡ y k) → AreEmpty p y → AreEmpty p v
same_empty p y v multipliers empty = record {
  multipliers = λ k less. subst (λ z. zero_ℚ ≤ℚ z) (sym (multipliers k less)) (empty.multipliers k less);
  columns = λ c less. subst (λ z. z ≤ℚ zero_ℚ) (sym (sum-same rational_ring (row_count p) (λ k. v k *ℚ entry_at p k c) (λ k. y k *ℚ entry_at p k c) (λ k small. ap (λ z. z *ℚ entry_at p k c) (multipliers k small)))) (empty.columns c less);
  right = subst IsPositive (sym (sum-same rational_ring (row_count p) (λ k. v k *ℚ right_at p k) (λ k. y k *ℚ right_at p k) (λ k small. ap (λ z. z *ℚ right_at p k) (multipliers k small)))) empty.right;
}

pub least_certain : (p : Program) (d : Dictionary) (xs ys : List ℚ) (x : ℚ) → IsDictionaryOf p d → IsLeastOf p d xs ys x → AreBest p (number_at xs) (number_at ys) x
least_certain p d xs ys x is least = same_best p (λ c. value_at d (c + 1)) (λ k. coefficient_at d 0 (slack_of p k)) (number_at xs) (number_at ys) (cell d 0 0) x least.point least.multipliers least.value (last_is_best p d is least.last)

pub empty_certain : (p : Program) (d : Dictionary) (ys : List ℚ) → IsDictionaryOf p d → IsEmptyOf p d ys → AreEmpty p (number_at ys)
empty_certain p d ys is empty =
    same_empty p (λ k. opposite_at d empty.row (slack_of p k)) (number_at ys) empty.multipliers
    (row_is_empty p d is empty.row empty.leaving.low empty.leaving.high empty.leaving.negative (λ t low high. ⊎_elim (λ le. le) (λ positive. absurd (empty.none t high (record { low = low; high = high; positive = positive }))) (is_positive (cell d empty.row t))))

-- ---- values that are put in their places
pub put_none : (f : ℕ → ℕ) (g : ℕ → ℚ) (first count : ℕ) (xs : List ℚ) → length xs ≡ count → ((k : ℕ) → k < count → number_at xs k ≡ zero_ℚ) → ArePut f g first count 0 xs
put_none f g first count xs size zeros = record { size = size; each = zeros }

one_more : (to : ℕ) (h : ℕ → ℚ) → sum_ℚ (to + 1) h ≡ sum_ℚ to h +ℚ h to
one_more to h = ap (λ n. sum_ℚ n h) (next to)
  where
    next : (n : ℕ) → n + 1 ≡ suc n
    next n = omega arith

pub put_step : (n : ℕ) (f : ℕ → ℕ) (g : ℕ → ℚ) (first count to : ℕ) (xs ys : List ℚ) → AreApart n f → to < n → ArePut f g first count to xs → IsPutIn first (f to) (g to) xs ys → ArePut f g first count (to + 1) ys
put_step n f g first count to xs ys apart high so_far step = record {
  size = step.size ∙ so_far.size;
  each = λ k less. step.each k (omega (arith, less, so_far.size)) ∙ ⊎_elim (hit k less) (miss k less) (cases_eq (f to) (first + k));
}
  where
    hit : (k : ℕ) → k < count → f to ≡ first + k → (if f to == first + k then g to else number_at xs k) ≡ sum_ℚ (to + 1) (λ i. if f i == first + k then g i else zero_ℚ)
    hit k less is =
        let none : sum_ℚ to (λ i. if f i == first + k then g i else zero_ℚ) ≡ zero_ℚ = sum-zero rational_ring to (λ i. if f i == first + k then g i else zero_ℚ) (λ i small. if_other (f i) (first + k) (g i) zero_ℚ (λ e. omega (arith, apart i to (omega (arith, small, high)) high (e ∙ sym is), small))) in
        if_same (f to) (first + k) (g to) (number_at xs k) is ∙ sym (Q.zero_add (g to)) ∙ ap (λ z. z +ℚ g to) (sym none)
        ∙ ap (λ z. sum_ℚ to (λ i. if f i == first + k then g i else zero_ℚ) +ℚ z) (sym (if_same (f to) (first + k) (g to) zero_ℚ is)) ∙ sym (one_more to (λ i. if f i == first + k then g i else zero_ℚ))

    miss : (k : ℕ) → k < count → f to ≢ first + k → (if f to == first + k then g to else number_at xs k) ≡ sum_ℚ (to + 1) (λ i. if f i == first + k then g i else zero_ℚ)
    miss k less other =
        let s = sum_ℚ to (λ i. if f i == first + k then g i else zero_ℚ) in
        if_other (f to) (first + k) (g to) (number_at xs k) other ∙ so_far.each k less ∙ sym (Q.zero_add s) ∙ Q.add_comm zero_ℚ s
        ∙ ap (λ z. s +ℚ z) (sym (if_other (f to) (first + k) (g to) zero_ℚ other)) ∙ sym (one_more to (λ i. if f i == first + k then g i else zero_ℚ))

pub put_end : (f : ℕ → ℕ) (g : ℕ → ℚ) (first count to n : ℕ) (xs : List ℚ) → to ≡ n → ArePut f g first count to xs → AreValues (λ v. sum_ℚ n (λ i. if f i == v then g i else zero_ℚ)) first count xs
put_end f g first count to n xs all put = record { size = put.size; each = λ k less. put.each k less ∙ ap (λ m. sum_ℚ m (λ i. if f i == first + k then g i else zero_ℚ)) all }

pub put_is : (first number place : ℕ) (x : ℚ) (xs : List ℚ) → place < length xs → number ≡ first + place → IsPutIn first number x xs (slice_set xs place x)
put_is first number place x xs high is = record {
  size = length-set xs place x;
  each = λ k less. ⊎_elim
      (λ same. ap (number_at (slice_set xs place x)) same ∙ get_or-set_same xs place x zero_ℚ high ∙ sym (if_same number (first + k) x (number_at xs k) (is ∙ ap (λ p. first + p) (sym same))))
      (λ other. get_or-set_other xs place k x zero_ℚ other ∙ sym (if_other number (first + k) x (number_at xs k) (λ e. other (omega (arith, e, is)))))
      (cases_eq k place);
}

pub put_nothing : (first number : ℕ) (x : ℚ) (xs : List ℚ) → ((k : ℕ) → k < length xs → number ≢ first + k) → IsPutIn first number x xs xs
put_nothing first number x xs apart = record { size = refl; each = λ k less. sym (if_other number (first + k) x (number_at xs k) (apart k less)) }

-- ---- the multipliers of a row that can't hold
pub opposite_next : (d : Dictionary) (i first count to : ℕ) (xs : List ℚ) (x : ℚ) → to < count → x ≡ zero_ℚ -ℚ number_at xs to → AreOpposite d i first count to xs → AreOpposite d i first count (to + 1) (slice_set xs to x)
opposite_next d i first count to xs x less is so_far = record {
  size = length-set xs to x ∙ so_far.size;
  before = λ k k_less high. ⊎_elim
      (λ same. ap (number_at (slice_set xs to x)) same ∙ get_or-set_same xs to x zero_ℚ (omega (arith, less, so_far.size)) ∙ is ∙ ap (λ z. zero_ℚ -ℚ z) (so_far.after to (omega arith) less) ∙ ap (λ p. zero_ℚ -ℚ coefficient_at d i (first + p)) (sym same))
      (λ other. get_or-set_other xs to k x zero_ℚ other ∙ so_far.before k (omega (arith, k_less, other)) high)
      (cases_eq k to);
  after = λ k low high. get_or-set_other xs to k x zero_ℚ (λ e. omega (arith, e, low)) ∙ so_far.after k (omega (arith, low)) high;
}

pub opposite_start : (d : Dictionary) (i first count : ℕ) (xs : List ℚ) → AreValues (coefficient_at d i) first count xs → AreOpposite d i first count 0 xs
opposite_start d i first count xs values = record { size = values.size; before = λ k less. absurd (omega (arith, less)); after = λ k low high. values.each k high }

-- the row's own variable has no coefficient, and gets 1
pub opposite_end : (d : Dictionary) (i first count to : ℕ) (xs ys : List ℚ) (one : ℚ) → count ≤ to → IsNowhere d i → one ≡ whole (pos 1) → AreOpposite d i first count to xs → IsPutIn first (basic_at d i) one xs ys → AreValues (opposite_at d i) first count ys
opposite_end d i first count to xs ys one all nowhere is so_far put = record {
  size = put.size ∙ so_far.size;
  each = λ k less. put.each k (omega (arith, less, so_far.size)) ∙ ⊎_elim (own k) (another k less) (cases_eq (basic_at d i) (first + k));
}
  where
    own : (k : ℕ) → basic_at d i ≡ first + k → (if basic_at d i == first + k then one else number_at xs k) ≡ opposite_at d i (first + k)
    own k same =
        let none : coefficient_at d i (first + k) ≡ zero_ℚ = sum-zero rational_ring (width d) (λ t. if nonbasic_at d t == first + k then cell d i t else zero_ℚ) (λ t high. if_other (nonbasic_at d t) (first + k) (cell d i t) zero_ℚ (λ e. nowhere t high (e ∙ sym same))) in
        if_same (basic_at d i) (first + k) one (number_at xs k) same ∙ is ∙ ring1 rational_ring (λ a. a ⊜ a ⊖ con (pos 0)) refl (whole (pos 1)) ∙ ap (λ z. whole (pos 1) -ℚ z) (sym none)
        ∙ ap (λ z. z -ℚ coefficient_at d i (first + k)) (sym (if_same (basic_at d i) (first + k) (whole (pos 1)) zero_ℚ same))

    another : (k : ℕ) → k < count → basic_at d i ≢ first + k → (if basic_at d i == first + k then one else number_at xs k) ≡ opposite_at d i (first + k)
    another k less other =
        if_other (basic_at d i) (first + k) one (number_at xs k) other ∙ so_far.before k (omega (arith, less, all)) less ∙ ap (λ z. z -ℚ coefficient_at d i (first + k)) (sym (if_other (basic_at d i) (first + k) (whole (pos 1)) zero_ℚ other))

-- ---- the outcomes of a run
column_place : (c : ℕ) → 1 + c ≡ c + 1
column_place c = omega arith

pub same_dictionary : (p : Program) (n : ℕ) (d e : Dictionary) → e ≡ d → Runs IsFittingStep p n d → Runs IsFittingStep p n e
same_dictionary p n d e is run = subst (Runs IsFittingStep p n) (sym is) run

pub least_given : (p : Program) (pivots n columns rows : ℕ) (d : Dictionary) (o : Outcome) → Runs IsFittingStep p n d → n ≤ pivots → IsPrimalFeasible d → columns ≡ column_count p → rows ≡ row_count p → GivesLeast d columns rows o → IsOutcome p pivots o × IsCertain p o
least_given p pivots n columns rows d (outcome.Least point multipliers value) run few last same_columns same_rows given =
    let least : IsLeastOf p d point.items multipliers.items value = record {
      last = last;
      columns = given.0.size ∙ same_columns;
      point = λ c less. given.0.each c (omega (arith, less, same_columns)) ∙ ap (value_at d) (column_place c);
      rows = given.1.size ∙ same_rows;
      multipliers = λ k less. given.1.each k (omega (arith, less, same_rows)) ∙ ap (λ m. coefficient_at d 0 (m + 1 + k)) same_columns;
      value = given.2;
    } in
    ((d, record { made = n; few = few; run = run }, least), least_certain p d point.items multipliers.items value (run_is p n d run) least)
least_given p pivots n columns rows d (outcome.Empty multipliers) run few last same_columns same_rows given = absurd given
least_given p pivots n columns rows d (outcome.Stopped made) run few last same_columns same_rows given = absurd given
least_given p pivots n columns rows d (outcome.Passed pivot row column) run few last same_columns same_rows given = absurd given

pub empty_given : (p : Program) (pivots n columns rows i : ℕ) (d : Dictionary) (o : Outcome) → Runs IsFittingStep p n d → n ≤ pivots → IsLeaving d i → HasNoneTo d i (width d) → columns ≡ column_count p → rows ≡ row_count p → GivesEmpty d i columns rows o → IsOutcome p pivots o × IsCertain p o
empty_given p pivots n columns rows i d (outcome.Empty multipliers) run few leaving none same_columns same_rows given =
    let empty : IsEmptyOf p d multipliers.items = record {
      row = i;
      leaving = leaving;
      none = none;
      rows = given.size ∙ same_rows;
      multipliers = λ k less. given.each k (omega (arith, less, same_rows)) ∙ ap (λ m. opposite_at d i (m + 1 + k)) same_columns;
    } in
    ((d, record { made = n; few = few; run = run }, empty), empty_certain p d multipliers.items (run_is p n d run) empty)
empty_given p pivots n columns rows i d (outcome.Least point multipliers value) run few leaving none same_columns same_rows given = absurd given
empty_given p pivots n columns rows i d (outcome.Stopped made) run few leaving none same_columns same_rows given = absurd given
empty_given p pivots n columns rows i d (outcome.Passed pivot row column) run few leaving none same_columns same_rows given = absurd given

-- what holds of each answer
pub if_ok : {T E : Type 0} (P Q : T → Type 0) (r : Result T E) → ((x : T) → P x → Q x) → IfOk r P → IfOk r Q
if_ok P Q (Ok x) each h = each x h
if_ok P Q (Err e) each h = h

pub rows_are_apart : (p : Program) (n : ℕ) (d : Dictionary) → Runs IsFittingStep p n d → AreApart (height d) (basic_at d)
rows_are_apart p n d run = (run_is p n d run).names.rows_apart

pub columns_are_apart : (p : Program) (n : ℕ) (d : Dictionary) → Runs IsFittingStep p n d → AreApart (width d) (nonbasic_at d)
columns_are_apart p n d run = (run_is p n d run).names.columns_apart

pub is_nowhere : (p : Program) (n i : ℕ) (d : Dictionary) → Runs IsFittingStep p n d → i < height d → IsNowhere d i
is_nowhere p n i d run high t t_high same = (run_is p n d run).names.apart i t high t_high (sym same)

pub run_more : (p : Program) (n : ℕ) (d e : Dictionary) → Runs IsFittingStep p n d → IsStep IsFittingStep d e → Runs IsFittingStep p (n + 1) e
run_more p n d e run step = subst (λ m. Runs IsFittingStep p m e) (next n) (d, run, step)
  where
    next : (n : ℕ) → suc n ≡ n + 1
    next n = omega arith

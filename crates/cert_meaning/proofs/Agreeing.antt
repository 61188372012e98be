-- The rows of an echelon that a program has are those of its problem's weights.
use Rattle.std.proofs.Common.{◌≡◌, ◌≤◌, ◌<◌, ◌+◌, ◌-◌, ◌*◌, ◌∙◌, ⊎_elim, ℕ, zero, suc, refl, sym, ap, arith, Bool, true, false, List, [], ◌∷◌, ◌++◌}
use Rattle.std.specs.Prelude.{◌==◌, if◌then◌else◌, pos, ◌-ℤ◌, is_some, nat_lt}
use Rattle.std.proofs.lemmas.Bool.{cases_lt}
use Rattle.lot_sizing.specs.Sums.{sum_from, sum_to}
use Rattle.lot_sizing.specs.Problem.{Problem, entry, item_at, item_count}
use Rattle.lot_sizing.specs.Single.{Single, position_count, potential}
use Rattle.lot_sizing.specs.Net.{asked_to, left_after, needed_to, net_in}
use Rattle.lot_sizing.proofs.Sums.{sum_to-same}
use Rattle.echelon.specs.declared.net.EchelonItem.{EchelonItem}
use Rattle.echelon.specs.Views.{list_to, marked}
use Rattle.echelon.specs.Weights.{IsEchelonOf}
use Rattle.lin_rows.specs.declared.column.Column.TheVariants.{X, Y, S, R}
use Rattle.lin_rows.specs.declared.row.Term.{Term}
use Rattle.lin_rows.specs.Base.{term}
use Rattle.valid_inequalities.specs.Inequalities.{demand_between, gain, left_cost}
use Rattle.echelon_rows.specs.Rows.{Echelon, cost_terms, echelon_in, owed_by, owed_times, periods_to, priced, row_with, single_with}
use Rattle.echelon_rows.proofs.Lists.{cells_same, periods_same}
use Rattle.ls_cuts.specs.Rows.{Periods, backlog_times, ls_row, ls_terms, setup_times, unit_times}
use Rattle.facility_form.specs.PriceRow.{price_right, price_row, price_terms}
use Rattle.backlog_dp.specs.BlockRow.{block_row}
use Rattle.cert_meaning.specs.CutRows.{backs_in, echelon_at}
use Rattle.cert_meaning.proofs.Echelons.{one_of}

-- two echelons that agree in their items and periods
pub record AreAlike (e f : Echelon) : Type 0 where
  pub item : e.item ≡ f.item
  pub items : e.items ≡ f.items
  pub periods : e.asked.periods ≡ f.asked.periods
  pub demand : (t : ℕ) → 1 ≤ t → t ≤ e.asked.periods → e.asked.demand t ≡ f.asked.demand t
  pub opening : e.asked.opening ≡ f.asked.opening
  pub end_min : e.asked.end_min ≡ f.asked.end_min
  pub weight : (j : ℕ) → 1 ≤ j → j ≤ e.items → e.weight j ≡ f.weight j
  pub back : (j : ℕ) → 1 ≤ j → j ≤ e.items → e.back j ≡ f.back j
  pub owing : e.owing ≡ f.owing

from_same : (u n : ℕ) (f g : ℕ → ℕ) → ((k : ℕ) → k < n → f (u + k) ≡ g (u + k)) → sum_from u n f ≡ sum_from u n g
from_same u zero f g same = refl
from_same u (suc n) f g same = omega (arith, from_same u n f g (λ k less. same k (omega (arith, less))), same n (omega arith))

module _ (e f : Echelon) (is : AreAlike e f) where
  owed_same : (j t : ℕ) → 1 ≤ j → j ≤ e.items → owed_times e j t ≡ owed_times f j t
  owed_same j t low high =
      ap (λ n. owed_by n (e.back j) (e.weight j) t) is.periods
      ∙ ap (λ b. owed_by f.asked.periods b (e.weight j) t) (is.back j low high)
      ∙ ap (λ w. owed_by f.asked.periods (f.back j) w t) (is.weight j low high)

  between_same : (t l : ℕ) → 1 ≤ t → l ≤ e.asked.periods → demand_between e.asked t l ≡ demand_between f.asked t l
  between_same t l low high = from_same t (suc l - t) e.asked.demand f.asked.demand (λ k less. is.demand (t + k) (omega (arith, low)) (omega (arith, less, high)))

  setup_same : (l : ℕ) (chosen : Periods) (t : ℕ) → 1 ≤ t → l ≤ e.asked.periods → setup_times e.asked l chosen t ≡ setup_times f.asked l chosen t
  setup_same l chosen t low high = ap (λ d. if chosen t then d else 0) (between_same t l low high)

  ls_terms_same : (l : ℕ) (chosen : Periods) → l ≤ e.asked.periods → ls_terms e l chosen ≡ ls_terms f l chosen
  ls_terms_same l chosen high =
      let xs = ap (λ i. periods_to l (λ t. term (X i t) (pos (unit_times chosen t)))) is.item in
      let ys = periods_same l (λ t. term (Y e.item t) (pos (setup_times e.asked l chosen t))) (λ t. term (Y f.item t) (pos (setup_times f.asked l chosen t)))
      (λ t low t_high. ap (λ i. term (Y i t) (pos (setup_times e.asked l chosen t))) is.item ∙ ap (λ d. term (Y f.item t) (pos d)) (setup_same l chosen t low high)) in
      let rs = cells_same e.items l (λ j t. term (R j t) (pos (backlog_times l chosen t * owed_times e j t))) (λ j t. term (R j t) (pos (backlog_times l chosen t * owed_times f j t)))
      (λ j t low j_high t_low t_high. ap (λ o. term (R j t) (pos (backlog_times l chosen t * o))) (owed_same j t low j_high)) in
      rw (xs, ys, rs, is.items) refl

  pub ls_row_same : (l : ℕ) (chosen : Periods) → l ≤ e.asked.periods → ls_row e l chosen ≡ ls_row f l chosen
  ls_row_same l chosen high =
      ap (λ ts. row_with ts (pos (demand_between e.asked 1 l) -ℤ pos e.asked.opening)) (ls_terms_same l chosen high)
      ∙ ap (λ d. row_with (ls_terms f l chosen) (pos d -ℤ pos e.asked.opening)) (between_same 1 l (omega arith) high)
      ∙ ap (λ o. row_with (ls_terms f l chosen) (pos (demand_between f.asked 1 l) -ℤ pos o)) is.opening

  asked_same : (t : ℕ) → t ≤ e.asked.periods → asked_to e.asked t ≡ asked_to f.asked t
  asked_same t high =
      ap (λ s. s + (if t == e.asked.periods then e.asked.end_min else 0)) (sum_to-same t e.asked.demand f.asked.demand (λ u low u_high. is.demand u low (omega (arith, u_high, high))))
      ∙ ap (λ n. sum_to t f.asked.demand + (if t == n then e.asked.end_min else 0)) is.periods
      ∙ ap (λ m. sum_to t f.asked.demand + (if t == f.asked.periods then m else 0)) is.end_min

  needed_same : (t : ℕ) → t ≤ e.asked.periods → needed_to e.asked t ≡ needed_to f.asked t
  needed_same t high = ap (λ a. a - e.asked.opening) (asked_same t high) ∙ ap (λ o. asked_to f.asked t - o) is.opening

  net_same : (t : ℕ) → t ≤ e.asked.periods → net_in e.asked t ≡ net_in f.asked t
  net_same t high = ap (λ a. a - needed_to e.asked (t - 1)) (needed_same t high) ∙ ap (λ a. needed_to f.asked t - a) (needed_same (t - 1) (omega (arith, high)))

  left_same : (t : ℕ) → t ≤ e.asked.periods → left_after e.asked t ≡ left_after f.asked t
  left_same t high =
      ap (λ a. (e.asked.opening - a) + (if t == e.asked.periods then e.asked.end_min else 0)) (asked_same t high)
      ∙ ap (λ o. (o - asked_to f.asked t) + (if t == e.asked.periods then e.asked.end_min else 0)) is.opening
      ∙ ap (λ n. (f.asked.opening - asked_to f.asked t) + (if t == n then e.asked.end_min else 0)) is.periods
      ∙ ap (λ m. (f.asked.opening - asked_to f.asked t) + (if t == f.asked.periods then m else 0)) is.end_min

  list_same : (t : ℕ) → t ≤ e.asked.periods → list_to t (net_in e.asked) ≡ list_to t (net_in f.asked)
  list_same zero high = refl
  list_same (suc t) high = ap (λ xs. xs ++ (net_in e.asked (suc t) ∷ [])) (list_same t (omega (arith, high))) ∙ ap (λ x. list_to t (net_in f.asked) ++ (x ∷ [])) (net_same (suc t) high)

  pub priced_same : (setup unit hold back : List ℕ) → priced e setup unit hold back ≡ priced f setup unit hold back
  priced_same setup unit hold back =
      ap (λ net. single_with net setup unit hold back e.owing) (list_same e.asked.periods (omega arith) ∙ ap (λ n. list_to n (net_in f.asked)) is.periods)
      ∙ ap (single_with (list_to f.asked.periods (net_in f.asked)) setup unit hold back) is.owing

  left_cost_same : (s : Single) → left_cost e.asked s ≡ left_cost f.asked s
  left_cost_same s =
      sum_to-same e.asked.periods (λ t. entry s.hold t * left_after e.asked t) (λ t. entry s.hold t * left_after f.asked t) (λ t low high. ap (λ x. entry s.hold t * x) (left_same t high))
      ∙ ap (λ n. sum_to n (λ t. entry s.hold t * left_after f.asked t)) is.periods

  cost_terms_same : (setup unit hold back : ℕ → ℕ) → cost_terms e setup unit hold back ≡ cost_terms f setup unit hold back
  cost_terms_same setup unit hold back =
      let T = e.asked.periods in
      let xs = ap (λ i. periods_to T (λ t. term (X i t) (pos (unit t)))) is.item in
      let ys = ap (λ i. periods_to T (λ t. term (Y i t) (pos (setup t)))) is.item in
      let ss = cells_same e.items T (λ j t. term (S j t) (pos (hold t * e.weight j))) (λ j t. term (S j t) (pos (hold t * f.weight j))) (λ j t low high t_low t_high. ap (λ w. term (S j t) (pos (hold t * w))) (is.weight j low high)) in
      let rs = cells_same e.items T (λ j t. term (R j t) (pos (back t * owed_times e j t))) (λ j t. term (R j t) (pos (back t * owed_times f j t))) (λ j t low high t_low t_high. ap (λ o. term (R j t) (pos (back t * o))) (owed_same j t low high)) in
      rw (xs, ys, ss, rs, is.items, is.periods) refl

  right_same : (price hold : List ℕ) → price_right e.asked price hold ≡ price_right f.asked price hold
  right_same price hold =
      let T = e.asked.periods in
      let worth = sum_to-same T (λ t. net_in e.asked t * entry price t) (λ t. net_in f.asked t * entry price t) (λ t low high. ap (λ n. n * entry price t) (net_same t high)) ∙ ap (λ n. sum_to n (λ t. net_in f.asked t * entry price t)) is.periods in
      let held = sum_to-same T (λ t. entry hold t * left_after e.asked t) (λ t. entry hold t * left_after f.asked t) (λ t low high. ap (λ n. entry hold t * n) (left_same t high)) ∙ ap (λ n. sum_to n (λ t. entry hold t * left_after f.asked t)) is.periods in
      ap (λ w. w + sum_to T (λ t. entry hold t * left_after e.asked t)) worth
      ∙ ap (λ h. sum_to f.asked.periods (λ t. net_in f.asked t * entry price t) + h) held

  price_terms_same : (price unit hold back : List ℕ) → price_terms e price unit hold back ≡ price_terms f price unit hold back
  price_terms_same price unit hold back =
      let gains : ℕ → Single → ℕ → ℕ = λ n s u. sum_to n (gain s (entry price) u) in
      let ts : (ℕ → ℕ) → List Term = λ k. cost_terms e k (entry unit) (entry hold) (entry back) in
      let n = f.asked.periods in
      ap (λ k. ts (gains k (priced e [] unit hold back))) is.periods
      ∙ ap (λ s. ts (gains n s)) (priced_same [] unit hold back)
      ∙ cost_terms_same (gains n (priced f [] unit hold back)) (entry unit) (entry hold) (entry back)

  pub price_row_same : (price unit hold back : List ℕ) → price_row e price unit hold back ≡ price_row f price unit hold back
  price_row_same price unit hold back =
      ap (λ ts. row_with ts (pos (price_right e.asked price hold))) (price_terms_same price unit hold back)
      ∙ ap (λ r. row_with (price_terms f price unit hold back) (pos r)) (right_same price hold)

  pub block_row_same : (setup unit hold back steps : List ℕ) → block_row e setup unit hold back steps ≡ block_row f setup unit hold back steps
  block_row_same setup unit hold back steps =
      let ts : Echelon → List Term = λ g. cost_terms g (entry setup) (entry unit) (entry hold) (entry back) in
      let se = priced e setup unit hold back in
      let sf = priced f setup unit hold back in
      let last : Single → ℕ = λ s. potential steps (position_count s) in
      ap (λ xs. row_with xs (pos (last se + left_cost e.asked se))) (cost_terms_same (entry setup) (entry unit) (entry hold) (entry back))
      ∙ ap (λ s. row_with (ts f) (pos (last s + left_cost e.asked s))) (priced_same setup unit hold back)
      ∙ ap (λ c. row_with (ts f) (pos (last sf + c))) (left_cost_same sf)

-- tests that are true together are the same
same_tests : (a b : Bool) → (a ≡ true → b ≡ true) → (b ≡ true → a ≡ true) → a ≡ b
same_tests true b to from = sym (to refl)
same_tests false true to from = from refl
same_tests false false to from = refl

-- a sum that isn't 0 has a number that isn't
some_of : (n : ℕ) (f : ℕ → ℕ) → 0 < sum_to n f → (j : ℕ) × (1 ≤ j) × (j ≤ n) × (0 < f j)
some_of zero f more = absurd (omega (arith, more))
some_of (suc n) f more =
    ⊎_elim
    (λ last. (suc n, omega arith, omega arith, last))
    (λ none. let (j, low, high, here) = some_of n f (omega (arith, more, none)) in (j, low, omega (arith, high), here))
    (cases_lt 0 (f (suc n)))

counted : (b : Bool) (w : ℕ) → 0 < (if b then w else 0) → (b ≡ true) × (0 < w)
counted true w more = (refl, more)
counted false w more = absurd (omega (arith, more))

counts : (b : Bool) (w : ℕ) → b ≡ true → 0 < w → 0 < (if b then w else 0)
counts b w is more = rw is more

less_is : (n : ℕ) → 0 < n → nat_lt 0 n ≡ true
less_is n more = grind (arith, more)

is_less : (n : ℕ) → nat_lt 0 n ≡ true → 0 < n
is_less n is = grind (arith, is)

-- the echelon that a program makes agrees with the one of the weights
pub echelon_alike : (m : Problem) (weight : ℕ → ℕ → ℕ) (i : ℕ) (e : EchelonItem) → IsEchelonOf m weight i e → AreAlike (echelon_in e) (echelon_at m weight i)
echelon_alike m weight i e is =
    let back = λ (j : ℕ). if is_some (item_at m j).backlog_cost then weight i j else 0 in
    record {
      item = is.item;
      items = is.weights.size;
      periods = is.demand.size;
      demand = λ t low high. is.demand.each t low (omega (arith, high, is.demand.size));
      opening = is.opening;
      end_min = is.end_min;
      weight = λ j low high. is.weights.each j low (omega (arith, high, is.weights.size));
      back = λ j low high.
          let both = is.backs.each j low (omega (arith, high, is.weights.size)) in
          same_tests (marked e.backs.items j) (is_some (item_at m j).backlog_cost) both.0 both.1;
      owing = same_tests e.backlogged (nat_lt 0 (backs_in m weight i))
          (λ yes.
          let (j, low, high, goes, has) = is.backlogged.0 yes in
          less_is (backs_in m weight i) (omega (arith, counts (is_some (item_at m j).backlog_cost) (weight i j) has goes, one_of (item_count m) back j low high)))
          (λ yes.
          let (j, low, high, here) = some_of (item_count m) back (is_less (backs_in m weight i) yes) in
          let (has, goes) = counted (is_some (item_at m j).backlog_cost) (weight i j) here in
          is.backlogged.1 (j, low, high, goes, has));
    }

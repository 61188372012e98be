-- How many times the block row of an item takes a column: at most what one of the column costs, and only columns of the item.
use Rattle.std.proofs.Common.{◌≡◌, ◌≢◌, ◌≤◌, ◌<◌, ◌+◌, ◌-◌, ◌*◌, ◌∙◌, ⊎_elim, ℕ, zero, suc, refl, sym, ap, arith, Bool, true, false, List, [], ◌∷◌, ◌++◌, length}
use Rattle.std.specs.Prelude.{if◌then◌else◌, ◌==◌, ◌&&◌, nat_le, nat_lt, is_some, Option, Some, None, IfSome, ℤ, pos, negsuc, ◌+ℤ◌, replicate, unwrap_or}
use Rattle.std.proofs.lemmas.Bool.{cases_Bool, cases_eq, cases_lt}
use Rattle.std.proofs.lemmas.List.{get_or-replicate, get_or_past, length-replicate}
use Rattle.algebra.proofs.Integers.{zero_add}
use Rattle.lot_sizing.specs.Sums.{sum_to}
use Rattle.lot_sizing.specs.Problem.{IsSeries, IsWithinLimits, Problem, backlog_cost, backlog_price, entry, hold_cost, item_at, item_count, per_unit, setup_cost, unit_cost}
use Rattle.lot_sizing.specs.Bill.{AreWeights, bill_of, one_if_same}
use Rattle.lot_sizing.specs.declared.limits.TheConstants.{MAX_AMOUNT}
use Rattle.lot_sizing.proofs.Sums.{sum_to-same, sum_to-zero}
use Rattle.lin_rows.specs.declared.column.Column.{Column}
use Rattle.lin_rows.specs.declared.column.Column.TheVariants.{X, Y, S, R}
use Rattle.lin_rows.specs.declared.prices.Potentials.{Potentials}
use Rattle.lin_rows.specs.declared.row.Term.{Term}
use Rattle.lin_rows.specs.Base.{is_some_term, some_terms, term}
use Rattle.lin_rows.specs.Columns.{column_cost}
use Rattle.lin_rows.specs.Sums.{coefficient, item_of, kind_of, period_of, same_column}
use Rattle.lin_rows.proofs.Below.{coefficient_append}
use Rattle.echelon_rows.specs.Rows.{cells_to, cost_terms, owed_by, owed_times, periods_to}
use Rattle.backlog_dp.specs.BlockRow.{block_terms}
use Rattle.cert_meaning.specs.CutRows.{echelon_at}
use Rattle.item_bound.specs.Apart.{held_apart, is_component, no_costs, owed_apart}

-- ---- sums of which at most one number counts
pub all_none : (n : ℕ) (f : ℕ → ℕ) → ((j : ℕ) → 1 ≤ j → j ≤ n → f j ≡ 0) → sum_to n f ≡ 0
all_none n f none = sum_to-same n f (λ _. 0) none ∙ sum_to-zero n

pub only_one : (n i : ℕ) (f : ℕ → ℕ) → 1 ≤ i → i ≤ n → ((j : ℕ) → 1 ≤ j → j ≤ n → j ≢ i → f j ≡ 0) → sum_to n f ≡ f i
only_one zero i f low high none = absurd (omega (arith, low, high))
only_one (suc n) i f low high none =
    ⊎_elim
    (λ last. omega (arith, all_none n f (λ j j_low j_high. none j j_low (omega (arith, j_high)) (λ e. omega (arith, e, last, j_high))), ap f last))
    (λ before. omega (arith, only_one n i f low (omega (arith, high, before)) (λ j j_low j_high. none j j_low (omega (arith, j_high))), none (suc n) (omega arith) (omega arith) (λ e. before (sym e))))
    (cases_eq i (suc n))

pub at_most_one : (n i most : ℕ) (f : ℕ → ℕ) → ((j : ℕ) → 1 ≤ j → j ≤ n → j ≢ i → f j ≡ 0) → f i ≤ most → sum_to n f ≤ most
at_most_one zero i most f none few = omega arith
at_most_one (suc n) i most f none few =
    ⊎_elim
    (λ last. omega (arith, all_none n f (λ j j_low j_high. none j j_low (omega (arith, j_high)) (λ e. omega (arith, e, last, j_high))), ap f last, few))
    (λ before. omega (arith, at_most_one n i most f (λ j j_low j_high. none j j_low (omega (arith, j_high))) few, none (suc n) (omega arith) (omega arith) (λ e. before (sym e))))
    (cases_eq i (suc n))

-- each of the numbers of a sum is at most the sum
one_of : (n : ℕ) (f : ℕ → ℕ) (j : ℕ) → 1 ≤ j → j ≤ n → f j ≤ sum_to n f
one_of zero f j low high = absurd (omega (arith, low, high))
one_of (suc n) f j low high =
    ⊎_elim
    (λ last. omega (arith, ap f last))
    (λ before. omega (arith, one_of n f j low (omega (arith, high, before))))
    (cases_eq j (suc n))

-- ---- weights of an item that goes into no other one
not_none : (n : ℕ) → 0 < n → nat_lt 0 n ≡ true
not_none n some = grind (arith, some)

pub goes_into : (m : Problem) (i j : ℕ) → 1 ≤ j → j ≤ item_count m → 0 < per_unit m i j → is_component m i ≡ true
goes_into m i j low high some = not_none (sum_to (item_count m) (per_unit m i)) (omega (arith, some, one_of (item_count m) (per_unit m i) j low high))

not_less : (n : ℕ) → nat_lt 0 n ≡ false → n ≡ 0
not_less n is = grind (arith, is)

pub one_of_itself : (i : ℕ) → one_if_same i i ≡ 1
one_of_itself i = grind arith

pub none_of_others : (i j : ℕ) → j ≢ i → one_if_same i j ≡ 0
none_of_others i j apart = grind (arith, apart)

weighs : (m : Problem) (weight : ℕ → ℕ → ℕ) (i : ℕ) → AreWeights (bill_of m) weight → 1 ≤ i → i ≤ item_count m → is_component m i ≡ false → (j : ℕ) → 1 ≤ j → j ≤ item_count m → weight i j ≡ one_if_same i j
weighs m weight i are low high alone j j_low j_high =
    let n = item_count m in
    let needed : sum_to n (per_unit m i) ≡ 0 = not_less (sum_to n (per_unit m i)) alone in
    let each : (k : ℕ) → 1 ≤ k → k ≤ n → per_unit m i k ≡ 0 = λ k k_low k_high. omega (arith, one_of n (per_unit m i) k k_low k_high, needed) in
    let none = all_none n (λ k. per_unit m i k * weight k j) (λ k k_low k_high. omega (arith, ap (λ x. x * weight k j) (each k k_low k_high))) in
    omega (arith, are i j low high j_low j_high, none)

-- ---- the costs of the item apart
-- where nothing costs anything
entry_none : (n t : ℕ) → entry (replicate n 0) t ≡ 0
entry_none n t =
    ⊎_elim
    (λ inside. get_or-replicate n (t - 1) 0 0 inside)
    (λ past. get_or_past (replicate n 0) (t - 1) 0 (omega (arith, past, length-replicate {A = ℕ} n 0)))
    (cases_lt (t - 1) n)

not_taken : (b : Bool) (n : ℕ) → n ≡ 0 → (if b then n else 0) ≡ 0
not_taken true n none = none
not_taken false n none = refl

pub no_weight : (T w t : ℕ) (back : Bool) → w ≡ 0 → owed_by T back w t ≡ 0
no_weight T w t back none = not_taken (nat_le 1 t && (nat_lt t T && back)) w none

-- a backlog that counts costs what the item's does
own_back : (low before : Bool) (o : Option (List ℕ)) (none : List ℕ) (w t : ℕ) → w ≡ 1 → entry (unwrap_or o none) t * (if low && (before && is_some o) then w else 0) ≤ backlog_price o t
own_back false before o none w t one = omega arith
own_back true false o none w t one = omega arith
own_back true true None none w t one = omega arith
own_back true true (Some costs) none w t one = omega (arith, ap (λ k. entry costs t * k) one)

-- the costs are the item's for units and setups; no stock and no backlog of another item costs anything, and its own cost no more than one of them does
pub record AreOwnCosts (m : Problem) (weight : ℕ → ℕ → ℕ) (i : ℕ) (p : Potentials) : Type 0 where
  pub low : 1 ≤ i
  pub high : i ≤ item_count m
  pub unit : p.unit.items ≡ (item_at m i).unit_cost
  pub setup : p.setup.items ≡ (item_at m i).setup_cost
  pub other_stocks : (j t : ℕ) → 1 ≤ j → j ≤ item_count m → j ≢ i → entry p.hold.items t * weight i j ≡ 0
  pub own_stocks : (t : ℕ) → entry p.hold.items t * weight i i ≤ hold_cost m i t
  pub other_backs : (j t : ℕ) → 1 ≤ j → j ≤ item_count m → j ≢ i → entry p.back.items t * owed_times (echelon_at m weight i) j t ≡ 0
  pub own_backs : (t : ℕ) → entry p.back.items t * owed_times (echelon_at m weight i) i t ≤ backlog_cost m i t

none_times : (a b : ℕ) → a ≡ 0 → a * b ≡ 0
none_times a b none = omega (arith, ap (λ k. k * b) none)

times_none : (a b : ℕ) → b ≡ 0 → a * b ≡ 0
times_none a b none = omega (arith, ap (λ k. a * k) none)

module _ (m : Problem) (weight : ℕ → ℕ → ℕ) (i : ℕ) (p : Potentials) (are : AreWeights (bill_of m) weight) (low : 1 ≤ i) (high : i ≤ item_count m) (unit : p.unit.items ≡ (item_at m i).unit_cost) (setup : p.setup.items ≡ (item_at m i).setup_cost) (hold : p.hold.items ≡ held_apart m i) (back : p.back.items ≡ owed_apart m i) where
  of_component : is_component m i ≡ true → AreOwnCosts m weight i p
  of_component goes =
      let h : p.hold.items ≡ no_costs m = hold ∙ ap (λ b. if b then no_costs m else (item_at m i).hold_cost) goes in
      let o : p.back.items ≡ no_costs m = back ∙ ap (λ b. if b then no_costs m else unwrap_or (item_at m i).backlog_cost (no_costs m)) goes in
      let no_hold : (t : ℕ) → entry p.hold.items t ≡ 0 = λ t. ap (λ xs. entry xs t) h ∙ entry_none m.periods t in
      let no_back : (t : ℕ) → entry p.back.items t ≡ 0 = λ t. ap (λ xs. entry xs t) o ∙ entry_none m.periods t in
      record {
        low = low;
        high = high;
        unit = unit;
        setup = setup;
        other_stocks = λ j t _ _ _. none_times (entry p.hold.items t) (weight i j) (no_hold t);
        own_stocks = λ t. omega (arith, none_times (entry p.hold.items t) (weight i i) (no_hold t));
        other_backs = λ j t _ _ _. none_times (entry p.back.items t) (owed_times (echelon_at m weight i) j t) (no_back t);
        own_backs = λ t. omega (arith, none_times (entry p.back.items t) (owed_times (echelon_at m weight i) i t) (no_back t));
      }

  of_end : is_component m i ≡ false → AreOwnCosts m weight i p
  of_end alone =
      let E = echelon_at m weight i in
      let h : p.hold.items ≡ (item_at m i).hold_cost = hold ∙ ap (λ b. if b then no_costs m else (item_at m i).hold_cost) alone in
      let o : p.back.items ≡ unwrap_or (item_at m i).backlog_cost (no_costs m) = back ∙ ap (λ b. if b then no_costs m else unwrap_or (item_at m i).backlog_cost (no_costs m)) alone in
      let once : weight i i ≡ 1 = weighs m weight i are low high alone i low high ∙ one_of_itself i in
      let others : (j : ℕ) → 1 ≤ j → j ≤ item_count m → j ≢ i → weight i j ≡ 0 = λ j j_low j_high apart. weighs m weight i are low high alone j j_low j_high ∙ none_of_others i j apart in
      record {
        low = low;
        high = high;
        unit = unit;
        setup = setup;
        other_stocks = λ j t j_low j_high apart. times_none (entry p.hold.items t) (weight i j) (others j j_low j_high apart);
        own_stocks = λ t. omega (arith, ap (λ k. entry p.hold.items t * k) once, ap (λ xs. entry xs t) h);
        other_backs = λ j t j_low j_high apart. times_none (entry p.back.items t) (owed_times E j t) (no_weight m.periods (weight i j) t (E.back j) (others j j_low j_high apart));
        own_backs = λ t. omega (arith, ap (λ xs. entry xs t * owed_times E i t) o, own_back (nat_le 1 t) (nat_lt t m.periods) (item_at m i).backlog_cost (no_costs m) (weight i i) t once);
      }

  pub own_costs : AreOwnCosts m weight i p
  own_costs = ⊎_elim of_component of_end (cases_Bool (is_component m i))

-- ---- coefficients of terms that are taken a whole number of times
-- terms of nothing add nothing
none_added : (z : ℤ) (b : Bool) → is_some_term z ≡ false → (if b then z else pos 0) ≡ pos 0
none_added (pos zero) true none = refl
none_added (pos zero) false none = refl
none_added (pos (suc n)) b none = cc none
none_added (negsuc n) b none = cc none

coefficient_some : (ts : List Term) (d : Column) → coefficient (some_terms ts) d ≡ coefficient ts d
coefficient_some [] d = refl
coefficient_some (a ∷ ts) d =
    ⊎_elim
    (λ some. rw some (ap (λ z. (if same_column a.column d then a.times else pos 0) +ℤ z) (coefficient_some ts d)))
    (λ none. rw none (coefficient_some ts d ∙ sym (zero_add (coefficient ts d)) ∙ ap (λ z. z +ℤ coefficient ts d) (sym (none_added a.times (same_column a.column d) none))))
    (cases_Bool (is_some_term a.times))

-- what a term of a column adds
abbrev counted : Column → Column → ℕ → ℕ
counted c d n = if same_column c d then n else 0

no_more : (n : ℕ) → n + 0 ≡ n
no_more n = omega arith

pub one_counted : (b : Bool) (n : ℕ) → (if b then pos n else pos 0) +ℤ pos 0 ≡ pos (if b then n else 0)
one_counted true n = ap pos (no_more n)
one_counted false n = refl

pub periods_counted : (T : ℕ) (c : ℕ → Column) (k : ℕ → ℕ) (d : Column) → coefficient (periods_to T (λ t. term (c t) (pos (k t)))) d ≡ pos (sum_to T (λ t. counted (c t) d (k t)))
periods_counted zero c k d = refl
periods_counted (suc n) c k d =
    let f : ℕ → Term = λ t. term (c t) (pos (k t)) in
    coefficient_append (periods_to n f) (f (suc n) ∷ []) d
    ∙ ap (λ z. z +ℤ coefficient (f (suc n) ∷ []) d) (periods_counted n c k d)
    ∙ ap (λ z. pos (sum_to n (λ t. counted (c t) d (k t))) +ℤ z) (one_counted (same_column (c (suc n)) d) (k (suc n)))

pub cells_counted : (n T : ℕ) (c : ℕ → ℕ → Column) (k : ℕ → ℕ → ℕ) (d : Column) → coefficient (cells_to n T (λ j t. term (c j t) (pos (k j t)))) d ≡ pos (sum_to n (λ j. sum_to T (λ t. counted (c j t) d (k j t))))
cells_counted zero T c k d = refl
cells_counted (suc n) T c k d =
    let f : ℕ → ℕ → Term = λ j t. term (c j t) (pos (k j t)) in
    coefficient_append (cells_to n T f) (periods_to T (f (suc n))) d
    ∙ ap (λ z. z +ℤ coefficient (periods_to T (f (suc n))) d) (cells_counted n T c k d)
    ∙ ap (λ z. pos (sum_to n (λ j. sum_to T (λ t. counted (c j t) d (k j t)))) +ℤ z) (periods_counted T (c (suc n)) (k (suc n)) d)

-- ---- columns that are not the same
pub parts_apart : (k l i j t s : ℕ) → (k ≡ l → i ≡ j → t ≡ s → ⊥) → ((k == l) && ((i == j) && (t == s))) ≡ false
parts_apart k l i j t s apart =
    ⊎_elim
    (λ yes. absurd (apart (grind (arith, yes)) (grind (arith, yes)) (grind (arith, yes))))
    (λ no. no)
    (cases_Bool ((k == l) && ((i == j) && (t == s))))

pub uncounted : (c d : Column) (n : ℕ) → (kind_of c ≡ kind_of d → item_of c ≡ item_of d → period_of c ≡ period_of d → ⊥) → counted c d n ≡ 0
uncounted c d n apart = ap (λ b. if b then n else 0) (parts_apart (kind_of c) (kind_of d) (item_of c) (item_of d) (period_of c) (period_of d) apart)

if_most : (b : Bool) (n most : ℕ) → n ≤ most → (if b then n else 0) ≤ most
if_most true n most few = few
if_most false n most few = omega arith

pub no_parts : (a b c d : ℕ) → a ≡ 0 → b ≡ 0 → c ≡ 0 → d ≡ 0 → a + (b + (c + d)) ≡ 0
no_parts a b c d x y s r = omega (arith, x, y, s, r)

-- ---- one kind of columns of one item, each period's so many times
record AreOf (kind i : ℕ) (c : ℕ → Column) : Type 0 where
  kinds : (t : ℕ) → kind_of (c t) ≡ kind
  items : (t : ℕ) → item_of (c t) ≡ i
  numbers : (t : ℕ) → period_of (c t) ≡ t

no_kind : (T kind i : ℕ) (c : ℕ → Column) (k : ℕ → ℕ) (d : Column) → AreOf kind i c → kind ≢ kind_of d → sum_to T (λ t. counted (c t) d (k t)) ≡ 0
no_kind T kind i c k d are apart = all_none T (λ t. counted (c t) d (k t)) (λ t low high. uncounted (c t) d (k t) (λ e _ _. apart (sym (are.kinds t) ∙ e)))

no_item : (T kind i : ℕ) (c : ℕ → Column) (k : ℕ → ℕ) (d : Column) → AreOf kind i c → item_of d ≢ i → sum_to T (λ t. counted (c t) d (k t)) ≡ 0
no_item T kind i c k d are apart = all_none T (λ t. counted (c t) d (k t)) (λ t low high. uncounted (c t) d (k t) (λ _ e _. apart (sym e ∙ are.items t)))

in_period : (T kind i : ℕ) (c : ℕ → Column) (k : ℕ → ℕ) (d : Column) (most : ℕ) → AreOf kind i c → k (period_of d) ≤ most → sum_to T (λ t. counted (c t) d (k t)) ≤ most
in_period T kind i c k d most are few =
    let s = period_of d in
    at_most_one T s most (λ t. counted (c t) d (k t)) (λ t low high apart. uncounted (c t) d (k t) (λ _ _ e. apart (sym (are.numbers t) ∙ e))) (if_most (same_column (c s) d) (k s) most few)

-- cells of which those of one item count
pub cells_of_one : (n T i : ℕ) (c : ℕ → ℕ → Column) (k : ℕ → ℕ → ℕ) (d : Column) → 1 ≤ i → i ≤ n → ((j t : ℕ) → 1 ≤ j → j ≤ n → j ≢ i → k j t ≡ 0) → sum_to n (λ j. sum_to T (λ t. counted (c j t) d (k j t))) ≡ sum_to T (λ t. counted (c i t) d (k i t))
cells_of_one n T i c k d low high none =
    only_one n i (λ j. sum_to T (λ t. counted (c j t) d (k j t))) low high (λ j j_low j_high apart.
    all_none T (λ t. counted (c j t) d (k j t)) (λ t t_low t_high. not_taken (same_column (c j t) d) (k j t) (none j t j_low j_high apart)))

-- ---- how large costs are
entry_small : (T most t : ℕ) (xs : List ℕ) → IsSeries T most xs → entry xs t ≤ most
entry_small T most t xs is =
    ⊎_elim
    (λ inside. is.small (t - 1) 0 inside)
    (λ past. omega (arith, get_or_past xs (t - 1) 0 past))
    (cases_lt (t - 1) (length xs))

pub price_small : (T most t : ℕ) (o : Option (List ℕ)) → IfSome o (IsSeries T most) → backlog_price o t ≤ most
price_small T most t None is = omega arith
price_small T most t (Some xs) is = entry_small T most t xs is

pub cost_small : (m : Problem) → IsWithinLimits m → (d : Column) → 1 ≤ item_of d → item_of d ≤ item_count m → column_cost m d ≤ MAX_AMOUNT
cost_small m within (X i t) low high = entry_small m.periods MAX_AMOUNT t (item_at m i).unit_cost (within.each_item i low high).lists.unit_cost
cost_small m within (Y i t) low high = entry_small m.periods MAX_AMOUNT t (item_at m i).setup_cost (within.each_item i low high).lists.setup_cost
cost_small m within (S i t) low high = entry_small m.periods MAX_AMOUNT t (item_at m i).hold_cost (within.each_item i low high).lists.hold_cost
cost_small m within (R i t) low high = price_small m.periods MAX_AMOUNT t (item_at m i).backlog_cost (within.each_item i low high).lists.backlog_cost

-- ---- the row of an item
-- how many times the row takes a column, in its four parts
units_in : Problem → ℕ → Potentials → Column → ℕ
units_in m i p d = sum_to m.periods (λ t. counted (X i t) d (entry p.unit.items t))

setups_in : Problem → ℕ → Potentials → Column → ℕ
setups_in m i p d = sum_to m.periods (λ t. counted (Y i t) d (entry p.setup.items t))

stocks_in : Problem → (ℕ → ℕ → ℕ) → ℕ → Potentials → Column → ℕ
stocks_in m weight i p d = sum_to m.periods (λ t. counted (S i t) d (entry p.hold.items t * weight i i))

backlogs_in : Problem → (ℕ → ℕ → ℕ) → ℕ → Potentials → Column → ℕ
backlogs_in m weight i p d = sum_to m.periods (λ t. counted (R i t) d (entry p.back.items t * owed_times (echelon_at m weight i) i t))

all_in : Problem → (ℕ → ℕ → ℕ) → ℕ → Potentials → Column → ℕ
all_in m weight i p d = units_in m i p d + (setups_in m i p d + (stocks_in m weight i p d + backlogs_in m weight i p d))

in_parts : (m : Problem) (weight : ℕ → ℕ → ℕ) (i : ℕ) (p : Potentials) → AreOwnCosts m weight i p → (d : Column) → coefficient (block_terms (echelon_at m weight i) p) d ≡ pos (all_in m weight i p d)
unfolding units_in setups_in stocks_in backlogs_in all_in
in_parts m weight i p is d =
    let E = echelon_at m weight i in
    let n = item_count m in
    let T = m.periods in
    let kx : ℕ → ℕ = entry p.unit.items in
    let ky : ℕ → ℕ = entry p.setup.items in
    let ks : ℕ → ℕ → ℕ = λ j t. entry p.hold.items t * weight i j in
    let kr : ℕ → ℕ → ℕ = λ j t. entry p.back.items t * owed_times E j t in
    let xs = periods_to T (λ t. term (X i t) (pos (kx t))) in
    let ys = periods_to T (λ t. term (Y i t) (pos (ky t))) in
    let ss = cells_to n T (λ j t. term (S j t) (pos (ks j t))) in
    let rs = cells_to n T (λ j t. term (R j t) (pos (kr j t))) in
    let held = cells_counted n T (λ j t. S j t) ks d ∙ ap pos (cells_of_one n T i (λ j t. S j t) ks d is.low is.high is.other_stocks) in
    let owed = cells_counted n T (λ j t. R j t) kr d ∙ ap pos (cells_of_one n T i (λ j t. R j t) kr d is.low is.high is.other_backs) in
    coefficient_some (cost_terms E ky kx (entry p.hold.items) (entry p.back.items)) d
    ∙ coefficient_append xs (ys ++ (ss ++ rs)) d
    ∙ ap (λ z. z +ℤ coefficient (ys ++ (ss ++ rs)) d) (periods_counted T (λ t. X i t) kx d)
    ∙ ap (λ z. pos (units_in m i p d) +ℤ z)
    (coefficient_append ys (ss ++ rs) d ∙ ap (λ z. z +ℤ coefficient (ss ++ rs) d) (periods_counted T (λ t. Y i t) ky d)
    ∙ ap (λ z. pos (setups_in m i p d) +ℤ z)
    (coefficient_append ss rs d ∙ ap (λ z. z +ℤ coefficient rs d) held ∙ ap (λ z. pos (stocks_in m weight i p d) +ℤ z) owed))

are_units : (i : ℕ) → AreOf 0 i (λ t. X i t)
are_units i = record { kinds = λ t. refl; items = λ t. refl; numbers = λ t. refl }

are_setups : (i : ℕ) → AreOf 1 i (λ t. Y i t)
are_setups i = record { kinds = λ t. refl; items = λ t. refl; numbers = λ t. refl }

are_stocks : (i : ℕ) → AreOf 2 i (λ t. S i t)
are_stocks i = record { kinds = λ t. refl; items = λ t. refl; numbers = λ t. refl }

are_backlogs : (i : ℕ) → AreOf 3 i (λ t. R i t)
are_backlogs i = record { kinds = λ t. refl; items = λ t. refl; numbers = λ t. refl }

-- columns of another kind
no_units : (m : Problem) (i : ℕ) (p : Potentials) (d : Column) → 0 ≢ kind_of d → units_in m i p d ≡ 0
unfolding units_in
no_units m i p d apart = no_kind m.periods 0 i (λ t. X i t) (entry p.unit.items) d (are_units i) apart

no_setups : (m : Problem) (i : ℕ) (p : Potentials) (d : Column) → 1 ≢ kind_of d → setups_in m i p d ≡ 0
unfolding setups_in
no_setups m i p d apart = no_kind m.periods 1 i (λ t. Y i t) (entry p.setup.items) d (are_setups i) apart

no_stocks : (m : Problem) (weight : ℕ → ℕ → ℕ) (i : ℕ) (p : Potentials) (d : Column) → 2 ≢ kind_of d → stocks_in m weight i p d ≡ 0
unfolding stocks_in
no_stocks m weight i p d apart = no_kind m.periods 2 i (λ t. S i t) (λ t. entry p.hold.items t * weight i i) d (are_stocks i) apart

no_backlogs : (m : Problem) (weight : ℕ → ℕ → ℕ) (i : ℕ) (p : Potentials) (d : Column) → 3 ≢ kind_of d → backlogs_in m weight i p d ≡ 0
unfolding backlogs_in
no_backlogs m weight i p d apart = no_kind m.periods 3 i (λ t. R i t) (λ t. entry p.back.items t * owed_times (echelon_at m weight i) i t) d (are_backlogs i) apart

-- columns of another item
no_other : (m : Problem) (weight : ℕ → ℕ → ℕ) (i : ℕ) (p : Potentials) (d : Column) → item_of d ≢ i → all_in m weight i p d ≡ 0
unfolding units_in setups_in stocks_in backlogs_in all_in
no_other m weight i p d apart =
    let T = m.periods in
    let x : units_in m i p d ≡ 0 = no_item T 0 i (λ t. X i t) (entry p.unit.items) d (are_units i) apart in
    let y : setups_in m i p d ≡ 0 = no_item T 1 i (λ t. Y i t) (entry p.setup.items) d (are_setups i) apart in
    let s : stocks_in m weight i p d ≡ 0 = no_item T 2 i (λ t. S i t) (λ t. entry p.hold.items t * weight i i) d (are_stocks i) apart in
    let r : backlogs_in m weight i p d ≡ 0 = no_item T 3 i (λ t. R i t) (λ t. entry p.back.items t * owed_times (echelon_at m weight i) i t) d (are_backlogs i) apart in
    no_parts _ _ _ _ x y s r

-- the item's own columns are taken no more often than one of them costs
few_units : (m : Problem) (weight : ℕ → ℕ → ℕ) (i : ℕ) (p : Potentials) → AreOwnCosts m weight i p → (j t : ℕ) → j ≡ i → units_in m i p (X j t) ≤ unit_cost m j t
unfolding units_in
few_units m weight i p is j t same =
    let price : entry p.unit.items t ≡ unit_cost m i t = ap (λ list. entry list t) is.unit in
    in_period m.periods 0 i (λ s. X i s) (entry p.unit.items) (X j t) (unit_cost m j t) (are_units i) (omega (arith, price, ap (λ k. unit_cost m k t) same))

few_setups : (m : Problem) (weight : ℕ → ℕ → ℕ) (i : ℕ) (p : Potentials) → AreOwnCosts m weight i p → (j t : ℕ) → j ≡ i → setups_in m i p (Y j t) ≤ setup_cost m j t
unfolding setups_in
few_setups m weight i p is j t same =
    let price : entry p.setup.items t ≡ setup_cost m i t = ap (λ list. entry list t) is.setup in
    in_period m.periods 1 i (λ s. Y i s) (entry p.setup.items) (Y j t) (setup_cost m j t) (are_setups i) (omega (arith, price, ap (λ k. setup_cost m k t) same))

few_stocks : (m : Problem) (weight : ℕ → ℕ → ℕ) (i : ℕ) (p : Potentials) → AreOwnCosts m weight i p → (j t : ℕ) → j ≡ i → stocks_in m weight i p (S j t) ≤ hold_cost m j t
unfolding stocks_in
few_stocks m weight i p is j t same =
    in_period m.periods 2 i (λ s. S i s) (λ s. entry p.hold.items s * weight i i) (S j t) (hold_cost m j t) (are_stocks i) (omega (arith, is.own_stocks t, ap (λ k. hold_cost m k t) same))

few_backlogs : (m : Problem) (weight : ℕ → ℕ → ℕ) (i : ℕ) (p : Potentials) → AreOwnCosts m weight i p → (j t : ℕ) → j ≡ i → backlogs_in m weight i p (R j t) ≤ backlog_cost m j t
unfolding backlogs_in
few_backlogs m weight i p is j t same =
    in_period m.periods 3 i (λ s. R i s) (λ s. entry p.back.items s * owed_times (echelon_at m weight i) i s) (R j t) (backlog_cost m j t) (are_backlogs i) (omega (arith, is.own_backs t, ap (λ k. backlog_cost m k t) same))

own_few : (m : Problem) (weight : ℕ → ℕ → ℕ) (i : ℕ) (p : Potentials) → AreOwnCosts m weight i p → (d : Column) → item_of d ≡ i → all_in m weight i p d ≤ column_cost m d
unfolding all_in
own_few m weight i p is (X j t) same =
    let d = X j t in
    omega (arith, few_units m weight i p is j t same, no_setups m i p d (λ e. omega (arith, e)), no_stocks m weight i p d (λ e. omega (arith, e)), no_backlogs m weight i p d (λ e. omega (arith, e)))
own_few m weight i p is (Y j t) same =
    let d = Y j t in
    omega (arith, few_setups m weight i p is j t same, no_units m i p d (λ e. omega (arith, e)), no_stocks m weight i p d (λ e. omega (arith, e)), no_backlogs m weight i p d (λ e. omega (arith, e)))
own_few m weight i p is (S j t) same =
    let d = S j t in
    omega (arith, few_stocks m weight i p is j t same, no_units m i p d (λ e. omega (arith, e)), no_setups m i p d (λ e. omega (arith, e)), no_backlogs m weight i p d (λ e. omega (arith, e)))
own_few m weight i p is (R j t) same =
    let d = R j t in
    omega (arith, few_backlogs m weight i p is j t same, no_units m i p d (λ e. omega (arith, e)), no_setups m i p d (λ e. omega (arith, e)), no_stocks m weight i p d (λ e. omega (arith, e)))

-- a row takes a column so many times: columns of the item alone, and no more often than one of it costs
pub record TakesOwn (m : Problem) (i : ℕ) (terms : List Term) (d : Column) : Type 0 where
  pub times : ℕ
  pub is : coefficient terms d ≡ pos times
  pub cheap : times ≤ column_cost m d
  pub small : times ≤ MAX_AMOUNT
  pub own : item_of d ≢ i → times ≡ 0

pub takes_own : (m : Problem) (weight : ℕ → ℕ → ℕ) (i : ℕ) (p : Potentials) → IsWithinLimits m → AreOwnCosts m weight i p → (d : Column) → TakesOwn m i (block_terms (echelon_at m weight i) p) d
takes_own m weight i p within is d =
    let n = all_in m weight i p d in
    record {
      times = n;
      is = in_parts m weight i p is d;
      cheap = ⊎_elim (λ same. own_few m weight i p is d same) (λ apart. omega (arith, no_other m weight i p d apart)) (cases_eq (item_of d) i);
      small = ⊎_elim (λ same. omega (arith, own_few m weight i p is d same, cost_small m within d (omega (arith, same, is.low)) (omega (arith, same, is.high)))) (λ apart. omega (arith, no_other m weight i p d apart)) (cases_eq (item_of d) i);
      own = no_other m weight i p d;
    }

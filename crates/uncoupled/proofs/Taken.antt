-- How many times the block row of an item takes a column: at most what one of the column costs, and only columns of the item.
use Rattle.std.proofs.Common.{◌≡◌, ◌≢◌, ◌≤◌, ◌+◌, ◌-◌, ◌*◌, ◌∙◌, ⊎_elim, ℕ, zero, suc, refl, sym, ap, arith, Bool, true, false, List, [], ◌∷◌, ◌++◌}
use Rattle.std.specs.Prelude.{if◌then◌else◌, ◌&&◌, nat_le, nat_lt, is_some, Option, Some, None, IfSome, ℤ, pos, negsuc, ◌+ℤ◌}
use Rattle.std.proofs.lemmas.Bool.{cases_Bool, cases_eq}
use Rattle.algebra.proofs.Integers.{zero_add}
use Rattle.lot_sizing.specs.Sums.{sum_to}
use Rattle.lot_sizing.specs.Problem.{IsWithinLimits, Problem, backlog_cost, backlog_price, entry, hold_cost, item_at, item_count, setup_cost, unit_cost}
use Rattle.lot_sizing.specs.declared.limits.TheConstants.{MAX_AMOUNT}
use Rattle.lin_rows.specs.declared.column.Column.{Column}
use Rattle.lin_rows.specs.declared.column.Column.TheVariants.{X, Y, S, R}
use Rattle.lin_rows.specs.declared.prices.Potentials.{Potentials}
use Rattle.lin_rows.specs.declared.row.Term.{Term}
use Rattle.lin_rows.specs.Base.{is_some_term, some_terms, term}
use Rattle.lin_rows.specs.Columns.{column_cost}
use Rattle.lin_rows.specs.Sums.{coefficient, item_of, kind_of, period_of, same_column}
use Rattle.lin_rows.proofs.Below.{coefficient_append}
use Rattle.echelon_rows.specs.Rows.{cells_to, cost_terms, owed_times, periods_to}
use Rattle.backlog_dp.specs.BlockRow.{block_terms}
use Rattle.cert_meaning.specs.CutRows.{echelon_at}
use Rattle.item_bound.proofs.Taken.{all_none, at_most_one, one_of_itself, none_of_others, no_weight, periods_counted, cells_counted, uncounted, no_parts, cells_of_one, cost_small}
use Rattle.uncoupled.specs.Items.{ProvesItem}
use Rattle.uncoupled.specs.Blocks.{IsItsEchelon}

-- ---- coefficients of terms that are taken a whole number of times
-- terms of nothing add nothing
none_added : (z : ℤ) (b : Bool) → is_some_term z ≡ false → (if b then z else pos 0) ≡ pos 0
none_added (pos zero) true none = refl
none_added (pos zero) false none = refl
none_added (pos (suc n)) b none = cc none
none_added (negsuc n) b none = cc none

coefficient_some : (ts : List Term) (d : Column) → coefficient (some_terms ts) d ≡ coefficient ts d
coefficient_some [] d = refl
coefficient_some (a ∷ ts) d =
    ⊎_elim
    (λ some. rw some (ap (λ z. (if same_column a.column d then a.times else pos 0) +ℤ z) (coefficient_some ts d)))
    (λ none. rw none (coefficient_some ts d ∙ sym (zero_add (coefficient ts d)) ∙ ap (λ z. z +ℤ coefficient ts d) (sym (none_added a.times (same_column a.column d) none))))
    (cases_Bool (is_some_term a.times))

-- what a term of a column adds
abbrev counted : Column → Column → ℕ → ℕ
counted c d n = if same_column c d then n else 0

if_most : (b : Bool) (n most : ℕ) → n ≤ most → (if b then n else 0) ≤ most
if_most true n most few = few
if_most false n most few = omega arith

-- ---- one kind of columns of one item, each period's so many times
pub record AreOf (kind i : ℕ) (c : ℕ → Column) : Type 0 where
  pub kinds : (t : ℕ) → kind_of (c t) ≡ kind
  pub items : (t : ℕ) → item_of (c t) ≡ i
  pub numbers : (t : ℕ) → period_of (c t) ≡ t

no_kind : (T kind i : ℕ) (c : ℕ → Column) (k : ℕ → ℕ) (d : Column) → AreOf kind i c → kind ≢ kind_of d → sum_to T (λ t. counted (c t) d (k t)) ≡ 0
no_kind T kind i c k d are apart = all_none T (λ t. counted (c t) d (k t)) (λ t low high. uncounted (c t) d (k t) (λ e _ _. apart (sym (are.kinds t) ∙ e)))

no_item : (T kind i : ℕ) (c : ℕ → Column) (k : ℕ → ℕ) (d : Column) → AreOf kind i c → item_of d ≢ i → sum_to T (λ t. counted (c t) d (k t)) ≡ 0
no_item T kind i c k d are apart = all_none T (λ t. counted (c t) d (k t)) (λ t low high. uncounted (c t) d (k t) (λ _ e _. apart (sym e ∙ are.items t)))

in_period : (T kind i : ℕ) (c : ℕ → Column) (k : ℕ → ℕ) (d : Column) (most : ℕ) → AreOf kind i c → k (period_of d) ≤ most → sum_to T (λ t. counted (c t) d (k t)) ≤ most
in_period T kind i c k d most are few =
    let s = period_of d in
    at_most_one T s most (λ t. counted (c t) d (k t)) (λ t low high apart. uncounted (c t) d (k t) (λ _ _ e. apart (sym (are.numbers t) ∙ e))) (if_most (same_column (c s) d) (k s) most few)

-- a backlog that counts costs what the item's does
own_back : (low before : Bool) (o : Option (List ℕ)) (xs : List ℕ) (w t : ℕ) → w ≡ 1 → IfSome o (λ costs. xs ≡ costs) → entry xs t * (if low && (before && is_some o) then w else 0) ≤ backlog_price o t
own_back false before o xs w t one has = omega arith
own_back true false o xs w t one has = omega arith
own_back true true None xs w t one has = omega arith
own_back true true (Some costs) xs w t one has = omega (arith, ap (λ k. entry xs t * k) one, ap (λ ys. entry ys t) has)

-- an item of the problem, its echelon, and lists that prove the item
pub record IsOwnCut (m : Problem) (weight : ℕ → ℕ → ℕ) (i : ℕ) (p : Potentials) : Type 0 where
  pub low : 1 ≤ i
  pub high : i ≤ item_count m
  pub its : IsItsEchelon m weight i
  pub proves : ProvesItem m i p

counts_itself : (m : Problem) (weight : ℕ → ℕ → ℕ) (i : ℕ) (p : Potentials) → IsOwnCut m weight i p → weight i i ≡ 1
counts_itself m weight i p is = is.its.weights i is.low is.high ∙ one_of_itself i

counts_no_other : (m : Problem) (weight : ℕ → ℕ → ℕ) (i : ℕ) (p : Potentials) → IsOwnCut m weight i p → (j : ℕ) → 1 ≤ j → j ≤ item_count m → j ≢ i → weight i j ≡ 0
counts_no_other m weight i p is j low high apart = is.its.weights j low high ∙ none_of_others i j apart

-- how many times the row takes a column, in its four parts
units_in : Problem → ℕ → Potentials → Column → ℕ
units_in m i p d = sum_to m.periods (λ t. counted (X i t) d (entry p.unit.items t))

setups_in : Problem → ℕ → Potentials → Column → ℕ
setups_in m i p d = sum_to m.periods (λ t. counted (Y i t) d (entry p.setup.items t))

stocks_in : Problem → (ℕ → ℕ → ℕ) → ℕ → Potentials → Column → ℕ
stocks_in m weight i p d = sum_to m.periods (λ t. counted (S i t) d (entry p.hold.items t * weight i i))

backlogs_in : Problem → (ℕ → ℕ → ℕ) → ℕ → Potentials → Column → ℕ
backlogs_in m weight i p d = sum_to m.periods (λ t. counted (R i t) d (entry p.back.items t * owed_times (echelon_at m weight i) i t))

all_in : Problem → (ℕ → ℕ → ℕ) → ℕ → Potentials → Column → ℕ
all_in m weight i p d = units_in m i p d + (setups_in m i p d + (stocks_in m weight i p d + backlogs_in m weight i p d))

in_parts : (m : Problem) (weight : ℕ → ℕ → ℕ) (i : ℕ) (p : Potentials) → IsOwnCut m weight i p → (d : Column) → coefficient (block_terms (echelon_at m weight i) p) d ≡ pos (all_in m weight i p d)
unfolding units_in setups_in stocks_in backlogs_in all_in
in_parts m weight i p is d =
    let E = echelon_at m weight i in
    let n = item_count m in
    let T = m.periods in
    let kx : ℕ → ℕ = entry p.unit.items in
    let ky : ℕ → ℕ = entry p.setup.items in
    let ks : ℕ → ℕ → ℕ = λ j t. entry p.hold.items t * weight i j in
    let kr : ℕ → ℕ → ℕ = λ j t. entry p.back.items t * owed_times E j t in
    let xs = periods_to T (λ t. term (X i t) (pos (kx t))) in
    let ys = periods_to T (λ t. term (Y i t) (pos (ky t))) in
    let ss = cells_to n T (λ j t. term (S j t) (pos (ks j t))) in
    let rs = cells_to n T (λ j t. term (R j t) (pos (kr j t))) in
    let no_stock : (j t : ℕ) → 1 ≤ j → j ≤ n → j ≢ i → ks j t ≡ 0 = λ j t low high apart. omega (arith, ap (λ k. entry p.hold.items t * k) (counts_no_other m weight i p is j low high apart)) in
    let no_backlog : (j t : ℕ) → 1 ≤ j → j ≤ n → j ≢ i → kr j t ≡ 0 = λ j t low high apart. omega (arith, ap (λ k. entry p.back.items t * k) (no_weight T (weight i j) t (E.back j) (counts_no_other m weight i p is j low high apart))) in
    let held = cells_counted n T (λ j t. S j t) ks d ∙ ap pos (cells_of_one n T i (λ j t. S j t) ks d is.low is.high no_stock) in
    let owed = cells_counted n T (λ j t. R j t) kr d ∙ ap pos (cells_of_one n T i (λ j t. R j t) kr d is.low is.high no_backlog) in
    coefficient_some (cost_terms E ky kx (entry p.hold.items) (entry p.back.items)) d
    ∙ coefficient_append xs (ys ++ (ss ++ rs)) d
    ∙ ap (λ z. z +ℤ coefficient (ys ++ (ss ++ rs)) d) (periods_counted T (λ t. X i t) kx d)
    ∙ ap (λ z. pos (units_in m i p d) +ℤ z)
    (coefficient_append ys (ss ++ rs) d ∙ ap (λ z. z +ℤ coefficient (ss ++ rs) d) (periods_counted T (λ t. Y i t) ky d)
    ∙ ap (λ z. pos (setups_in m i p d) +ℤ z)
    (coefficient_append ss rs d ∙ ap (λ z. z +ℤ coefficient rs d) held ∙ ap (λ z. pos (stocks_in m weight i p d) +ℤ z) owed))

are_units : (i : ℕ) → AreOf 0 i (λ t. X i t)
are_units i = record { kinds = λ t. refl; items = λ t. refl; numbers = λ t. refl }

are_setups : (i : ℕ) → AreOf 1 i (λ t. Y i t)
are_setups i = record { kinds = λ t. refl; items = λ t. refl; numbers = λ t. refl }

are_stocks : (i : ℕ) → AreOf 2 i (λ t. S i t)
are_stocks i = record { kinds = λ t. refl; items = λ t. refl; numbers = λ t. refl }

are_backlogs : (i : ℕ) → AreOf 3 i (λ t. R i t)
are_backlogs i = record { kinds = λ t. refl; items = λ t. refl; numbers = λ t. refl }

-- columns of another kind
no_units : (m : Problem) (i : ℕ) (p : Potentials) (d : Column) → 0 ≢ kind_of d → units_in m i p d ≡ 0
unfolding units_in
no_units m i p d apart = no_kind m.periods 0 i (λ t. X i t) (entry p.unit.items) d (are_units i) apart

no_setups : (m : Problem) (i : ℕ) (p : Potentials) (d : Column) → 1 ≢ kind_of d → setups_in m i p d ≡ 0
unfolding setups_in
no_setups m i p d apart = no_kind m.periods 1 i (λ t. Y i t) (entry p.setup.items) d (are_setups i) apart

no_stocks : (m : Problem) (weight : ℕ → ℕ → ℕ) (i : ℕ) (p : Potentials) (d : Column) → 2 ≢ kind_of d → stocks_in m weight i p d ≡ 0
unfolding stocks_in
no_stocks m weight i p d apart = no_kind m.periods 2 i (λ t. S i t) (λ t. entry p.hold.items t * weight i i) d (are_stocks i) apart

no_backlogs : (m : Problem) (weight : ℕ → ℕ → ℕ) (i : ℕ) (p : Potentials) (d : Column) → 3 ≢ kind_of d → backlogs_in m weight i p d ≡ 0
unfolding backlogs_in
no_backlogs m weight i p d apart = no_kind m.periods 3 i (λ t. R i t) (λ t. entry p.back.items t * owed_times (echelon_at m weight i) i t) d (are_backlogs i) apart

-- columns of another item
no_other : (m : Problem) (weight : ℕ → ℕ → ℕ) (i : ℕ) (p : Potentials) (d : Column) → item_of d ≢ i → all_in m weight i p d ≡ 0
unfolding units_in setups_in stocks_in backlogs_in all_in
no_other m weight i p d apart =
    let T = m.periods in
    let x : units_in m i p d ≡ 0 = no_item T 0 i (λ t. X i t) (entry p.unit.items) d (are_units i) apart in
    let y : setups_in m i p d ≡ 0 = no_item T 1 i (λ t. Y i t) (entry p.setup.items) d (are_setups i) apart in
    let s : stocks_in m weight i p d ≡ 0 = no_item T 2 i (λ t. S i t) (λ t. entry p.hold.items t * weight i i) d (are_stocks i) apart in
    let r : backlogs_in m weight i p d ≡ 0 = no_item T 3 i (λ t. R i t) (λ t. entry p.back.items t * owed_times (echelon_at m weight i) i t) d (are_backlogs i) apart in
    no_parts _ _ _ _ x y s r

-- the item's own columns are taken no more often than one of them costs
few_units : (m : Problem) (weight : ℕ → ℕ → ℕ) (i : ℕ) (p : Potentials) → IsOwnCut m weight i p → (j t : ℕ) → j ≡ i → units_in m i p (X j t) ≤ unit_cost m j t
unfolding units_in
few_units m weight i p is j t same =
    let price : entry p.unit.items t ≡ unit_cost m i t = ap (λ list. entry list t) is.proves.unit in
    in_period m.periods 0 i (λ s. X i s) (entry p.unit.items) (X j t) (unit_cost m j t) (are_units i) (omega (arith, price, ap (λ k. unit_cost m k t) same))

few_setups : (m : Problem) (weight : ℕ → ℕ → ℕ) (i : ℕ) (p : Potentials) → IsOwnCut m weight i p → (j t : ℕ) → j ≡ i → setups_in m i p (Y j t) ≤ setup_cost m j t
unfolding setups_in
few_setups m weight i p is j t same =
    let price : entry p.setup.items t ≡ setup_cost m i t = ap (λ list. entry list t) is.proves.setup in
    in_period m.periods 1 i (λ s. Y i s) (entry p.setup.items) (Y j t) (setup_cost m j t) (are_setups i) (omega (arith, price, ap (λ k. setup_cost m k t) same))

few_stocks : (m : Problem) (weight : ℕ → ℕ → ℕ) (i : ℕ) (p : Potentials) → IsOwnCut m weight i p → (j t : ℕ) → j ≡ i → stocks_in m weight i p (S j t) ≤ hold_cost m j t
unfolding stocks_in
few_stocks m weight i p is j t same =
    let price : entry p.hold.items t ≡ hold_cost m i t = ap (λ list. entry list t) is.proves.hold in
    let once : entry p.hold.items t * weight i i ≡ entry p.hold.items t * 1 = ap (λ k. entry p.hold.items t * k) (counts_itself m weight i p is) in
    in_period m.periods 2 i (λ s. S i s) (λ s. entry p.hold.items s * weight i i) (S j t) (hold_cost m j t) (are_stocks i) (omega (arith, once, price, ap (λ k. hold_cost m k t) same))

few_backlogs : (m : Problem) (weight : ℕ → ℕ → ℕ) (i : ℕ) (p : Potentials) → IsOwnCut m weight i p → (j t : ℕ) → j ≡ i → backlogs_in m weight i p (R j t) ≤ backlog_cost m j t
unfolding backlogs_in
few_backlogs m weight i p is j t same =
    let price : entry p.back.items t * owed_times (echelon_at m weight i) i t ≤ backlog_cost m i t = own_back (nat_le 1 t) (nat_lt t m.periods) (item_at m i).backlog_cost p.back.items (weight i i) t (counts_itself m weight i p is) is.proves.back in
    in_period m.periods 3 i (λ s. R i s) (λ s. entry p.back.items s * owed_times (echelon_at m weight i) i s) (R j t) (backlog_cost m j t) (are_backlogs i) (omega (arith, price, ap (λ k. backlog_cost m k t) same))

own_few : (m : Problem) (weight : ℕ → ℕ → ℕ) (i : ℕ) (p : Potentials) → IsOwnCut m weight i p → (d : Column) → item_of d ≡ i → all_in m weight i p d ≤ column_cost m d
unfolding all_in
own_few m weight i p is (X j t) same =
    let d = X j t in
    omega (arith, few_units m weight i p is j t same, no_setups m i p d (λ e. omega (arith, e)), no_stocks m weight i p d (λ e. omega (arith, e)), no_backlogs m weight i p d (λ e. omega (arith, e)))
own_few m weight i p is (Y j t) same =
    let d = Y j t in
    omega (arith, few_setups m weight i p is j t same, no_units m i p d (λ e. omega (arith, e)), no_stocks m weight i p d (λ e. omega (arith, e)), no_backlogs m weight i p d (λ e. omega (arith, e)))
own_few m weight i p is (S j t) same =
    let d = S j t in
    omega (arith, few_stocks m weight i p is j t same, no_units m i p d (λ e. omega (arith, e)), no_setups m i p d (λ e. omega (arith, e)), no_backlogs m weight i p d (λ e. omega (arith, e)))
own_few m weight i p is (R j t) same =
    let d = R j t in
    omega (arith, few_backlogs m weight i p is j t same, no_units m i p d (λ e. omega (arith, e)), no_setups m i p d (λ e. omega (arith, e)), no_stocks m weight i p d (λ e. omega (arith, e)))

-- the row takes a column so many times: columns of the item alone, and no more often than one of it costs
pub record TakesOwn (m : Problem) (weight : ℕ → ℕ → ℕ) (i : ℕ) (p : Potentials) (d : Column) : Type 0 where
  pub times : ℕ
  pub is : coefficient (block_terms (echelon_at m weight i) p) d ≡ pos times
  pub cheap : times ≤ column_cost m d
  pub small : times ≤ MAX_AMOUNT
  pub own : item_of d ≢ i → times ≡ 0

pub takes_own : (m : Problem) (weight : ℕ → ℕ → ℕ) (i : ℕ) (p : Potentials) → IsWithinLimits m → IsOwnCut m weight i p → (d : Column) → TakesOwn m weight i p d
takes_own m weight i p within is d =
    let n = all_in m weight i p d in
    record {
      times = n;
      is = in_parts m weight i p is d;
      cheap = ⊎_elim (λ same. own_few m weight i p is d same) (λ apart. omega (arith, no_other m weight i p d apart)) (cases_eq (item_of d) i);
      small = ⊎_elim (λ same. omega (arith, own_few m weight i p is d same, cost_small m within d (omega (arith, same, is.low)) (omega (arith, same, is.high)))) (λ apart. omega (arith, no_other m weight i p d apart)) (cases_eq (item_of d) i);
      own = no_other m weight i p d;
    }

-- The numbers of the rows that the rules of plans make are small.
use Rattle.std.proofs.Common.{◌≡◌, ◌≤◌, ◌-◌, ⊎_elim, ℕ, zero, suc, refl, ap, arith, Bool, true, false, List, [], ◌∷◌, slice_index_or}
use Rattle.std.specs.Prelude.{◌==◌, if◌then◌else◌, unsigned_abs, Option, Some, None, ℤ, pos, negsuc, ◌-ℤ◌, neg_ℤ}
use Rattle.std.specs.List.{All}
use Rattle.std.proofs.lemmas.Bool.{cases_lt}
use Rattle.std.proofs.lemmas.List.Elements.{All-append}
use Rattle.std.proofs.lemmas.List.Sums.{sum_by-le}
use Rattle.std.proofs.Math.Nat.{min-le_left, mul-le-mul_right}
use Rattle.algebra.proofs.Order.{linear}
use Rattle.lot_sizing.specs.Problem.{IsSeries, IsWithinLimits, Problem, capacity, demand, item_at, item_count, per_unit, setup_time, unit_time}
use Rattle.lot_sizing.specs.declared.limits.TheConstants.{MAX_AMOUNT, MAX_END_STOCK, MAX_QUANTITY, MAX_TOTAL}
use Rattle.lin_rows.specs.declared.row.Term.{Term}
use Rattle.lin_rows.specs.declared.base.RowName.{RowName}
use Rattle.lin_rows.specs.declared.base.RowName.TheVariants.{Balance, Link, Capacity, EndMin, EndMax, Top, Least, Late, Path, Cut}
use Rattle.lin_rows.specs.declared.column.Column.TheVariants.{X, Y, S, R}
use Rattle.lin_rows.specs.Base.{HasRow, all_terms, arrives_now, earlier_terms, is_earlier, is_owing, made_terms, most_made, opening_at, owing_terms, right_side, setup_terms, stock_terms, term, terms_to, unit_terms, within_bound}
use Rattle.lin_rows.proofs.Terms.{all_both, all_none, all_one, all_to}

-- differences, and what is taken away
abs_taken : (n : ℕ) → unsigned_abs (neg_ℤ (pos n)) ≡ n
abs_taken zero = refl
abs_taken (suc n) = refl

more_left : (a b : ℕ) → b ≤ a → pos a -ℤ pos b ≡ pos (a - b)
more_left a b h = omega (arith, linear, h)

more_taken : (a b : ℕ) → a ≤ b → pos a -ℤ pos b ≡ neg_ℤ (pos (b - a))
more_taken a b h = omega (arith, linear, h)

abs_less : (a b most : ℕ) → a ≤ most → b ≤ most → unsigned_abs (pos a -ℤ pos b) ≤ most
abs_less a b most a_small b_small =
    ⊎_elim
    (λ less. omega (arith, ap unsigned_abs (more_taken a b (omega (arith, less))), abs_taken (b - a), b_small))
    (λ no. omega (arith, ap unsigned_abs (more_left a b (omega (arith, no))), a_small))
    (cases_lt a b)

abs_gone : (n most : ℕ) → n ≤ most → unsigned_abs (neg_ℤ (pos n)) ≤ most
abs_gone n most h = omega (arith, abs_taken n, h)

-- entries that are chosen are small where all are
chosen_small : (b : Bool) (q most : ℕ) → q ≤ most → (if b then q else 0) ≤ most
chosen_small true q most h = h
chosen_small false q most h = omega arith

per_unit_small : (m : Problem) (i j : ℕ) → IsWithinLimits m → 1 ≤ j → j ≤ item_count m → per_unit m i j ≤ MAX_TOTAL
per_unit_small m i j within low high =
    let needs = (within.each_item j low high).needs in
    omega (arith, sum_by-le (λ need. if need.item == i then need.quantity else 0) MAX_QUANTITY (item_at m j).needs (λ k d less. chosen_small _ _ MAX_QUANTITY (needs.quantities k d less).1), mul-le-mul_right MAX_QUANTITY needs.count)

unit_time_small : (m : Problem) (i k : ℕ) → IsWithinLimits m → 1 ≤ i → i ≤ item_count m → unit_time m i k ≤ MAX_TOTAL
unit_time_small m i k within low high =
    let uses = (within.each_item i low high).uses in
    omega (arith, sum_by-le (λ usage. if usage.resource == k then usage.unit else 0) MAX_AMOUNT (item_at m i).uses (λ n d less. chosen_small _ _ MAX_AMOUNT (uses.times n d less).0), mul-le-mul_right MAX_AMOUNT uses.count)

setup_time_small : (m : Problem) (i k : ℕ) → IsWithinLimits m → 1 ≤ i → i ≤ item_count m → setup_time m i k ≤ MAX_TOTAL
setup_time_small m i k within low high =
    let uses = (within.each_item i low high).uses in
    omega (arith, sum_by-le (λ usage. if usage.resource == k then usage.setup else 0) MAX_AMOUNT (item_at m i).uses (λ n d less. chosen_small _ _ MAX_AMOUNT (uses.times n d less).1), mul-le-mul_right MAX_AMOUNT uses.count)

abbrev Small : Term → Type 0
Small a = unsigned_abs a.times ≤ MAX_TOTAL

stock_small : (i t : ℕ) (times : ℤ) → unsigned_abs times ≤ MAX_TOTAL → All Small (stock_terms i t times)
stock_small i zero times h = all_none Small
stock_small i (suc t) times h = all_one Small (term (S i (suc t)) times) h

owing_small : (b : Bool) (i t : ℕ) (times : ℤ) → unsigned_abs times ≤ MAX_TOTAL → All Small (if b then term (R i t) times ∷ [] else [])
owing_small true i t times h = all_one Small (term (R i t) times) h
owing_small false i t times h = all_none Small

one_small : 1 ≤ MAX_TOTAL
one_small = omega arith

earlier_small : (b c : Bool) (i t : ℕ) → All Small (if b then (if c then term (X i t) (pos 1) ∷ [] else []) else [])
earlier_small true true i t = all_one Small (term (X i t) (pos 1)) one_small
earlier_small true false i t = all_none Small
earlier_small false c i t = all_none Small

arrives_small : (b c : Bool) → (if b then (if c then 1 else 0) else 0) ≤ MAX_TOTAL
arrives_small true true = omega arith
arrives_small true false = omega arith
arrives_small false c = omega arith

made_small : (m : Problem) (i t k : ℕ) → IsWithinLimits m → 1 ≤ k → k ≤ item_count m → All Small (made_terms m i t k)
made_small m i t k within low high =
    All-append Small (if i == k then earlier_terms m i t else []) _ (earlier_small (i == k) (is_earlier m i t) i (t - (item_at m i).lead))
    (all_one Small (term (X k t) (pos (arrives_now m i k) -ℤ pos (per_unit m i k))) (abs_less (arrives_now m i k) (per_unit m i k) MAX_TOTAL (arrives_small ((item_at m i).lead == 0) (i == k)) (per_unit_small m i k within low high)))

bound_small : (n most : ℕ) (bound : Option ℕ) → n ≤ most → within_bound n bound ≤ most
bound_small n most None h = h
bound_small n most (Some b) h = omega (arith, min-le_left n b, h)

-- no multiple of a column is past the largest total
pub base_small : (m : Problem) (total : ℕ → ℕ) (name : RowName) → IsWithinLimits m → ((i : ℕ) → 1 ≤ i → i ≤ item_count m → total i ≤ MAX_TOTAL) → HasRow m name → All Small (all_terms m total name)
base_small m total (Balance i t) within totals h =
    All-append Small (terms_to (item_count m) (made_terms m i t)) _ (all_to Small (item_count m) (made_terms m i t) (λ k low high. made_small m i t k within low high))
    (All-append Small (stock_terms i (t - 1) (pos 1)) _ (stock_small i (t - 1) (pos 1) one_small)
    (All-append Small (stock_terms i t (negsuc 0)) _ (stock_small i t (negsuc 0) one_small)
    (All-append Small (owing_terms m i (t - 1) (negsuc 0)) _ (owing_small (is_owing m i (t - 1)) i (t - 1) (negsuc 0) one_small) (owing_small (is_owing m i t) i t (pos 1) one_small))))
base_small m total (Link i t) within totals h = all_both Small (term (X i t) (negsuc 0)) (term (Y i t) (pos (most_made m total i))) one_small (bound_small (total i) MAX_TOTAL (item_at m i).max_lot (totals i h.0 h.1))
base_small m total (Capacity k t) within totals h =
    All-append Small (terms_to (item_count m) (unit_terms m k t)) (terms_to (item_count m) (setup_terms m k t))
    (all_to Small (item_count m) (unit_terms m k t) (λ i low high. all_one Small (term (X i t) (neg_ℤ (pos (unit_time m i k)))) (abs_gone (unit_time m i k) MAX_TOTAL (unit_time_small m i k within low high))))
    (all_to Small (item_count m) (setup_terms m k t) (λ i low high. all_one Small (term (Y i t) (neg_ℤ (pos (setup_time m i k)))) (abs_gone (setup_time m i k) MAX_TOTAL (setup_time_small m i k within low high))))
base_small m total (EndMin i) within totals h = all_one Small (term (S i m.periods) (pos 1)) one_small
base_small m total (EndMax i) within totals h = all_one Small (term (S i m.periods) (negsuc 0)) one_small
base_small m total (Top i t) within totals h = all_one Small (term (Y i t) (negsuc 0)) one_small
base_small m total (Least i t) within totals h =
    let least : (item_at m i).min_lot ≤ MAX_TOTAL = omega (arith, (within.each_item i h.0.0 h.0.1).min_lot) in
    all_both Small (term (X i t) (pos 1)) (term (Y i t) (neg_ℤ (pos (item_at m i).min_lot))) one_small (abs_gone (item_at m i).min_lot MAX_TOTAL least)
base_small m total (Late i t) within totals h = all_one Small (term (X i t) (negsuc 0)) one_small
base_small m total (Path n) within totals h = absurd h
base_small m total (Cut n) within totals h = absurd h

-- an entry of a series
entry_small : (periods most t : ℕ) (xs : List ℕ) → IsSeries periods most xs → 1 ≤ t → t ≤ periods → slice_index_or xs (t - 1) 0 ≤ most
entry_small periods most t xs series low high = series.small (t - 1) 0 (omega (arith, series.size, low, high))

opening_small : (m : Problem) (i t : ℕ) → (item_at m i).opening ≤ MAX_END_STOCK → opening_at m i t ≤ MAX_END_STOCK
opening_small m i zero h = h
opening_small m i (suc t) h = omega arith

-- and no right side is past the largest end stock
pub right_small : (m : Problem) (name : RowName) → IsWithinLimits m → HasRow m name → unsigned_abs (right_side m name) ≤ MAX_END_STOCK
right_small m (Balance i t) within h =
    let item = within.each_item i h.0 h.1 in
    let d : demand m i t ≤ MAX_END_STOCK = omega (arith, entry_small m.periods MAX_AMOUNT t (item_at m i).demand item.lists.demand h.2 h.3) in
    abs_less (demand m i t) (opening_at m i (t - 1)) MAX_END_STOCK d (opening_small m i (t - 1) (omega (arith, item.opening)))
right_small m (Link i t) within h = omega arith
right_small m (Capacity k t) within h =
    let c : capacity m k t ≤ MAX_END_STOCK = omega (arith, entry_small m.periods MAX_AMOUNT t _ (within.each_resource k h.0 h.1).capacity h.2 h.3) in
    abs_gone (capacity m k t) MAX_END_STOCK c
right_small m (EndMin i) within h = omega (arith, (within.each_item i h.0 h.1).end_min)
right_small m (EndMax i) within h = abs_gone (item_at m i).end_max MAX_END_STOCK (within.each_item i h.0 h.1).end_max
right_small m (Top i t) within h = omega arith
right_small m (Least i t) within h = omega arith
right_small m (Late i t) within h = omega arith
right_small m (Path n) within h = absurd h
right_small m (Cut n) within h = absurd h

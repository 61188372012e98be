-- Every bill has ranks or a first item on a cycle, and with ranks each item within the bound or a first one past it.
use Rattle.std.proofs.Common.{◌≡◌, ◌≤◌, ◌<◌, ◌+◌, ◌-◌, ◌∙◌, ◌⊎◌, ⊎_elim, inl, inr, ℕ, zero, suc, refl, sym, ap, subst, arith, List, [], ◌∷◌, ◌++◌, length, Bool, true, false, slice_index_or}
use Rattle.std.specs.Prelude.{◌↔◌}
use Rattle.std.proofs.lemmas.Bool.{cases_eq, cases_lt}
use Rattle.std.proofs.lemmas.List.{get_or_append_left, get_or_push, length_push}
use Rattle.lot_sizing.specs.declared.limits.TheConstants.{MAX_TOTAL}
use Rattle.lot_sizing.specs.Bill.{Bill, GoesInto, GoesIntoOver, HasRanks}
use Rattle.bill.specs.Over.{IsBelow, IsClear, IsFirstOver, KeepsBound}
use Rattle.bill.specs.Sets.{AreComponents, HasNoCycle, IsFirstOnCycle, has, missing}
use Rattle.bill.proofs.Paths.{fewer_others}

-- a path from one item to another over the first m items alone (Warshall 1962)
abbrev Through : Bill → ℕ → ℕ → ℕ → Type 0
Through b zero i j = 0 < b.units i j
Through b (suc m) i j = Through b m i j ⊎ (Through b m i (suc m) × Through b m (suc m) j)

joined : (b : Bill) (n i k j : ℕ) → GoesIntoOver b n i k → 1 ≤ k → k ≤ b.items → GoesInto b k j → GoesInto b i j
joined b zero i k j one low high rest = (suc rest.0, (k, low, high, one, rest.1))
joined b (suc n) i k j (x, x_low, x_high, some, more) low high rest =
    let later = joined b n x k j more low high rest in
    (suc later.0, (x, x_low, x_high, some, later.1))

is_path : (b : Bill) (m i j : ℕ) → m ≤ b.items → Through b m i j → GoesInto b i j
is_path b zero i j high one = (zero, one)
is_path b (suc m) i j high (inl short) = is_path b m i j (omega (arith, high)) short
is_path b (suc m) i j high (inr (one, other)) =
    let first = is_path b m i (suc m) (omega (arith, high)) one in
    joined b first.0 i (suc m) j first.1 (omega arith) high (is_path b m (suc m) j (omega (arith, high)) other)

wider : (b : Bill) (m i j : ℕ) → 0 < b.units i j → Through b m i j
wider b zero i j some = some
wider b (suc m) i j some = inl (wider b m i j some)

into_last : (b : Bill) (m i : ℕ) → Through b (suc m) i (suc m) → Through b m i (suc m)
into_last b m i path = ⊎_elim (λ short. short) (λ both. both.0) path

from_last : (b : Bill) (m j : ℕ) → Through b (suc m) (suc m) j → Through b m (suc m) j
from_last b m j path = ⊎_elim (λ short. short) (λ both. both.1) path

meet : (b : Bill) (m k i j : ℕ) → 1 ≤ k → k ≤ m → Through b m i k → Through b m k j → Through b m i j
meet b zero k i j low high one other = absurd (omega (arith, low, high))
meet b (suc m) k i j low high one other =
    ⊎_elim
    (λ same. inr (into_last b m i (subst (Through b (suc m) i) same one), from_last b m j (subst (λ x. Through b (suc m) x j) same other)))
    (λ apart.
    let less : k ≤ m = omega (arith, high, apart) in
    ⊎_elim
    (λ a. ⊎_elim
    (λ c. inl (meet b m k i j low less a c))
    (λ d. inr (meet b m k i (suc m) low less a d.0, d.1))
    other)
    (λ both. ⊎_elim
    (λ c. inr (both.0, meet b m k (suc m) j low less both.1 c))
    (λ d. inr (both.0, d.1))
    other)
    one)
    (cases_eq k (suc m))

is_through : (b : Bill) (n i j : ℕ) → GoesIntoOver b n i j → Through b b.items i j
is_through b zero i j some = wider b b.items i j some
is_through b (suc n) i j (k, low, high, some, rest) = meet b b.items k i j low high (wider b b.items i k some) (is_through b n k j rest)

through_or_not : (b : Bill) (m i j : ℕ) → Through b m i j ⊎ (Through b m i j → ⊥)
through_or_not b zero i j = ⊎_elim (λ some. inl some) (λ none. inr (λ some. omega (arith, none, some))) (cases_lt 0 (b.units i j))
through_or_not b (suc m) i j =
    ⊎_elim
    (λ short. inl (inl short))
    (λ no. ⊎_elim
    (λ one. ⊎_elim
    (λ other. inl (inr (one, other)))
    (λ no_other. inr (λ path. ⊎_elim no (λ both. no_other both.1) path))
    (through_or_not b m (suc m) j))
    (λ no_one. inr (λ path. ⊎_elim no (λ both. no_one both.0) path))
    (through_or_not b m i (suc m)))
    (through_or_not b m i j)

-- whether an item goes into another
goes_or_not : (b : Bill) (i j : ℕ) → GoesInto b i j ⊎ (GoesInto b i j → ⊥)
goes_or_not b i j = ⊎_elim (λ path. inl (is_path b b.items i j (omega arith) path)) (λ no. inr (λ goes. no (is_through b goes.0 i j goes.1))) (through_or_not b b.items i j)

-- the first item on a cycle, of the first n
cycle_or_not : (b : Bill) (n : ℕ) → n ≤ b.items → ((j : ℕ) → 1 ≤ j → j ≤ n → GoesInto b j j → ⊥) ⊎ ((i : ℕ) × IsFirstOnCycle b i)
cycle_or_not b zero high = inl (λ j low few. absurd (omega (arith, low, few)))
cycle_or_not b (suc n) high =
    ⊎_elim
    (λ none. ⊎_elim
    (λ goes. inr (suc n, record { low = omega arith; high = high; cycle = goes; first = λ j low less. none j low (omega (arith, less)) }))
    (λ no. inl (λ j low few. ⊎_elim
    (λ same. subst (λ k. GoesInto b k k → ⊥) (sym same) no)
    (λ apart. none j low (omega (arith, few, apart)))
    (cases_eq j (suc n))))
    (goes_or_not b (suc n) (suc n)))
    (λ found. inr found)
    (cycle_or_not b n (omega (arith, high)))

-- the set of the first n items that go into an item
pub record AreFirst (b : Bill) (j n : ℕ) (set : List Bool) : Type 0 where
  pub size : length set ≡ n
  pub each : (i : ℕ) → 1 ≤ i → i ≤ n → (has set i ≡ true) ↔ GoesInto b i j

pushed : (b : Bill) (j n : ℕ) (set : List Bool) (x : Bool) → AreFirst b j n set → ((x ≡ true) ↔ GoesInto b (suc n) j) → AreFirst b j (suc n) (set ++ x ∷ [])
pushed b j n set x are is = record {
  size = omega (arith, length_push set x, are.size);
  each = λ i low high. ⊎_elim
      (λ same.
      let here : has (set ++ x ∷ []) i ≡ x = get_or_push set x false (i - 1) (omega (arith, same, are.size)) in
      subst (λ k. (has (set ++ x ∷ []) i ≡ true) ↔ GoesInto b k j) (sym same) (subst (λ y. (y ≡ true) ↔ GoesInto b (suc n) j) (sym here) is))
      (λ apart.
      let kept : has (set ++ x ∷ []) i ≡ has set i = get_or_append_left set (x ∷ []) false (i - 1) (omega (arith, low, high, apart, are.size)) in
      subst (λ y. (y ≡ true) ↔ GoesInto b i j) (sym kept) (are.each i low (omega (arith, high, apart))))
      (cases_eq i (suc n));
}

first_set : (b : Bill) (j n : ℕ) → (set : List Bool) × AreFirst b j n set
first_set b j zero = ([], record { size = refl; each = λ i low high. absurd (omega (arith, low, high)) })
first_set b j (suc n) =
    let before = first_set b j n in
    ⊎_elim
    (λ goes. (before.0 ++ true ∷ [], pushed b j n before.0 true before.1 (λ _. goes, λ _. refl)))
    (λ no. (before.0 ++ false ∷ [], pushed b j n before.0 false before.1 (λ e. cc e, λ goes. absurd (no goes))))
    (goes_or_not b (suc n) j)

components : (b : Bill) (j : ℕ) → AreComponents b j (first_set b j b.items).0
components b j =
    let found = first_set b j b.items in
    record { size = found.1.size; each = found.1.each }

has_ranks : (b : Bill) → HasNoCycle b → HasRanks b (λ i. missing (first_set b i b.items).0)
has_ranks b none i j low high j_low j_high some = fewer_others b i j (first_set b j b.items).0 (first_set b i b.items).0 (components b j) (components b i) (none i low high) low high some

pub ranks_or_cycle : (b : Bill) → ((rank : ℕ → ℕ) × HasRanks b rank) ⊎ ((i : ℕ) × IsFirstOnCycle b i)
ranks_or_cycle b = ⊎_elim (λ none. inl (λ i. missing (first_set b i b.items).0, has_ranks b none)) (λ found. inr found) (cycle_or_not b b.items (omega arith))

-- whether the numbers of an item are within the bound
weights_or_not : (b : Bill) (weight : ℕ → ℕ → ℕ) (i n : ℕ) → ((k : ℕ) → 1 ≤ k → k ≤ n → weight i k ≤ MAX_TOTAL) ⊎ ((k : ℕ) × (1 ≤ k) × (k ≤ n) × (MAX_TOTAL < weight i k))
weights_or_not b weight i zero = inl (λ k low high. absurd (omega (arith, low, high)))
weights_or_not b weight i (suc n) =
    ⊎_elim
    (λ each. ⊎_elim
    (λ past. inr (suc n, omega arith, omega arith, past))
    (λ small. inl (λ k low high. ⊎_elim
    (λ same. omega (arith, ap (weight i) same, small))
    (λ apart. each k low (omega (arith, high, apart)))
    (cases_eq k (suc n))))
    (cases_lt MAX_TOTAL (weight i (suc n))))
    (λ past. inr (past.0, past.1, omega (arith, past.2), past.3))
    (weights_or_not b weight i n)

within_or_not : (b : Bill) (total : ℕ → ℕ) (weight : ℕ → ℕ → ℕ) (i : ℕ) → KeepsBound b total weight i ⊎ (KeepsBound b total weight i → ⊥)
within_or_not b total weight i =
    ⊎_elim
    (λ past. inr (λ within. omega (arith, past, within.in_all)))
    (λ small. ⊎_elim
    (λ each. inl (record { in_all = omega (arith, small); each = each }))
    (λ past. inr (λ within. omega (arith, past.3, within.each past.0 past.1 past.2)))
    (weights_or_not b weight i b.items))
    (cases_lt MAX_TOTAL (total i))

-- the items that an item goes into over one line are within the bound, and all that they go into
abbrev AreUsersClear : Bill → (ℕ → ℕ) → (ℕ → ℕ → ℕ) → ℕ → ℕ → Type 0
AreUsersClear b total weight i n = (k : ℕ) → 1 ≤ k → k ≤ n → 0 < b.units i k → KeepsBound b total weight k × IsClear b total weight k

clear_of : (b : Bill) (total : ℕ → ℕ) (weight : ℕ → ℕ → ℕ) (i : ℕ) → AreUsersClear b total weight i b.items → IsClear b total weight i
clear_of b total weight i users k low high (zero, goes) = (users k low high goes).0
clear_of b total weight i users k low high (suc n, (j, j_low, j_high, some, rest)) = (users j j_low j_high some).1 k low high (n, rest)

below_more : (b : Bill) (total : ℕ → ℕ) (weight : ℕ → ℕ → ℕ) (i j : ℕ) → 1 ≤ j → j ≤ b.items → 0 < b.units i j → IsBelow b total weight j → IsBelow b total weight i
below_more b total weight i j low high some below = (below.0, below.1, below.2, (suc below.3.0, (j, low, high, some, below.3.1)), below.4)

users_or_below : (b : Bill) (total : ℕ → ℕ) (weight : ℕ → ℕ → ℕ) (i n : ℕ) → n ≤ b.items → ((j : ℕ) → 1 ≤ j → j ≤ b.items → 0 < b.units i j → IsBelow b total weight j ⊎ IsClear b total weight j) → AreUsersClear b total weight i n ⊎ IsBelow b total weight i
users_or_below b total weight i zero high each = inl (λ k low few some. absurd (omega (arith, low, few)))
users_or_below b total weight i (suc n) high each =
    ⊎_elim
    (λ before. ⊎_elim
    (λ some. ⊎_elim
    (λ below. inr (below_more b total weight i (suc n) (omega arith) high some below))
    (λ clear. ⊎_elim
    (λ within. inl (λ k low few more. ⊎_elim
    (λ same. subst (λ x. KeepsBound b total weight x × IsClear b total weight x) (sym same) (within, clear))
    (λ apart. before k low (omega (arith, few, apart)) more)
    (cases_eq k (suc n))))
    (λ past. inr (suc n, omega arith, high, (zero, some), past))
    (within_or_not b total weight (suc n)))
    (each (suc n) (omega arith) high some))
    (λ none. inl (λ k low few more. ⊎_elim
    (λ same. absurd (omega (arith, ap (b.units i) same, more, none)))
    (λ apart. before k low (omega (arith, few, apart)) more)
    (cases_eq k (suc n))))
    (cases_lt 0 (b.units i (suc n))))
    (λ below. inr below)
    (users_or_below b total weight i n (omega (arith, high)) each)

below_or_clear : (b : Bill) (total : ℕ → ℕ) (weight : ℕ → ℕ → ℕ) (rank : ℕ → ℕ) → HasRanks b rank → (n i : ℕ) → 1 ≤ i → i ≤ b.items → rank i < n → IsBelow b total weight i ⊎ IsClear b total weight i
below_or_clear b total weight rank ranks zero i low high few = absurd (omega (arith, few))
below_or_clear b total weight rank ranks (suc n) i low high few =
    ⊎_elim
    (λ users. inr (clear_of b total weight i users))
    (λ below. inl below)
    (users_or_below b total weight i b.items (omega arith) (λ j j_low j_high some. below_or_clear b total weight rank ranks n j j_low j_high (omega (arith, few, ranks i j low high j_low j_high some))))

-- the first item past the bound, of the first n
over_or_not : (b : Bill) (total : ℕ → ℕ) (weight : ℕ → ℕ → ℕ) (rank : ℕ → ℕ) → HasRanks b rank → (n : ℕ) → n ≤ b.items → ((j : ℕ) → 1 ≤ j → j ≤ n → KeepsBound b total weight j ⊎ IsBelow b total weight j) ⊎ ((i : ℕ) × IsFirstOver b total weight i)
over_or_not b total weight rank ranks zero high = inl (λ j low few. absurd (omega (arith, low, few)))
over_or_not b total weight rank ranks (suc n) high =
    ⊎_elim
    (λ before.
    let more : KeepsBound b total weight (suc n) ⊎ IsBelow b total weight (suc n) → (j : ℕ) → 1 ≤ j → j ≤ suc n → KeepsBound b total weight j ⊎ IsBelow b total weight j = λ here j low few. ⊎_elim
    (λ same. subst (λ k. KeepsBound b total weight k ⊎ IsBelow b total weight k) (sym same) here)
    (λ apart. before j low (omega (arith, few, apart)))
    (cases_eq j (suc n)) in
    ⊎_elim
    (λ within. inl (more (inl within)))
    (λ past. ⊎_elim
    (λ below. inl (more (inr below)))
    (λ clear. inr (suc n, record { low = omega arith; high = high; over = past; above = clear; first = λ j low less. before j low (omega (arith, less)) }))
    (below_or_clear b total weight rank ranks (suc (rank (suc n))) (suc n) (omega arith) high (omega arith)))
    (within_or_not b total weight (suc n)))
    (λ found. inr found)
    (over_or_not b total weight rank ranks n (omega (arith, high)))

-- an item that goes into another over some lines has a higher rank
higher : (b : Bill) (rank : ℕ → ℕ) → HasRanks b rank → (n i j : ℕ) → 1 ≤ i → i ≤ b.items → 1 ≤ j → j ≤ b.items → GoesIntoOver b n i j → rank j < rank i
higher b rank ranks zero i j i_low i_high j_low j_high over = ranks i j i_low i_high j_low j_high over
higher b rank ranks (suc n) i j i_low i_high j_low j_high (k, low, high, one, rest) =
    omega (arith, ranks i k i_low i_high low high one, higher b rank ranks n k j low high j_low j_high rest)

none_over : (b : Bill) (total : ℕ → ℕ) (weight : ℕ → ℕ → ℕ) (rank : ℕ → ℕ) → HasRanks b rank → ((j : ℕ) → 1 ≤ j → j ≤ b.items → KeepsBound b total weight j ⊎ IsBelow b total weight j) → (n i : ℕ) → 1 ≤ i → i ≤ b.items → rank i < n → KeepsBound b total weight i
none_over b total weight rank ranks each zero i low high few = absurd (omega (arith, few))
none_over b total weight rank ranks each (suc n) i low high few =
    ⊎_elim
    (λ within. within)
    (λ below. absurd (below.4 (none_over b total weight rank ranks each n below.0 below.1 below.2 (omega (arith, few, higher b rank ranks below.3.0 i below.0 low high below.1 below.2 below.3.1)))))
    (each i low high)

pub within_or_over : (b : Bill) (total : ℕ → ℕ) (weight : ℕ → ℕ → ℕ) (rank : ℕ → ℕ) → HasRanks b rank → ((i : ℕ) → 1 ≤ i → i ≤ b.items → KeepsBound b total weight i) ⊎ ((i : ℕ) × IsFirstOver b total weight i)
within_or_over b total weight rank ranks =
    ⊎_elim
    (λ each. inl (λ i low high. none_over b total weight rank ranks each (suc (rank i)) i low high (omega arith)))
    (λ found. inr found)
    (over_or_not b total weight rank ranks b.items (omega arith))

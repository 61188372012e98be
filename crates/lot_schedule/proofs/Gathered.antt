-- The lots of a resource in a period, gathered item by item and then sorted.
use Rattle.std.proofs.Common.{◌≡◌, ◌≤◌, ◌<◌, ◌+◌, ◌-◌, ◌∙◌, ◌⊎◌, ⊎_elim, inl, inr, ℕ, zero, suc, false, List, [], ◌∷◌, ◌++◌, length, slice_index_or, sym, ap, subst, arith, refl}
use Rattle.std.specs.Prelude.{◌==◌, if◌then◌else◌}
use Rattle.std.specs.List.Sorted.{IsNonDecreasingBy, IsPermutation, IsSortedByKey, IsStableByKey}
use Rattle.std.specs.Ordering.{is_lt, nat_cmp}
use Rattle.std.proofs.lemmas.Bool.{cases_lt, le-ltb, ne_eqb}
use Rattle.std.proofs.lemmas.List.{get_or_append_left, get_or_default, get_or_push, length_push}
use Rattle.std.proofs.lemmas.List.Elements.{All-from_get_or, All-get_or}
use Rattle.std.proofs.lemmas.List.Sorted.{All-permutation, sum_by-IsPermutation, ties_still_rise}
use Rattle.std.proofs.lemmas.List.Sums.{sum_by_push}
use Rattle.lot_sizing.specs.Problem.{Problem, item_count}
use Rattle.lot_sizing.specs.Plan.{Plan}
use Rattle.lot_sizing.proofs.Sums.{sum_to_more}
use Rattle.lot_schedule.specs.Slots.{length_of}
use Rattle.lot_schedule.specs.Lots.{AreLots, AreLotsOf, AreLotsTo, IsLotTo, lot_at, no_lot, of_lot}
use Rattle.lot_schedule.specs.declared.lots.Lot.{Lot}
use Rattle.lot_schedule.proofs.Terms.{term_here, two_within}
use Rattle.lot_schedule.proofs.Laid.{of_lot_is, once_there}

-- ---- item by item
wider : (m : Problem) (p : Plan) (k t last next : ℕ) (lot : Lot) → last ≤ next → IsLotTo m p k t last lot → IsLotTo m p k t next lot
wider m p k t last next lot up is = record { low = is.low; high = omega (arith, is.high, up); length = is.length; takes = is.takes }

pub none_gathered : (m : Problem) (p : Plan) (k t : ℕ) → AreLotsTo m p k t (1 - 1) []
none_gathered m p k t = record { lots = record { each = λ n less. absurd (omega (arith, less)); sums = λ f. refl }; rising = λ n o less there. absurd (omega (arith, there)) }

-- an item without a lot
pub passed_over : (m : Problem) (p : Plan) (k t i : ℕ) (ls : List Lot) → AreLotsTo m p k t (i - 1) ls → 1 ≤ i → length_of m p k t i ≡ 0 → AreLotsTo m p k t (i + 1 - 1) ls
passed_over m p k t i ls so_far low none = record {
  lots = record {
    each = λ n less. wider m p k t (i - 1) (i + 1 - 1) (lot_at ls n) (omega arith) (so_far.lots.each n less);
    sums = λ f.
        let here : of_lot m p k t f i ≡ 0 = of_lot_is m p k t f i 0 (λ takes. absurd (omega (arith, takes, none))) (λ e. refl) in
        omega (arith, so_far.lots.sums f, sum_to_more i (of_lot m p k t f) low, here);
  };
  rising = so_far.rising;
}

-- an item with one
gathered_at : (m : Problem) (p : Plan) (k t i : ℕ) (ls : List Lot) (lot : Lot) → AreLotsTo m p k t (i - 1) ls → 1 ≤ i → lot.item ≡ i → lot.length ≡ length_of m p k t i → 0 < lot.length → (n : ℕ) → n < length (ls ++ lot ∷ []) → IsLotTo m p k t (i + 1 - 1) (lot_at (ls ++ lot ∷ []) n)
gathered_at m p k t i ls lot so_far low item size takes n less =
    ⊎_elim
    (λ left. subst (IsLotTo m p k t (i + 1 - 1)) (sym (get_or_append_left ls (lot ∷ []) no_lot n left)) (wider m p k t (i - 1) (i + 1 - 1) (lot_at ls n) (omega arith) (so_far.lots.each n left)))
    (λ right.
    let e : length ls ≡ n = omega (arith, less, right, length_push ls lot) in
    subst (IsLotTo m p k t (i + 1 - 1)) (sym (get_or_push ls lot no_lot n e)) (record { low = omega (arith, item, low); high = omega (arith, item); length = size ∙ ap (length_of m p k t) (sym item); takes = takes }))
    (cases_lt n (length ls))

gathered_rising : (m : Problem) (p : Plan) (k t i : ℕ) (ls : List Lot) (lot : Lot) → AreLotsTo m p k t (i - 1) ls → 1 ≤ i → lot.item ≡ i → (n o : ℕ) → n < o → o < length (ls ++ lot ∷ []) → (lot_at (ls ++ lot ∷ []) n).item < (lot_at (ls ++ lot ∷ []) o).item
gathered_rising m p k t i ls lot so_far low item n o less there =
    let n_left : n < length ls = omega (arith, less, there, length_push ls lot) in
    let n_is = ap (λ (a : Lot). a.item) (get_or_append_left ls (lot ∷ []) no_lot n n_left) in
    ⊎_elim
    (λ left. omega (arith, n_is, ap (λ (a : Lot). a.item) (get_or_append_left ls (lot ∷ []) no_lot o left), so_far.rising n o less left))
    (λ right.
    let e : length ls ≡ o = omega (arith, there, right, length_push ls lot) in
    omega (arith, n_is, ap (λ (a : Lot). a.item) (get_or_push ls lot no_lot o e), item, low, (so_far.lots.each n n_left).high))
    (cases_lt o (length ls))

pub gathered : (m : Problem) (p : Plan) (k t i : ℕ) (ls : List Lot) (length : ℕ) → AreLotsTo m p k t (i - 1) ls → 1 ≤ i → length ≡ length_of m p k t i → 0 < length → AreLotsTo m p k t (i + 1 - 1) (ls ++ record { item = i; length = length } ∷ [])
gathered m p k t i ls size so_far low is takes =
    let lot : Lot = record { item = i; length = size } in
    record {
      lots = record {
        each = gathered_at m p k t i ls lot so_far low refl is takes;
        sums = λ f.
            let here : of_lot m p k t f i ≡ f lot = of_lot_is m p k t f i (f lot) (λ some. ap (λ (n : ℕ). f (record { item = i; length = n })) (sym is)) (λ none. absurd (omega (arith, none, is, takes))) in
            omega (arith, sum_by_push f ls lot, so_far.lots.sums f, sum_to_more i (of_lot m p k t f) low, here);
      };
      rising = gathered_rising m p k t i ls lot so_far low refl;
    }

-- ---- sorted
sorted_each : (m : Problem) (p : Plan) (k t last : ℕ) (ls ys : List Lot) → AreLots m p k t last ls → IsPermutation ls ys → AreLots m p k t last ys
sorted_each m p k t last ls ys lots moved = record {
  each = λ n less. All-get_or (IsLotTo m p k t last) ys n no_lot less (All-permutation (IsLotTo m p k t last) ls ys moved (All-from_get_or (IsLotTo m p k t last) ls no_lot lots.each));
  sums = λ f. sum_by-IsPermutation f ls ys moved ∙ lots.sums f;
}

-- two lots are of two items
two_items : (m : Problem) (p : Plan) (k t last : ℕ) (ls : List Lot) → AreLots m p k t last ls → (n o : ℕ) → n < o → o < length ls → (lot_at ls n).item ≡ (lot_at ls o).item → ⊥
two_items m p k t last ls lots n o less there same =
    let i = (lot_at ls n).item in
    let is = lots.each n (omega (arith, less, there)) in
    omega (arith, once_there m p k t last ls lots i is.low is.high (omega (arith, is.length, is.takes)), two_within (λ (a : Lot). if i == a.item then 1 else 0) no_lot ls n o less there, term_here i i 1 refl, term_here i (lot_at ls o).item 1 same)

above : (x y : ℕ) → x < y → is_lt (nat_cmp y x) ≡ false
above x y less =
    let one = le-ltb y x (omega (arith, less)) in
    let two = ne_eqb y x (λ e. omega (arith, e, less)) in
    rw (one, two) refl

by_item : (ls : List Lot) → ((n o : ℕ) → n < o → o < length ls → (lot_at ls n).item < (lot_at ls o).item) → IsSortedByKey (λ (a : Lot). a.item) nat_cmp ls
by_item ls rising k d low high =
    let here = ap (λ (a : Lot). a.item) (get_or_default ls k d no_lot (omega (arith, high))) in
    let next = ap (λ (a : Lot). a.item) (get_or_default ls (k + 1) d no_lot high) in
    above (slice_index_or ls k d).item (slice_index_or ls (k + 1) d).item (omega (arith, here, next, rising k (k + 1) (omega arith) high))

-- no later lot is shorter, and of equal ones the later is of no lesser item
abbrev IsNoLonger : Lot → Lot → Type 0
IsNoLonger a b = (a.length < b.length) ⊎ ((a.length ≡ b.length) × (a.item ≤ b.item))

joined : (a b c : Lot) → IsNoLonger a b → IsNoLonger b c → IsNoLonger a c
joined a b c x y =
    ⊎_elim
    (λ less. ⊎_elim (λ more. inl (omega (arith, less, more))) (λ same. inl (omega (arith, less, same.0))) y)
    (λ same. ⊎_elim (λ more. inl (omega (arith, same.0, more))) (λ also. inr (omega (arith, same.0, also.0), omega (arith, same.1, also.1))) y)
    x

far : (ys : List Lot) → ((n : ℕ) → n + 1 < length ys → IsNoLonger (lot_at ys n) (lot_at ys (n + 1))) → (d n : ℕ) → n + suc d < length ys → IsNoLonger (lot_at ys n) (lot_at ys (n + suc d))
far ys next zero n there = let e : n + 1 ≡ n + suc zero = omega arith in subst (λ o. IsNoLonger (lot_at ys n) (lot_at ys o)) e (next n (omega (arith, there)))
far ys next (suc d) n there =
    let e : n + suc d + 1 ≡ n + suc (suc d) = omega arith in
    joined (lot_at ys n) (lot_at ys (n + suc d)) (lot_at ys (n + suc (suc d))) (far ys next d n (omega (arith, there))) (subst (λ o. IsNoLonger (lot_at ys (n + suc d)) (lot_at ys o)) e (next (n + suc d) (omega (arith, there, e))))

neighbours : (ls ys : List Lot) → IsSortedByKey (λ (a : Lot). a.item) nat_cmp ls → IsNonDecreasingBy (λ (a : Lot). a.length) ys → IsStableByKey (λ (a : Lot). a.length) nat_cmp ls ys → (n : ℕ) → n + 1 < length ys → IsNoLonger (lot_at ys n) (lot_at ys (n + 1))
neighbours ls ys items lengths stable n there =
    ⊎_elim
    (λ less. inl less)
    (λ no.
    let same : (lot_at ys n).length ≡ (lot_at ys (n + 1)).length = omega (arith, no, lengths n (n + 1) no_lot (omega arith) there) in
    inr (same, ties_still_rise (λ (a : Lot). a.item) (λ (a : Lot). a.length) ls ys items stable n no_lot there same))
    (cases_lt (lot_at ys n).length (lot_at ys (n + 1)).length)

pub sorted : (m : Problem) (p : Plan) (k t : ℕ) (ls ys : List Lot) → AreLotsTo m p k t (item_count m) ls → IsPermutation ls ys → IsNonDecreasingBy (λ (a : Lot). a.length) ys → IsStableByKey (λ (a : Lot). a.length) nat_cmp ls ys → AreLotsOf m p k t ys
sorted m p k t ls ys all moved lengths stable =
    let lots = sorted_each m p k t (item_count m) ls ys all.lots moved in
    record {
      lots = lots;
      order = λ n o less there.
          let e : n + suc (o - n - 1) ≡ o = omega (arith, less) in
          let no_longer : IsNoLonger (lot_at ys n) (lot_at ys o) = subst (λ q. IsNoLonger (lot_at ys n) (lot_at ys q)) e (far ys (neighbours ls ys (by_item ls all.rising) lengths stable) (o - n - 1) n (omega (arith, e, there))) in
          ⊎_elim
          (λ shorter. inl shorter)
          (λ same. inr (same.0, ⊎_elim (λ lesser. lesser) (λ no. absurd (two_items m p k t (item_count m) ys lots n o less there (omega (arith, no, same.1)))) (cases_lt (lot_at ys n).item (lot_at ys o).item)))
          no_longer;
    }

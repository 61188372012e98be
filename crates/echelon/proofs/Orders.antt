-- Items by rank, and by number where ranks are equal.
use Rattle.std.proofs.Common.{◌≡◌, ◌⊎◌, ◌≤◌, ◌<◌, ◌+◌, ◌∙◌, ⊎_elim, inl, inr, ℕ, refl, sym, ap, subst, arith, List, [], ◌∷◌, ◌++◌, length}
use Rattle.std.proofs.lemmas.Bool.{cases_lt}
use Rattle.std.proofs.lemmas.List.{length_push, get_or_push, get_or_append_left}
use Rattle.lot_sizing.specs.Problem.{Problem, item_count}
use Rattle.lot_sizing.specs.Totals.{IsRanking}
use Rattle.echelon.specs.Weights.{IsOrder, placed}
use Rattle.echelon.specs.Order.{IsRankedBefore, IsOrderedTo}

before_more : (a i b j : ℕ) → IsRankedBefore a i b j → IsRankedBefore a i b (j + 1)
before_more a i b j h = ⊎_elim (λ lower. inl lower) (λ same. inr (same.0, omega (arith, same.1))) h

before_next : (a i b j : ℕ) → IsRankedBefore a i b (j + 1) → IsRankedBefore a i b j ⊎ ((a ≡ b) × (i ≡ j))
before_next a i b j h =
    ⊎_elim (λ lower. inl (inl lower))
    (λ same. ⊎_elim (λ less. inl (inr (same.0, less))) (λ no. inr (same.0, omega (arith, no, same.1))) (cases_lt i j))
    h

before_rank : (a i b n : ℕ) → IsRankedBefore a i b (n + 1) → IsRankedBefore a i (b + 1) 1
before_rank a i b n h = ⊎_elim (λ lower. inl (omega (arith, lower))) (λ same. inl (omega (arith, same.0))) h

rank_before : (a i b n : ℕ) → 1 ≤ i → i ≤ n → IsRankedBefore a i (b + 1) 1 → IsRankedBefore a i b (n + 1)
rank_before a i b n low high h =
    ⊎_elim (λ lower. ⊎_elim (λ less. inl less) (λ no. inr (omega (arith, no, lower), omega (arith, high))) (cases_lt a b))
    (λ same. absurd (omega (arith, same.1, low)))
    h

placed_kept : (order : List ℕ) (j n : ℕ) → n < length order → placed (order ++ j ∷ []) n ≡ placed order n
placed_kept order j n less = get_or_append_left order (j ∷ []) 0 n less

placed_last : (order : List ℕ) (j n : ℕ) → n ≡ length order → placed (order ++ j ∷ []) n ≡ j
placed_last order j n is = get_or_push order j 0 n (sym is)

-- at the end, or before it
old_or_new : (order : List ℕ) (j n : ℕ) (P : Type 0) → n < length (order ++ j ∷ []) → (n < length order → P) → (n ≡ length order → P) → P
old_or_new order j n P less old new = ⊎_elim old (λ no. new (omega (arith, no, less, length_push order j))) (cases_lt n (length order))

pub put : (rank : ℕ → ℕ) (items b j : ℕ) (order : List ℕ) → 1 ≤ j → j ≤ items → rank j ≡ b → IsOrderedTo rank items b j order → IsOrderedTo rank items b (j + 1) (order ++ j ∷ [])
put rank items b j order low high here o = record {
  items_exist = λ n less. old_or_new order j n ((1 ≤ placed (order ++ j ∷ []) n) × (placed (order ++ j ∷ []) n ≤ items)) less
      (λ old. subst (λ x. (1 ≤ x) × (x ≤ items)) (sym (placed_kept order j n old)) (o.items_exist n old))
      (λ new. subst (λ x. (1 ≤ x) × (x ≤ items)) (sym (placed_last order j n new)) (low, high));
  only = λ n less. old_or_new order j n (IsRankedBefore (rank (placed (order ++ j ∷ []) n)) (placed (order ++ j ∷ []) n) b (j + 1)) less
      (λ old. subst (λ x. IsRankedBefore (rank x) x b (j + 1)) (sym (placed_kept order j n old)) (before_more _ _ b j (o.only n old)))
      (λ new. subst (λ x. IsRankedBefore (rank x) x b (j + 1)) (sym (placed_last order j n new)) (inr (here, omega arith)));
  each = λ i i_low i_high before. ⊎_elim
      (λ old. let (n, less, at) = o.each i i_low i_high old in (n, omega (arith, less, length_push order j), placed_kept order j n less ∙ at))
      (λ same. (length order, omega (arith, length_push order j), placed_last order j (length order) refl ∙ sym same.1))
      (before_next (rank i) i b j before);
  rising = λ n k n_less less.
      let old_n : n < length order = omega (arith, n_less, less, length_push order j) in
      old_or_new order j k (IsRankedBefore (rank (placed (order ++ j ∷ []) n)) (placed (order ++ j ∷ []) n) (rank (placed (order ++ j ∷ []) k)) (placed (order ++ j ∷ []) k)) less
      (λ old. rw (placed_kept order j n old_n, placed_kept order j k old) (o.rising n k n_less old))
      (λ new. rw (placed_kept order j n old_n, placed_last order j k new, here) (o.only n old_n));
}

pub pass : (rank : ℕ → ℕ) (items b j : ℕ) (order : List ℕ) → (rank j ≡ b → ⊥) → IsOrderedTo rank items b j order → IsOrderedTo rank items b (j + 1) order
pass rank items b j order other o = record {
  items_exist = o.items_exist;
  only = λ n less. before_more _ _ b j (o.only n less);
  each = λ i low high before. ⊎_elim (λ old. o.each i low high old) (λ same. absurd (other (ap rank (sym same.1) ∙ same.0))) (before_next (rank i) i b j before);
  rising = o.rising;
}

pub next_rank : (rank : ℕ → ℕ) (items b : ℕ) (order : List ℕ) → IsOrderedTo rank items b (items + 1) order → IsOrderedTo rank items (b + 1) 1 order
next_rank rank items b order o = record {
  items_exist = o.items_exist;
  only = λ n less. before_rank _ _ b items (o.only n less);
  each = λ i low high before. o.each i low high (rank_before (rank i) i b items low high before);
  rising = o.rising;
}

pub none_yet : (rank : ℕ → ℕ) (items : ℕ) → IsOrderedTo rank items 0 1 []
none_yet rank items = record {
  items_exist = λ n less. absurd (omega (arith, less));
  only = λ n less. absurd (omega (arith, less));
  each = λ i low high before. absurd (⊎_elim (λ lower. omega (arith, lower)) (λ same. omega (arith, same.1, low)) before);
  rising = λ n k n_less less. absurd (omega (arith, less));
}

-- one that comes later has no lower rank
no_lower : (a i b j : ℕ) → IsRankedBefore a i b j → b < a → ⊥
no_lower a i b j h lower = ⊎_elim (λ less. omega (arith, less, lower)) (λ same. omega (arith, same.0, lower)) h

no_same : (a i j : ℕ) → i ≡ j → IsRankedBefore a i a j → ⊥
no_same a i j same h = ⊎_elim (λ less. omega (arith, less)) (λ is. omega (arith, is.1, same)) h

pub ordered : (m : Problem) (rank : ℕ → ℕ) (order : List ℕ) → IsRanking m rank → ((i : ℕ) → rank i ≤ item_count m) → IsOrderedTo rank (item_count m) (item_count m + 1) 1 order → IsOrder m order
ordered m rank order ranks small o = record {
  items_exist = o.items_exist;
  each = λ i low high. o.each i low high (inl (omega (arith, small i)));
  once = λ n k n_less k_less same. ⊎_elim
      (λ less. absurd (no_same (rank (placed order n)) (placed order n) (placed order k) same (subst (λ x. IsRankedBefore (rank (placed order n)) (placed order n) (rank x) (placed order k)) (sym same) (o.rising n k less k_less))))
      (λ no. ⊎_elim
      (λ less. absurd (no_same (rank (placed order k)) (placed order k) (placed order n) (sym same) (subst (λ x. IsRankedBefore (rank (placed order k)) (placed order k) (rank x) (placed order n)) same (o.rising k n less n_less))))
      (λ no2. omega (arith, no, no2))
      (cases_lt k n))
      (cases_lt n k);
  before = λ n k n_less k_less goes.
      let i = placed order k in
      let j = placed order n in
      let lower : rank j < rank i = ranks i j (o.items_exist k k_less).0 (o.items_exist k k_less).1 (o.items_exist n n_less).0 (o.items_exist n n_less).1 goes in
      ⊎_elim (λ less. less)
      (λ no. ⊎_elim
      (λ less. absurd (no_lower (rank i) i (rank j) j (o.rising k n less n_less) lower))
      (λ no2. let e : n ≡ k = omega (arith, no, no2) in absurd (omega (arith, lower, ap (λ x. rank (placed order x)) e)))
      (cases_lt k n))
      (cases_lt n k);
}

-- Lists by their places.
use Rattle.std.proofs.Common.{◌≡◌, ◌≤◌, ◌-◌, ◌∙◌, ⊎_elim, ℕ, zero, suc, refl, sym, ap, arith, List, [], ◌∷◌, ◌++◌, length, slice_index_or}
use Rattle.std.proofs.lemmas.Bool.{cases_eq}
use Rattle.std.proofs.lemmas.List.{get_or_append_left, get_or_push, length_push}

-- f 1, .., f n
module _ (A : Type 0) (d : A) (f : ℕ → A) where
  pub list_of : ℕ → List A
  list_of zero = []
  list_of (suc n) = list_of n ++ (f (suc n) ∷ [])

  pub list_size : (n : ℕ) → length (list_of n) ≡ n
  unfolding list_of
  list_size zero = refl
  list_size (suc n) = omega (arith, length_push (list_of n) (f (suc n)), list_size n)

  pub list_is : (n k : ℕ) → 1 ≤ k → k ≤ n → slice_index_or (list_of n) (k - 1) d ≡ f k
  unfolding list_of
  list_is zero k low high = absurd (omega (arith, low, high))
  list_is (suc n) k low high =
      ⊎_elim
      (λ last. get_or_push (list_of n) (f (suc n)) d (k - 1) (omega (arith, list_size n, last)) ∙ ap f (sym last))
      (λ other. get_or_append_left (list_of n) (f (suc n) ∷ []) d (k - 1) (omega (arith, list_size n, low, high, other)) ∙ list_is n k low (omega (arith, high, other)))
      (cases_eq k (suc n))

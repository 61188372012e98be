-- The first number at which one thing holds in place of another.
use Rattle.std.proofs.Common.{◌≤◌, ◌<◌, ◌+◌, ◌⊎◌, ⊎_elim, inl, inr, ℕ, zero, suc, subst, arith}
use Rattle.std.proofs.lemmas.Bool.{cases_lt}

-- the one holds of each number below n, or the other holds of some and the one of those before
pub first_below : (P Q : ℕ → Type 0) → ((o : ℕ) → P o ⊎ Q o) → (n : ℕ) → ((o : ℕ) → o < n → P o) ⊎ ((k : ℕ) × (k < n) × Q k × ((o : ℕ) → o < k → P o))
first_below P Q either zero = inl (λ o less. absurd (omega (arith, less)))
first_below P Q either (suc n) =
    ⊎_elim
    (λ before. ⊎_elim
    (λ here. inl (λ o less. ⊎_elim (λ sooner. before o sooner) (λ no. subst P (omega (arith, no, less)) here) (cases_lt o n)))
    (λ other. inr (n, omega arith, other, before))
    (either n))
    (λ found. inr (found.0, omega (arith, found.1), found.2, found.3))
    (first_below P Q either n)

-- the same of the numbers from 1 to n
pub first_to : (P Q : ℕ → Type 0) → ((o : ℕ) → P o ⊎ Q o) → (n : ℕ) → ((o : ℕ) → 1 ≤ o → o ≤ n → P o) ⊎ ((k : ℕ) × (1 ≤ k) × (k ≤ n) × Q k × ((o : ℕ) → 1 ≤ o → o < k → P o))
first_to P Q either n =
    ⊎_elim
    (λ all. inl (λ o low high. all o (omega (arith, high)) low))
    (λ found. inr (found.0, found.2.0, omega (arith, found.1), found.2.1, λ o low less. found.3 o less low))
    (first_below (λ o. 1 ≤ o → P o) (λ o. (1 ≤ o) × Q o) counted (n + 1))
  where
    counted : (o : ℕ) → (1 ≤ o → P o) ⊎ ((1 ≤ o) × Q o)
    counted o =
        ⊎_elim
        (λ none. inl (λ low. absurd (omega (arith, none, low))))
        (λ low. ⊎_elim (λ one. inl (λ _. one)) (λ other. inr (low, other)) (either o))
        (cases_lt o 1)

swapped : (P : ℕ → Type 0) → ((o : ℕ) → P o ⊎ (P o → ⊥)) → (o : ℕ) → (P o → ⊥) ⊎ P o
swapped P decided o = ⊎_elim (λ is. inr is) (λ no. inl no) (decided o)

-- it holds of some number below n, or of none
pub some_below : (P : ℕ → Type 0) → ((o : ℕ) → P o ⊎ (P o → ⊥)) → (n : ℕ) → ((k : ℕ) × (k < n) × P k) ⊎ ((o : ℕ) → o < n → P o → ⊥)
some_below P decided n =
    ⊎_elim
    (λ none. inr none)
    (λ found. inl (found.0, found.1, found.2))
    (first_below (λ o. P o → ⊥) P (swapped P decided) n)

-- it holds of some number from 1 to n, or of none
pub some_to : (P : ℕ → Type 0) → ((o : ℕ) → P o ⊎ (P o → ⊥)) → (n : ℕ) → ((k : ℕ) × (1 ≤ k) × (k ≤ n) × P k) ⊎ ((o : ℕ) → 1 ≤ o → o ≤ n → P o → ⊥)
some_to P decided n =
    ⊎_elim
    (λ none. inr none)
    (λ found. inl (found.0, found.1, found.2, found.3))
    (first_to (λ o. P o → ⊥) P (swapped P decided) n)

-- Sets that are small enough to be gone through.
use Rattle.std.proofs.Common.{◌-◌, ◌≤◌, ◌<◌, ◌⊎◌, ⊎_elim, inl, inr, ℕ, zero, suc, sym, subst, arith, Bool, true, false, List, [], ◌∷◌, length}
use Rattle.std.specs.Prelude.{ℤ, pos, negsuc, unsigned_abs, ⊤}
use Rattle.std.specs.List.{All}
use Rattle.std.proofs.lemmas.Bool.{cases_eq}
use Rattle.std.proofs.lemmas.List.Elements.{All-cons, All-head, All-nil, All-tail}

-- where each one of a set is good or bad, one is good, or all of the set are bad
abbrev pub Searched : (A : Type 0) → (A → Type 0) → Type 1
Searched A within = (Good Bad : A → Type 0) → ((a : A) → within a → Good a ⊎ Bad a) → ((a : A) × Good a) ⊎ ((a : A) → within a → Bad a)

-- something good, or two kinds of bad
pub both : {G B C : Type 0} → G ⊎ B → G ⊎ C → G ⊎ (B × C)
both (inl g) other = inl g
both (inr b) (inl g) = inl g
both (inr b) (inr c) = inr (b, c)

-- the numbers below another
pub numbers : (n : ℕ) → Searched ℕ (λ s. s < n)
numbers zero Good Bad either = inr (λ s less. absurd (omega (arith, less)))
numbers (suc n) Good Bad either =
    ⊎_elim
    (λ found. inl found)
    (λ none. ⊎_elim
    (λ good. inl (n, good))
    (λ bad. inr (λ s less. ⊎_elim
    (λ is. subst Bad (sym is) bad)
    (λ apart. none s (omega (arith, less, apart)))
    (cases_eq s n)))
    (either n (omega arith)))
    (numbers n Good Bad (λ s less. either s (omega (arith, less))))

pub bits : Searched Bool (λ b. ⊤)
bits Good Bad either =
    ⊎_elim
    (λ good. inl (true, good))
    (λ one. ⊎_elim (λ good. inl (false, good)) (λ zero_too. inr (each one zero_too)) (either false tt))
    (either true tt)
  where
    each : Bad true → Bad false → (b : Bool) → ⊤ → Bad b
    each one other true here = one
    each one other false here = other

-- whole numbers whose absolute value is below a number
pub integers : (n : ℕ) → Searched ℤ (λ z. unsigned_abs z < n)
integers n Good Bad either =
    ⊎_elim
    (λ found. inl (pos found.0, found.1))
    (λ high. ⊎_elim
    (λ found. inl (negsuc found.0, found.1))
    (λ low. inr (each high low))
    (numbers (n - 1) (λ k. Good (negsuc k)) (λ k. Bad (negsuc k)) (λ k less. either (negsuc k) (omega (arith, less)))))
    (numbers n (λ k. Good (pos k)) (λ k. Bad (pos k)) (λ k less. either (pos k) less))
  where
    each : ((k : ℕ) → k < n → Bad (pos k)) → ((k : ℕ) → k < n - 1 → Bad (negsuc k)) → (z : ℤ) → unsigned_abs z < n → Bad z
    each high low (pos k) less = high k less
    each high low (negsuc k) less = low k (omega (arith, less))

-- lists of at most so many entries
abbrev pub IsListOf : {A : Type 0} → (A → Type 0) → ℕ → List A → Type 0
IsListOf within n xs = (length xs ≤ n) × All within xs

module _ (A : Type 0) (within : A → Type 0) (search : Searched A within) where
  pub lists : (n : ℕ) → Searched (List A) (IsListOf within n)
  lists zero Good Bad either =
      ⊎_elim (λ good. inl ([], good)) (λ bad. inr (each bad)) (either [] (omega arith, All-nil within))
    where
      each : Bad [] → (xs : List A) → IsListOf within 0 xs → Bad xs
      each bad [] is = bad
      each bad (x ∷ xs) is = absurd (omega (arith, is.0))
  lists (suc n) Good Bad either =
      ⊎_elim
      (λ good. inl ([], good))
      (λ bad. ⊎_elim
      (λ found. inl (found.0 ∷ found.1.0, found.1.1))
      (λ none. inr (each bad none))
      (search (λ a. (l : List A) × Good (a ∷ l)) (λ a. (l : List A) → IsListOf within n l → Bad (a ∷ l))
      (λ a here. lists n (λ l. Good (a ∷ l)) (λ l. Bad (a ∷ l)) (λ l is. either (a ∷ l) (omega (arith, is.0), All-cons within a l here is.1)))))
      (either [] (omega arith, All-nil within))
    where
      each : Bad [] → ((a : A) → within a → (l : List A) → IsListOf within n l → Bad (a ∷ l)) → (xs : List A) → IsListOf within (suc n) xs → Bad xs
      each bad none [] is = bad
      each bad none (x ∷ xs) is = none x (All-head within x xs is.1) xs (omega (arith, is.0), All-tail within x xs is.1)

-- pairs, the second by the first
pub pairs : (A B : Type 0) (u : A → Type 0) (v : A → B → Type 0) → Searched A u → ((a : A) → Searched B (v a)) → Searched (A × B) (λ p. u p.0 × v p.0 p.1)
pairs A B u v first second Good Bad either =
    ⊎_elim
    (λ found. inl ((found.0, found.1.0), found.1.1))
    (λ none. inr (λ p is. none p.0 is.0 p.1 is.1))
    (first (λ a. (b : B) × Good (a, b)) (λ a. (b : B) → v a b → Bad (a, b)) (λ a here. second a (λ b. Good (a, b)) (λ b. Bad (a, b)) (λ b there. either (a, b) (here, there))))

-- what is made of those of a set
pub made : (A B : Type 0) (u : A → Type 0) → Searched A u → (f : A → B) (Good Bad : B → Type 0) → ((a : A) → u a → Good (f a) ⊎ Bad (f a)) → ((b : B) × Good b) ⊎ ((a : A) → u a → Bad (f a))
made A B u search f Good Bad either =
    ⊎_elim (λ found. inl (f found.0, found.1)) (λ none. inr none) (search (λ a. Good (f a)) (λ a. Bad (f a)) either)

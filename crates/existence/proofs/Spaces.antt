-- Sets of choices that are small enough to be gone through: numbers up to a limit, and lists and tables of such numbers.
use Rattle.std.proofs.Common.{◌≡◌, ◌≤◌, ◌⊎◌, ⊎_elim, inl, inr, ℕ, zero, suc, refl, sym, subst, arith}
use Rattle.std.proofs.lemmas.Bool.{cases_eq}
use Rattle.lot_sizing.specs.Plan.{Table}

-- of choices that are told apart up to being the same: where each one is good or bad, one is good, or all within the set are bad
abbrev pub Searched : (S : Type 0) → (S → S → Type 0) → (S → Type 0) → Type 1
Searched S same within = (Good Bad : S → Type 0) → ((s : S) → Good s ⊎ Bad s) → ((a b : S) → same a b → Bad a → Bad b) → ((s : S) × Good s) ⊎ ((s : S) → within s → Bad s)

-- the numbers from 0 to a limit
numbers : (most : ℕ) (Good Bad : ℕ → Type 0) → ((s : ℕ) → Good s ⊎ Bad s) → ((a b : ℕ) → a ≡ b → Bad a → Bad b) → ((s : ℕ) × Good s) ⊎ ((s : ℕ) → s ≤ most → Bad s)
numbers zero Good Bad either keep = ⊎_elim (λ good. inl (0, good)) (λ no. inr (λ s few. keep 0 s (omega (arith, few)) no)) (either 0)
numbers (suc n) Good Bad either keep =
    ⊎_elim
    (λ found. inl found)
    (λ none. ⊎_elim
    (λ good. inl (suc n, good))
    (λ no. inr (λ s few. ⊎_elim
    (λ is. keep (suc n) s (sym is) no)
    (λ apart. none s (omega (arith, few, apart)))
    (cases_eq s (suc n))))
    (either (suc n)))
    (numbers n Good Bad either keep)

-- one of two, by whether something holds
pick : {A S : Type 0} → A ⊎ (A → ⊥) → S → S → S
pick (inl is) s t = s
pick (inr isnt) s t = t

-- a list with another entry at a place
put : {S : Type 0} → (ℕ → S) → ℕ → S → ℕ → S
put f n s k = pick (cases_eq k n) s (f k)

picked : {A S : Type 0} (R : S → S → Type 0) (x : A ⊎ (A → ⊥)) (s t a b : S) → (A → R s a) → ((A → ⊥) → R t b) → R (pick x s t) (pick x a b)
unfolding pick
picked R (inl is) s t a b one other = one is
picked R (inr isnt) s t a b one other = other isnt

picked_as : {A S : Type 0} (R : S → S → Type 0) (x : A ⊎ (A → ⊥)) (s t a : S) → (A → R s a) → ((A → ⊥) → R t a) → R (pick x s t) a
unfolding pick
picked_as R (inl is) s t a one other = one is
picked_as R (inr isnt) s t a one other = other isnt

module _ (S : Type 0) (same : S → S → Type 0) (within : ℕ → S → Type 0) (some : S) (itself : (s : S) → same s s) (search : (k : ℕ) → Searched S same (within k)) where
  -- the first n entries are the same
  abbrev Same : ℕ → (ℕ → S) → (ℕ → S) → Type 0
  Same n f g = (k : ℕ) → 1 ≤ k → k ≤ n → same (f k) (g k)

  -- each of them is within its set
  abbrev Within : ℕ → (ℕ → S) → Type 0
  Within n f = (k : ℕ) → 1 ≤ k → k ≤ n → within k (f k)

  put_same : (n : ℕ) (s : S) (f g : ℕ → S) → Same n f g → Same (suc n) (put f (suc n) s) (put g (suc n) s)
  unfolding put
  put_same n s f g are k low high = picked same (cases_eq k (suc n)) s (f k) s (g k) (λ _. itself s) (λ apart. are k low (omega (arith, high, apart)))

  put_alike : (n : ℕ) (f : ℕ → S) (a b : S) → same a b → Same (suc n) (put f (suc n) a) (put f (suc n) b)
  unfolding put
  put_alike n f a b is k low high = picked same (cases_eq k (suc n)) a (f k) b (f k) (λ _. is) (λ _. itself (f k))

  put_back : (n : ℕ) (f : ℕ → S) → Same (suc n) (put f (suc n) (f (suc n))) f
  unfolding put
  put_back n f k low high = picked_as same (cases_eq k (suc n)) (f (suc n)) (f k) (f k) (λ is. subst (λ j. same (f j) (f k)) is (itself (f k))) (λ _. itself (f k))

  -- lists of n entries
  pub lists : (n : ℕ) (Good Bad : (ℕ → S) → Type 0) → ((f : ℕ → S) → Good f ⊎ Bad f) → ((f g : ℕ → S) → Same n f g → Bad f → Bad g) → ((f : ℕ → S) × Good f) ⊎ ((f : ℕ → S) → Within n f → Bad f)
  lists zero Good Bad either keep =
      ⊎_elim
      (λ good. inl ((λ _. some), good))
      (λ no. inr (λ f _. keep (λ _. some) f (λ k low high. absurd (omega (arith, low, high))) no))
      (either (λ _. some))
  lists (suc n) Good Bad either keep =
      ⊎_elim
      (λ found. inl (put found.1.0 (suc n) found.0, found.1.1))
      (λ none. inr (λ f within. keep (put f (suc n) (f (suc n))) f (put_back n f) (none (f (suc n)) (within (suc n) (omega arith) (omega arith)) f (λ k low high. within k low (omega (arith, high))))))
      (search (suc n)
      (λ s. (f : ℕ → S) × Good (put f (suc n) s))
      (λ s. (f : ℕ → S) → Within n f → Bad (put f (suc n) s))
      (λ s. lists n (λ f. Good (put f (suc n) s)) (λ f. Bad (put f (suc n) s)) (λ f. either (put f (suc n) s)) (λ f g are. keep (put f (suc n) s) (put g (suc n) s) (put_same n s f g are)))
      (λ a b is bad f w. keep (put f (suc n) a) (put f (suc n) b) (put_alike n f a b is) (bad f w)))

-- tables of so many rows and columns, whose numbers are at most the limit of their row
pub tables : (rows columns : ℕ) (most : ℕ → ℕ) → Searched Table (λ a b. (i : ℕ) → 1 ≤ i → i ≤ rows → (t : ℕ) → 1 ≤ t → t ≤ columns → a i t ≡ b i t) (λ a. (i : ℕ) → 1 ≤ i → i ≤ rows → (t : ℕ) → 1 ≤ t → t ≤ columns → a i t ≤ most i)
tables rows columns most =
    lists (ℕ → ℕ) (λ a b. (t : ℕ) → 1 ≤ t → t ≤ columns → a t ≡ b t) (λ i a. (t : ℕ) → 1 ≤ t → t ≤ columns → a t ≤ most i) (λ _. 0) (λ a t low high. refl)
    (λ i. lists ℕ (λ a b. a ≡ b) (λ t x. x ≤ most i) 0 (λ x. refl) (λ t. numbers (most i)) columns)
    rows

-- Laws of the greatest of some numbers.
use Rattle.std.proofs.Common.{◌≡◌, ◌≤◌, ◌+◌, ◌-◌, ◌∙◌, ⊎_elim, ℕ, zero, suc, refl, ap, arith}
use Rattle.std.specs.Prelude.{max, min}
use Rattle.std.proofs.lemmas.Bool.{cases_eq}
use Rattle.must_start.specs.MustStart.{greatest_to}

max_le : (a b c : ℕ) → a ≤ c → b ≤ c → max a b ≤ c
max_le a b c h k = grind (arith, h, k)

le_max_left : (a b : ℕ) → a ≤ max a b
le_max_left a b = grind arith

le_max_right : (a b : ℕ) → b ≤ max a b
le_max_right a b = grind arith

pub min_left : (a b : ℕ) → min a b ≤ a
min_left a b = grind arith

pub min_right : (a b : ℕ) → min a b ≤ b
min_right a b = grind arith

pub min_rises : (a b c : ℕ) → a ≤ b → min a c ≤ min b c
min_rises a b c h = grind (arith, h)

-- the greatest is at most what each is at most
pub greatest_le : (n : ℕ) (f : ℕ → ℕ) (b : ℕ) → ((k : ℕ) → 1 ≤ k → k ≤ n → f k ≤ b) → greatest_to n f ≤ b
greatest_le zero f b h = omega arith
greatest_le (suc n) f b h = max_le (greatest_to n f) (f (suc n)) b (greatest_le n f b (λ k low high. h k low (omega (arith, high)))) (h (suc n) (omega arith) (omega arith))

-- the greatest of more is no less
greatest_more : (k n : ℕ) (f : ℕ → ℕ) → greatest_to n f ≤ greatest_to (n + k) f
greatest_more zero n f = let e : n + zero ≡ n = omega arith in omega (arith, ap (λ j. greatest_to j f) e)
greatest_more (suc k) n f =
    let e : n + suc k ≡ suc (n + k) = omega arith in
    omega (arith, ap (λ j. greatest_to j f) e, greatest_more k n f, le_max_left (greatest_to (n + k) f) (f (suc (n + k))))

pub greatest_rises : (a b : ℕ) (f : ℕ → ℕ) → a ≤ b → greatest_to a f ≤ greatest_to b f
greatest_rises a b f h = let e : a + (b - a) ≡ b = omega (arith, h) in omega (arith, greatest_more (b - a) a f, ap (λ j. greatest_to j f) e)

pub greatest_same : (n : ℕ) (f g : ℕ → ℕ) → ((k : ℕ) → 1 ≤ k → k ≤ n → f k ≡ g k) → greatest_to n f ≡ greatest_to n g
greatest_same zero f g h = refl
greatest_same (suc n) f g h = ap (λ x. max x (f (suc n))) (greatest_same n f g (λ k low high. h k low (omega (arith, high)))) ∙ ap (max (greatest_to n g)) (h (suc n) (omega arith) (omega arith))

-- each is at most the greatest
pub greatest_at : (n k : ℕ) (f : ℕ → ℕ) → 1 ≤ k → k ≤ n → f k ≤ greatest_to n f
greatest_at zero k f low high = absurd (omega (arith, low, high))
greatest_at (suc n) k f low high =
    ⊎_elim
    (λ last. omega (arith, ap f last, le_max_right (greatest_to n f) (f (suc n))))
    (λ before. omega (arith, greatest_at n k f low (omega (arith, high, before)), le_max_left (greatest_to n f) (f (suc n))))
    (cases_eq k (suc n))

-- the greatest of the first n - 1 takes the next
pub greatest_next : (n : ℕ) (f : ℕ → ℕ) → 1 ≤ n → greatest_to (n + 1 - 1) f ≡ max (greatest_to (n - 1) f) (f n)
greatest_next zero f h = absurd (omega (arith, h))
greatest_next (suc n) f h =
    let e : suc n + 1 - 1 ≡ suc n = omega arith in
    let d : suc n - 1 ≡ n = omega arith in
    rw (e, d) refl

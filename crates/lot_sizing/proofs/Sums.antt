-- Laws of sums over numbers that are counted from 1.
use Rattle.std.proofs.Common.{◌≡◌, ◌≤◌, ◌+◌, ◌-◌, ◌*◌, ◌⊎◌, ⊎_elim, ℕ, zero, suc, sym, refl, add-one, arith}
use Rattle.lot_sizing.specs.Sums.{sum_to}

pub sum_to-next : (n : ℕ) (f : ℕ → ℕ) → sum_to (n + 1) f ≡ sum_to n f + f (n + 1)
sum_to-next n f = rw add-one refl

pub sum_to-same : (n : ℕ) (f g : ℕ → ℕ) → ((k : ℕ) → 1 ≤ k → k ≤ n → f k ≡ g k) → sum_to n f ≡ sum_to n g
sum_to-same zero f g h = refl
sum_to-same (suc n) f g h = grind (arith, sum_to-same n f g (λ k low high. h k low (omega arith)), h (suc n) (omega arith) (omega arith))

pub sum_to-le : (n : ℕ) (f g : ℕ → ℕ) → ((k : ℕ) → 1 ≤ k → k ≤ n → f k ≤ g k) → sum_to n f ≤ sum_to n g
sum_to-le zero f g h = omega arith
sum_to-le (suc n) f g h = omega (arith, sum_to-le n f g (λ k low high. h k low (omega arith)), h (suc n) (omega arith) (omega arith))

pub sum_to-add : (n : ℕ) (f g : ℕ → ℕ) → sum_to n (λ k. f k + g k) ≡ sum_to n f + sum_to n g
sum_to-add zero f g = refl
sum_to-add (suc n) f g = omega (arith, sum_to-add n f g)

pub sum_to-times : (n c : ℕ) (f : ℕ → ℕ) → sum_to n (λ k. c * f k) ≡ c * sum_to n f
sum_to-times zero c f = omega arith
sum_to-times (suc n) c f = omega (arith, sum_to-times n c f)

pub sum_to-zero : (n : ℕ) → sum_to n (λ k. 0) ≡ 0
sum_to-zero zero = refl
sum_to-zero (suc n) = omega (arith, sum_to-zero n)

-- sums in either order
pub sum_to-swap : (n m : ℕ) (f : ℕ → ℕ → ℕ) → sum_to n (λ i. sum_to m (λ j. f i j)) ≡ sum_to m (λ j. sum_to n (λ i. f i j))
sum_to-swap zero m f = sym (sum_to-zero m)
sum_to-swap (suc n) m f = omega (arith, sum_to-swap n m f, sum_to-add m (λ j. sum_to n (λ i. f i j)) (λ j. f (suc n) j))

-- where no term is greater than c
pub sum_to-bound : (n c : ℕ) (f : ℕ → ℕ) → ((k : ℕ) → 1 ≤ k → k ≤ n → f k ≤ c) → sum_to n f ≤ n * c
sum_to-bound zero c f h = omega arith
sum_to-bound (suc n) c f h = omega (arith, sum_to-bound n c f (λ k low high. h k low (omega arith)), h (suc n) (omega arith) (omega arith))

last_or_before : (k n : ℕ) → k ≤ suc n → (k ≡ suc n) ⊎ (k ≤ n)
last_or_before k n h = grind arith

-- a front is at most the whole
pub sum_to-front : (k n : ℕ) (f : ℕ → ℕ) → k ≤ n → sum_to k f ≤ sum_to n f
sum_to-front k zero f h = let e : k ≡ 0 = omega arith in rw e (omega arith)
sum_to-front k (suc n) f h = ⊎_elim (λ e. rw e (omega arith)) (λ l. omega (arith, sum_to-front k n f l)) (last_or_before k n h)

-- a sum that has come as far as n - 1 takes its next term
pub sum_to_more : (n : ℕ) (f : ℕ → ℕ) → 1 ≤ n → sum_to (n + 1 - 1) f ≡ sum_to (n - 1) f + f n
sum_to_more zero f h = absurd (omega arith)
sum_to_more (suc n) f h = let e : suc n + 1 - 1 ≡ suc n = omega arith in let d : suc n - 1 ≡ n = omega arith in rw (e, d) refl

pub sum_to_at : (n : ℕ) (f : ℕ → ℕ) → 1 ≤ n → sum_to n f ≡ sum_to (n - 1) f + f n
sum_to_at zero f h = absurd (omega arith)
sum_to_at (suc n) f h = let d : suc n - 1 ≡ n = omega arith in rw d refl

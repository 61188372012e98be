-- A number's binary digits are one more than those of its half.
use Rattle.std.proofs.Common.{◌≡◌, ◌≤◌, ◌<◌, ◌+◌, ◌/◌, ◌∙◌, ℕ, zero, suc, sym, refl, arith}
use Rattle.tree_search.specs.Ranges.{digits, digits_in}

half_less : (n : ℕ) → suc n / 2 ≤ n
half_less n = omega arith

half_le : (m n : ℕ) → m ≤ n → m / 2 ≤ n / 2
half_le m n h = omega arith

digits_in-suc : (f n : ℕ) → digits_in (suc f) (suc n) ≡ digits_in f (suc n / 2) + 1
digits_in-suc f n = grind arith

digits_in-zero : (f : ℕ) → digits_in f 0 ≡ 0
digits_in-zero zero = refl
digits_in-zero (suc f) = refl

-- more room for digits than there are changes nothing
digits_in-more : (f g n : ℕ) → n ≤ f → n ≤ g → digits_in f n ≡ digits_in g n
digits_in-more f g zero h k = digits_in-zero f ∙ sym (digits_in-zero g)
digits_in-more zero g (suc n) h k = absurd (omega arith)
digits_in-more (suc f) zero (suc n) h k = absurd (omega arith)
digits_in-more (suc f) (suc g) (suc n) h k =
    let e : digits_in f (suc n / 2) ≡ digits_in g (suc n / 2) = digits_in-more f g (suc n / 2) (omega (arith, half_less n)) (omega (arith, half_less n)) in
    omega (arith, e, digits_in-suc f n, digits_in-suc g n)

pub digits-half : (n : ℕ) → 1 ≤ n → digits n ≡ digits (n / 2) + 1
digits-half zero h = absurd (omega arith)
digits-half (suc n) h = omega (arith, digits_in-suc n n, digits_in-more n (suc n / 2) (suc n / 2) (half_less n) (omega arith))

digits_in-le : (f m n : ℕ) → m ≤ n → digits_in f m ≤ digits_in f n
digits_in-le zero m n h = omega arith
digits_in-le (suc f) zero n h = omega (arith, digits_in-zero (suc f))
digits_in-le (suc f) (suc m) zero h = absurd (omega arith)
digits_in-le (suc f) (suc m) (suc n) h = omega (arith, digits_in-suc f m, digits_in-suc f n, digits_in-le f (suc m / 2) (suc n / 2) (half_le (suc m) (suc n) h))

pub digits-le : (m n : ℕ) → m ≤ n → digits m ≤ digits n
digits-le m n h = omega (arith, digits_in-more m n m (omega arith) h, digits_in-le n m n h)

-- what is at most the half has fewer digits
pub digits-less : (m n : ℕ) → 1 ≤ n → m ≤ n / 2 → digits m < digits n
digits-less m n h k = omega (arith, digits-half n h, digits-le m (n / 2) k)

pub digits-zero : digits 0 ≡ 0
digits-zero = refl

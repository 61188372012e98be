-- The least of what can be gone through, and quantities that are cut off.
use Rattle.std.proofs.Common.{◌≡◌, ◌≤◌, ◌<◌, ◌+◌, ◌⊎◌, ⊎_elim, inl, inr, ℕ, zero, suc, refl, arith, min}
use Rattle.std.proofs.lemmas.Bool.{cases_lt}
use Rattle.lot_sizing.specs.Sums.{sum_to}
use Rattle.lot_sizing.proofs.Sums.{sum_to-front, sum_to_at}
use Rattle.existence.proofs.Deciding.{Decided, all_or_first}
use Rattle.existence.proofs.Spaces.{Searched, tables}

-- whether it holds at each number from 1 to n
pub each_or_not : (n : ℕ) (R : ℕ → Type 0) → ((t : ℕ) → Decided (R t)) → Decided ((t : ℕ) → 1 ≤ t → t ≤ n → R t)
each_or_not n R decided = ⊎_elim (λ all. inl all) (λ first. inr (λ all. first.3 (all first.0 first.1 first.2))) (all_or_first R decided n)

-- quantities of so many periods, none of which is past a limit, can be gone through
pub quantities : (n most : ℕ) → Searched (ℕ → ℕ) (λ f g. (t : ℕ) → 1 ≤ t → t ≤ n → f t ≡ g t) (λ f. (t : ℕ) → 1 ≤ t → t ≤ n → f t ≤ most)
quantities n most Good Bad either keep =
    ⊎_elim
    (λ found. inl (found.0 1, found.1))
    (λ none. inr (λ f within. none (λ i. f) (λ i low high. within)))
    (tables 1 n (λ i. most) (λ a. Good (a 1)) (λ a. Bad (a 1)) (λ a. either (a 1)) (λ a b same. keep (a 1) (b 1) (same 1 (omega arith) (omega arith))))

-- a choice of least value, where of each value a choice below it can be found or there is none
pub least_of : (A : Type 0) (value : A → ℕ) → ((c : ℕ) → ((a : A) × (value a < c)) ⊎ ((a : A) → value a < c → ⊥)) → (n : ℕ) (a : A) → value a ≤ n → (b : A) × ((d : A) → value b ≤ value d)
least_of A value below zero a low = (a, λ d. omega (arith, low))
least_of A value below (suc n) a low =
    ⊎_elim
    (λ found. least_of A value below n found.0 (omega (arith, found.1, low)))
    (λ none. (a, λ d. ⊎_elim (λ less. absurd (none d less)) (λ le. le) (cases_lt (value d) (value a))))
    (below (value a))

-- one number of a sum is at most the sum
pub one_of_sum : (n t : ℕ) (f : ℕ → ℕ) → 1 ≤ t → t ≤ n → f t ≤ sum_to n f
one_of_sum n t f low high = omega (arith, sum_to-front t n f high, sum_to_at t f low)

-- 1 where there is some
abbrev pub one_if_some : ℕ → ℕ
one_if_some zero = 0
one_if_some (suc n) = 1

pub at_most_one : (x : ℕ) → one_if_some x ≤ 1
at_most_one zero = omega arith
at_most_one (suc n) = omega arith

pub one_of_some : (x : ℕ) → 0 < x → one_if_some x ≡ 1
one_of_some zero some = absurd (omega (arith, some))
one_of_some (suc n) some = refl

pub some_at_most : (x s : ℕ) → (0 < x → 1 ≤ s) → one_if_some x ≤ s
some_at_most zero s has = omega arith
some_at_most (suc n) s has = has (omega arith)

-- a quantity up to a limit
abbrev pub cut : ℕ → ℕ → ℕ
cut most x = min x most

pub cut_low : (most x : ℕ) → cut most x ≤ x
cut_low most x = grind arith

pub cut_high : (most x : ℕ) → cut most x ≤ most
cut_high most x = grind arith

cut_more : (most a b x : ℕ) → min a most ≤ b → min (a + x) most ≤ b + min x most
cut_more most a b x before = grind (arith, before)

cut_sum : (most n : ℕ) (f : ℕ → ℕ) → min (sum_to n f) most ≤ sum_to n (λ t. cut most (f t))
cut_sum most zero f = grind arith
cut_sum most (suc n) f = cut_more most (sum_to n f) (sum_to n (λ t. cut most (f t))) (f (suc n)) (cut_sum most n f)

under_both : (x a b c : ℕ) → x ≤ a → x ≤ b → min a b ≤ c → x ≤ c
under_both x a b c one other least = grind (arith, one, other, least)

-- what a sum reaches that is no more than the limit, it reaches with quantities that are cut off
pub reaches : (most n x : ℕ) (f : ℕ → ℕ) → x ≤ sum_to n f → x ≤ most → x ≤ sum_to n (λ t. cut most (f t))
reaches most n x f enough small = under_both x (sum_to n f) most (sum_to n (λ t. cut most (f t))) enough small (cut_sum most n f)

-- and so with one more quantity
pub reaches_with : (most n x a : ℕ) (f : ℕ → ℕ) → x ≤ a + sum_to n f → x ≤ most → x ≤ cut most a + sum_to n (λ t. cut most (f t))
reaches_with most n x a f enough small = with_more (cut_sum most n f)
  where
    with_more : min (sum_to n f) most ≤ sum_to n (λ t. cut most (f t)) → x ≤ cut most a + sum_to n (λ t. cut most (f t))
    with_more before = grind (arith, before, enough, small)

-- Least common denominators, fraction by fraction.
use Rattle.std.proofs.Common.{◌≡◌, ◌≢◌, ◌≤◌, ◌<◌, ◌+◌, ◌*◌, ◌/◌, ◌∙◌, ⊎_elim, ℕ, zero, suc, sym, ap, subst, arith, List, [], length, get_or, take}
use Rattle.std.specs.Prelude.{All, ◌^◌, ℤ, pos, negsuc, ◌*ℤ◌, ◌<ℤ◌, unsigned_abs}
use Rattle.std.proofs.lemmas.List.{get_or-take, length-take-le, take-take, take_all}
use Rattle.std.proofs.lemmas.List.Elements.{All-get_or, All-more, All-nil, All-take, All-weaker}
use Rattle.std.proofs.lemmas.Bool.{cases_lt}
use Rattle.std.proofs.lemmas.Int.{ints, unsigned_abs-mul}
use Rattle.std.proofs.lemmas.Nat.Gcd.{IsGcd-swap}
use Prim.Native.Nat.{◌∣◌}
use native.Mathlib.Nat.{div-mul_cancel, dvd-mul_left, dvd-mul_right, dvd_trans, eq_of_mul-eq-mul_right, le_of_dvd, mul-dvd-mul_right, one-dvd}
use Rattle.std.specs.Int.{IsGcd}
use Rattle.algebra.proofs.Divisors.{dvd_of_coprime}
use Rattle.algebra.proofs.Lowest.{abs_pos}
use Rattle.rational.specs.Rational.{ℚ, make, whole}
use Rattle.rational.proofs.Rationals.{den_above, make-is}
use Rattle.frac128.specs.Limits.{Fits, IsSmall, quotient_ℚ}
use Rattle.frac128.specs.Denominators.{HasLargeDenominator, IsCommonDenominator, IsLeastDenominator, den_of}

pub den_is : (x : ℚ) → pos (den_of x) ≡ x.den
den_is x = abs_pos x.den (den_above x)

den_some : (x : ℚ) → 1 ≤ den_of x
den_some x = let above = den_above x in omega (arith, ints, above, den_is x)

-- with a e = d b and no factor shared by a and b, what d and e divide is divided by d b
joined : (d e a b n : ℕ) → 1 ≤ d → a * e ≡ d * b → IsGcd a b 1 → d ∣ n → e ∣ n → (d * b) ∣ n
joined d e a b n some cross apart by_d by_e =
    let s = n / d in
    let t = n / e in
    let sd : s * d ≡ n = div-mul_cancel d by_d in
    let te : t * e ≡ n = div-mul_cancel e by_e in
    let same : s * a ≡ t * b = eq_of_mul-eq-mul_right d (omega (arith, some)) (s * a) (t * b) (omega (arith, ap (λ k. k * a) (sd ∙ sym te), ap (λ k. t * k) cross)) in
    let by_b : b ∣ s = dvd_of_coprime b a s (IsGcd-swap a b 1 apart) (subst (λ k. b ∣ k) (sym same ∙ turned s a) (dvd-mul_left b t)) in
    subst (λ k. (d * b) ∣ k) sd (subst (λ k. k ∣ s * d) (turned b d) (mul-dvd-mul_right b by_b d))
  where
    turned : (a b : ℕ) → a * b ≡ b * a
    turned a b = omega arith

-- ---- one more fraction
abbrev at : List ℚ → ℕ → ℚ
at xs k = get_or xs k (whole (pos 0))

module _ (xs : List ℚ) (k d : ℕ) (less : k < length xs) (is : IsLeastDenominator (take k xs) d) where
  abbrev part : ℚ
  part = make (pos d) (at xs k).den

  cross : unsigned_abs part.num * den_of (at xs k) ≡ d * den_of part
  cross = sym (unsigned_abs-mul part.num (at xs k).den) ∙ ap unsigned_abs (make-is (pos d) (at xs k).den (den_above (at xs k))) ∙ unsigned_abs-mul (pos d) part.den

  abbrev Divides : ℕ → ℚ → Type 0
  Divides e x = den_of x ∣ e

  -- what is said of the first k + 1 is said of the first k, and of the last of them
  before : (e : ℕ) → All (Divides e) (take (k + 1) xs) → All (Divides e) (take k xs)
  before e all = subst (All (Divides e)) (take-take k (k + 1) xs (omega arith)) (All-take (Divides e) k (take (k + 1) xs) all)

  last : (e : ℕ) → All (Divides e) (take (k + 1) xs) → den_of (at xs k) ∣ e
  last e all =
      subst (Divides e) (get_or-take (k + 1) xs k (whole (pos 0)) (omega arith))
      (All-get_or (Divides e) (take (k + 1) xs) k (whole (pos 0)) (omega (arith, less, length-take-le (k + 1) xs (omega (arith, less)))) all)

  grows : IsLeastDenominator (take (k + 1) xs) (d * den_of part)
  grows = record {
    positive = product (den_some part);
    each = All-more (Divides (d * den_of part)) xs k (whole (pos 0)) less
        (All-weaker (Divides d) (Divides (d * den_of part)) (λ x divides. dvd_trans (den_of x) divides (dvd-mul_right d (den_of part))) (take k xs) is.each)
        (subst (λ m. den_of (at xs k) ∣ m) cross (dvd-mul_left (den_of (at xs k)) (unsigned_abs part.num)));
    least = λ e all. joined d (den_of (at xs k)) (unsigned_abs part.num) (den_of part) e is.positive cross part.lowest.1 (is.least e (before e all)) (last e all);
  }
    where
      product : 1 ≤ den_of part → 1 ≤ d * den_of part
      product some = grind (arith, is.positive, some)

pub none_common : IsLeastDenominator [] 1
none_common = record { positive = omega arith; each = All-nil (λ x. den_of x ∣ 1); least = λ e all. one-dvd e }

-- there is one
some_first : (xs : List ℚ) (k : ℕ) → k ≤ length xs → (d : ℕ) × IsLeastDenominator (take k xs) d
some_first xs zero low = (1, none_common)
some_first xs (suc k) low =
    let before = some_first xs k (omega (arith, low)) in
    let less : k < length xs = omega (arith, low) in
    let e : k + 1 ≡ suc k = omega arith in
    (before.0 * den_of (make (pos before.0) (at xs k).den), subst (λ n. IsLeastDenominator (take n xs) (before.0 * den_of (make (pos before.0) (at xs k).den))) e (grows xs k before.0 less before.1))

some_common : (xs : List ℚ) → (d : ℕ) × IsLeastDenominator xs d
some_common xs =
    let first = some_first xs (length xs) (omega arith) in
    (first.0, subst (λ ys. IsLeastDenominator ys first.0) (take_all (length xs) xs (omega arith)) first.1)

-- ---- as the code goes on
-- lowest terms of small numbers are small
pub fits_small : (d e : ℤ) → pos 0 <ℤ d → pos 0 <ℤ e → IsSmall d → IsSmall e → (e ≢ pos 0) × Fits (quotient_ℚ d e)
fits_small d (negsuc e) d_above e_above d_small e_small = absurd (omega (arith, ints, e_above))
fits_small d (pos e) d_above e_above d_small e_small =
    let x = make d (pos e) in
    let n = unsigned_abs x.num in
    let b = den_of x in
    let cross : n * e ≡ unsigned_abs d * b = sym (unsigned_abs-mul x.num (pos e)) ∙ ap unsigned_abs (make-is d (pos e) e_above) ∙ unsigned_abs-mul d x.den in
    let by_b : b ∣ e = dvd_of_coprime b n e (IsGcd-swap n b 1 x.lowest.1) (subst (λ k. b ∣ k) (sym cross) (dvd-mul_left b (unsigned_abs d))) in
    let by_n : n ∣ unsigned_abs d = dvd_of_coprime n b (unsigned_abs d) x.lowest.1 (subst (λ k. n ∣ k) (cross ∙ turned (unsigned_abs d) b) (dvd-mul_right n e)) in (
      (λ none. omega (arith, ints, none, e_above)),
      record {
        num = omega (arith, d_small, le_of_dvd {m = n} {n = unsigned_abs d} (omega (arith, ints, d_above)) by_n);
        den = omega (arith, e_small, le_of_dvd {m = b} {n = e} (omega (arith, ints, e_above)) by_b);
      },
    )
  where
    turned : (a b : ℕ) → a * b ≡ b * a
    turned a b = omega arith

-- the number of one more fraction
joined_is : (xs : List ℚ) (k : ℕ) (den other : ℤ) (x : ℚ) (d : ℕ) → pos d ≡ den → other ≡ x.den → x ≡ at xs k → pos (d * den_of (make (pos d) (at xs k).den)) ≡ den *ℤ (make den other).den
joined_is xs k den other x d is same here =
    ap (λ n. pos d *ℤ n) (den_is (make (pos d) (at xs k).den))
    ∙ ap (λ n. pos d *ℤ (make (pos d) n).den) (ap (λ (a : ℚ). a.den) (sym here) ∙ sym same)
    ∙ ap (λ n. n *ℤ (make n other).den) is

pub next_common : (xs : List ℚ) (k : ℕ) (den other next : ℤ) (x : ℚ) → k < length xs → IsCommonDenominator (take k xs) den → other ≡ x.den → x ≡ at xs k → next ≡ den *ℤ (make den other).den → IsSmall next → IsCommonDenominator (take (k + 1) xs) next
next_common xs k den other next x less (d, is, common, small) same here value next_small =
    (d * den_of (make (pos d) (at xs k).den), joined_is xs k den other x d is same here ∙ sym value, grows xs k d less common, next_small)

not_small : (d : ℕ) → (IsSmall (pos d) → ⊥) → 2 ^ 127 ≤ d
not_small d large = ⊎_elim (λ less. absurd (large less)) (λ le. le) (cases_lt d (2 ^ 127))

pub too_large : (xs : List ℚ) (k : ℕ) (den other : ℤ) (x : ℚ) → k < length xs → IsCommonDenominator (take k xs) den → other ≡ x.den → x ≡ at xs k → (IsSmall (den *ℤ (make den other).den) → ⊥) → HasLargeDenominator xs
too_large xs k den other x less (d, is, common, small) same here large =
    let new = d * den_of (make (pos d) (at xs k).den) in
    let (all, least) = some_common xs in
    let divides : new ∣ all = (grows xs k d less common).least all (All-take (λ y. den_of y ∣ all) (k + 1) xs least.each) in
    let most : new ≤ all = le_of_dvd (omega (arith, least.positive)) divides in
    let past : 2 ^ 127 ≤ new = not_small new (λ fits. large (subst IsSmall (joined_is xs k den other x d is same here) fits)) in
    (all, least, omega (arith, most, past))

-- a small one leaves no large one
pub common_stays : (xs : List ℚ) (den : ℤ) → IsCommonDenominator xs den → HasLargeDenominator xs → ⊥
common_stays xs den (d, is, common, small) (e, least, large) =
    let most : e ≤ d = le_of_dvd (omega (arith, common.positive)) (least.least d common.each) in
    let fits : IsSmall (pos d) = subst IsSmall (sym is) small in
    omega (arith, most, large, fits)

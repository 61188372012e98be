-- Fractions times their least common denominator.
use Rattle.std.proofs.Common.{◌≡◌, ◌≤◌, ◌<◌, ◌+◌, ◌*◌, ◌/◌, ◌∙◌, ⊎_elim, inl, inr, ℕ, refl, sym, ap, subst, arith, List, [], ◌∷◌, ◌++◌, length, length-append}
use Rattle.std.specs.Prelude.{◌^◌, ℤ, pos, ◌*ℤ◌, ◌<ℤ◌, unsigned_abs, int_div}
use Rattle.std.proofs.Math.Seq.{get_or-append_seam}
use Rattle.std.proofs.lemmas.List.{get_or_append_left}
use Rattle.std.proofs.lemmas.List.Elements.{All-from_get_or}
use Rattle.std.proofs.lemmas.Bool.{cases_eq, cases_lt}
use Rattle.std.proofs.lemmas.Int.{unsigned_abs-mul}
use Rattle.std.proofs.lemmas.Nat.Gcd.{IsGcd-swap}
use Prim.Native.Nat.{◌∣◌}
use native.Mathlib.Nat.{div-mul_cancel, dvd-mul_left, le_of_dvd}
use Rattle.algebra.proofs.Divisors.{dvd_of_coprime}
use Rattle.algebra.proofs.Lowest.{abs_pos}
use Rattle.algebra.proofs.Order.{mul_pos}
use Rattle.algebra.proofs.Rings.{int_ring, con, ◌⊗◌, ◌⊜◌, ring2, ring3}
use Rattle.rational.specs.Rational.{ℚ, make, whole, ◌*ℚ◌}
use Rattle.rational.proofs.Rationals.{den_above, make-parts, make-same, mul-make, one_above, rational_ring, whole-mul}
use Rattle.rational.proofs.Facts.{whole-inj}
use Rattle.frac128.specs.Limits.{IsSmall}
use Rattle.frac128.specs.Denominators.{HasLargeDenominator, IsCommonDenominator, IsLeastDenominator, den_of, numerator_over}
use Rattle.tableau.specs.Leaves.{AreOfLeaf}
use Rattle.tableau.specs.Outcomes.{number_at}
use Rattle.tableau.specs.Program.{zero_ℚ}
use Rattle.tableau.specs.Denominators.{AreNumerators, AreWholeMultipliers, HasLarge, PassWhole, whole_at}

-- a fraction times its denominator is its numerator
times_own : (n d : ℤ) → pos 0 <ℤ d → whole d *ℚ make n d ≡ whole n
unfolding whole
times_own n d above =
    mul-make d (pos 1) n d one_above above
    ∙ make-same (d *ℤ n) (pos 1 *ℤ d) n (pos 1) (mul_pos (pos 1) d one_above above) one_above (ring2 int_ring (λ n d. d ⊗ n ⊗ con (pos 1) ⊜ n ⊗ (con (pos 1) ⊗ d)) refl n d)

num-is : (x : ℚ) → whole x.den *ℚ x ≡ whole x.num
num-is x = ap (λ y. whole x.den *ℚ y) (sym (make-parts x)) ∙ times_own x.num x.den (den_above x)

den_is : (x : ℚ) → pos (den_of x) ≡ x.den
den_is x = abs_pos x.den (den_above x)

-- a fraction times a multiple of its denominator
abbrev times_own_part : ℕ → ℚ → ℤ
times_own_part d x = x.num *ℤ pos (d / den_of x)

-- a multiple of the denominator makes the fraction whole
made_whole : (x : ℚ) (d : ℕ) → den_of x ∣ d → whole (times_own_part d x) ≡ whole (pos d) *ℚ x
made_whole x d divides =
    let q = d / den_of x in
    whole-mul x.num (pos q)
    ∙ ap (λ y. y *ℚ whole (pos q)) (sym (num-is x))
    ∙ ring3 rational_ring (λ e x q. e ⊗ x ⊗ q ⊜ q ⊗ e ⊗ x) refl (whole x.den) x (whole (pos q))
    ∙ ap (λ y. y *ℚ x) (ap (λ z. whole (pos q) *ℚ whole z) (sym (den_is x)) ∙ sym (whole-mul (pos q) (pos (den_of x))) ∙ ap (λ k. whole (pos k)) (div-mul_cancel (den_of x) divides))

-- and nothing else does
divides_by : (x : ℚ) (d : ℕ) (z : ℤ) → whole z ≡ whole (pos d) *ℚ x → den_of x ∣ d
divides_by x d z is =
    let cross : z *ℤ x.den ≡ pos d *ℤ x.num =
    whole-inj (z *ℤ x.den) (pos d *ℤ x.num)
    (whole-mul z x.den ∙ ap (λ y. y *ℚ whole x.den) is ∙ ring3 rational_ring (λ d x e. d ⊗ x ⊗ e ⊜ d ⊗ (e ⊗ x)) refl (whole (pos d)) x (whole x.den) ∙ ap (λ y. whole (pos d) *ℚ y) (num-is x) ∙ sym (whole-mul (pos d) x.num)) in
    let abs : unsigned_abs z * den_of x ≡ d * unsigned_abs x.num = sym (unsigned_abs-mul z x.den) ∙ ap unsigned_abs cross ∙ unsigned_abs-mul (pos d) x.num in
    dvd_of_coprime (den_of x) (unsigned_abs x.num) d (IsGcd-swap (unsigned_abs x.num) (den_of x) 1 x.lowest.1)
    (subst (λ k. den_of x ∣ k) (abs ∙ turned d (unsigned_abs x.num)) (dvd-mul_left (den_of x) (unsigned_abs z)))
  where
    turned : (a b : ℕ) → a * b ≡ b * a
    turned a b = omega arith

-- ---- the leaf
module _ (xs : List ℚ) (d : ℕ) (is : IsLeastDenominator xs d) where
  abbrev y : ℕ → ℚ
  y = number_at xs

  leaf : AreOfLeaf (length xs) y d (λ k. times_own_part d (y k))
  leaf = record {
    times = record { positive = is.positive; each = λ k less. made_whole (y k) d (is.each k zero_ℚ less) };
    least = λ e w times. le_of_dvd (omega (arith, times.positive)) (is.least e (All-from_get_or (λ x. den_of x ∣ e) xs zero_ℚ (λ k less. divides_by (y k) e (w k) (times.each k less))));
  }

-- there is one leaf
pub leaves_are_one : (n : ℕ) (y : ℕ → ℚ) (d e : ℕ) (z w : ℕ → ℤ) → AreOfLeaf n y d z → AreOfLeaf n y e w → (d ≡ e) × ((k : ℕ) → k < n → z k ≡ w k)
leaves_are_one n y d e z w one other =
    let same : d ≡ e = omega (arith, one.least e w other.times, other.least d z one.times) in
    (same, λ k less. whole-inj (z k) (w k) (one.times.each k less ∙ ap (λ m. whole (pos m) *ℚ y k) same ∙ sym (other.times.each k less)))

-- ---- the fractions times it
pub one_more : (n : ℕ) (y : ℕ → ℚ) (den next : ℤ) (x : ℚ) (list : List ℤ) → AreNumerators n y den list → x ≡ y n → next ≡ numerator_over x den → IsSmall next → AreNumerators (n + 1) y den (list ++ (next ∷ []))
one_more n y den next x list are here value next_small =
    let last_is : (k : ℕ) → k ≡ n → whole_at (list ++ (next ∷ [])) k ≡ next = λ k last. ap (whole_at (list ++ (next ∷ []))) (last ∙ sym are.size) ∙ get_or-append_seam list next [] (pos 0) in
    let before_is : (k : ℕ) → k < n → whole_at (list ++ (next ∷ [])) k ≡ whole_at list k = λ k less. get_or_append_left list (next ∷ []) (pos 0) k (omega (arith, less, are.size)) in
    record {
      size = omega (arith, length-append list (next ∷ []), are.size);
      each = λ k less. ⊎_elim
          (λ last. last_is k last ∙ value ∙ ap (λ z. numerator_over z den) (here ∙ ap y (sym last)))
          (λ before. let low : k < n = omega (arith, less, before) in before_is k low ∙ are.each k low)
          (cases_eq k n);
      small = λ k less. ⊎_elim
          (λ last. subst IsSmall (sym (last_is k last)) next_small)
          (λ before. let low : k < n = omega (arith, less, before) in subst IsSmall (sym (before_is k low)) (are.small k low))
          (cases_eq k n);
    }

times_is : (x : ℚ) (d : ℕ) (den : ℤ) → pos d ≡ den → numerator_over x den ≡ times_own_part d x
times_is x d den is = ap (λ k. x.num *ℤ int_div k x.den) (sym is) ∙ ap (λ k. x.num *ℤ int_div (pos d) k) (sym (den_is x))

-- ---- the answers
pub whole_is : (xs : List ℚ) (den : ℤ) (list : List ℤ) → IsCommonDenominator xs den → AreNumerators (length xs) (number_at xs) den list → AreWholeMultipliers xs den list
whole_is xs den list (d, is, common, small) are =
    let y = number_at xs in
    let here = leaf xs d common in
    record {
      size = are.size;
      leaf = (
        d,
        is,
        record {
          times = record { positive = common.positive; each = λ k less. ap whole (are.each k less ∙ times_is (y k) d den is) ∙ here.times.each k less };
          least = here.least;
        },
      );
      den_small = small;
      numerators_small = are.small;
    }

not_small : (z : ℤ) → (IsSmall z → ⊥) → 2 ^ 127 ≤ unsigned_abs z
not_small z large = ⊎_elim (λ less. absurd (large less)) (λ le. le) (cases_lt (unsigned_abs z) (2 ^ 127))

-- where all is small nothing passes
pub whole_stays : (xs : List ℚ) (den : ℤ) (list : List ℤ) → AreWholeMultipliers xs den list → PassWhole xs → ⊥
whole_stays xs den list whole passes =
    let (d, is, leaf) = whole.leaf in
    let one = leaves_are_one (length xs) (number_at xs) d passes.den (whole_at list) passes.numerators leaf passes.leaf in
    ⊎_elim
    (λ large. omega (arith, large, one.0, subst IsSmall (sym is) whole.den_small))
    (λ large. omega (arith, large.2, subst IsSmall (one.1 large.0 large.1) (whole.numerators_small large.0 large.1)))
    passes.cause

pub den_passes : (xs : List ℚ) → HasLargeDenominator xs → PassWhole xs
den_passes xs (d, least, large) = record { den = d; numerators = λ k. times_own_part d (number_at xs k); leaf = leaf xs d least; cause = inl large }

pub numerator_passes : (xs : List ℚ) (den : ℤ) → IsCommonDenominator xs den → HasLarge (length xs) (number_at xs) den → PassWhole xs
numerator_passes xs den (d, is, common, small) (k, less, large) =
    let y = number_at xs in
    record {
      den = d;
      numerators = λ j. times_own_part d (y j);
      leaf = leaf xs d common;
      cause = inr (k, less, not_small (times_own_part d (y k)) (λ fits. large (subst IsSmall (sym (times_is (y k) d den is)) fits)));
    }

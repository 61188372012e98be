-- The rational numbers, each in lowest terms, so that equal numbers are one value.
use Rattle.std.specs.Prelude.{◌≡◌, ℤ, pos, negsuc, ◌+ℤ◌, ◌*ℤ◌, neg_ℤ, ◌≤ℤ◌, unsigned_abs, int_div}
use Rattle.std.specs.Int.{int_div_euclid}
use Rattle.std.specs.Ordering.{int_cmp}
use Rattle.std.specs.declared.cmp.Ordering.{Ordering}
use Rattle.std.specs.declared.cmp.Ordering.TheVariants.{Less, Equal, Greater}
use Prim.Native.Nat.{zero, suc}
use Rattle.algebra.specs.Fractions.{IsLowest}
use Rattle.algebra.proofs.Divisors.{euclid}
use Rattle.algebra.proofs.Lowest.{divided, zero_lowest, above_zero, gcd_above}

pub record ℚ : Type 0 where
  pub num : ℤ
  pub den : ℤ
  pub lowest : IsLowest num den

abbrev pub zero_ℚ : ℚ
zero_ℚ = record { num = pos 0; den = pos 1; lowest = zero_lowest }

-- n/d for d above 0, and 0 for another d
unfoldable pub make : ℤ → ℤ → ℚ
make n (pos (suc k)) =
    let d : ℤ = pos (suc k) in
    let g = euclid (unsigned_abs n) (suc k) in
    record { num = int_div n (pos g.0); den = int_div d (pos g.0); lowest = (divided n d (pos g.0) (above_zero k) (gcd_above (unsigned_abs n) k g.0 g.1) g.1).0 }
make n (pos zero) = zero_ℚ
make n (negsuc k) = zero_ℚ

infixl 6 ◌+ℚ◌ ◌-ℚ◌
infixl 7 ◌*ℚ◌
infix 4 ◌≤ℚ◌
unfoldable pub ◌+ℚ◌ : ℚ → ℚ → ℚ
x +ℚ y = make (x.num *ℤ y.den +ℤ y.num *ℤ x.den) (x.den *ℤ y.den)

unfoldable pub ◌*ℚ◌ : ℚ → ℚ → ℚ
x *ℚ y = make (x.num *ℤ y.num) (x.den *ℤ y.den)

unfoldable pub neg_ℚ : ℚ → ℚ
neg_ℚ x = make (neg_ℤ x.num) x.den

abbrev pub ◌-ℚ◌ : ℚ → ℚ → ℚ
x -ℚ y = x +ℚ neg_ℚ y

unfoldable pub whole : ℤ → ℚ
whole n = make n (pos 1)

-- d/n, and 0 where n is 0
abbrev pub upside_down : ℤ → ℤ → ℚ
upside_down (pos n) d = make d (pos n)
upside_down (negsuc n) d = make (neg_ℤ d) (pos (suc n))

unfoldable pub inv_ℚ : ℚ → ℚ
inv_ℚ x = upside_down x.num x.den

pub record ◌≤ℚ◌ (x y : ℚ) : Type 0 where
  pub cross : (x.num *ℤ y.den) ≤ℤ (y.num *ℤ x.den)

-- ---- rounding to whole numbers
abbrev pub floor_ℚ : ℚ → ℤ
floor_ℚ x = int_div_euclid x.num x.den

abbrev pub ceil_ℚ : ℚ → ℤ
ceil_ℚ x = neg_ℤ (int_div_euclid (neg_ℤ x.num) x.den)

-- the greatest whole number not above x
pub record IsFloor (x : ℚ) (z : ℤ) : Type 0 where
  pub below : whole z ≤ℚ x
  pub greatest : (w : ℤ) → whole w ≤ℚ x → w ≤ℤ z

-- the least whole number not below x
pub record IsCeiling (x : ℚ) (z : ℤ) : Type 0 where
  pub above : x ≤ℚ whole z
  pub least : (w : ℤ) → x ≤ℚ whole w → z ≤ℤ w

-- ---- how two numbers stand
abbrev pub cmp_ℚ : ℚ → ℚ → Ordering
cmp_ℚ x y = int_cmp (x.num *ℤ y.den) (y.num *ℤ x.den)

abbrev pub IsOrder : ℚ → ℚ → Ordering → Type 0
IsOrder x y Less = y ≤ℚ x → ⊥
IsOrder x y Equal = x ≡ y
IsOrder x y Greater = x ≤ℚ y → ⊥

-- Laws of the rational numbers that stand by themselves.
use Rattle.std.specs.Prelude.{◌≡◌, ◌≢◌, ◌⊎◌, pos}
use Rattle.std.specs.Cmp.{IsTotalOrder}
use Rattle.rational.specs.Rational.{ℚ, ◌+ℚ◌, ◌*ℚ◌, ◌≤ℚ◌, neg_ℚ, inv_ℚ, whole, floor_ℚ, ceil_ℚ, cmp_ℚ, IsFloor, IsCeiling, IsOrder}

-- the laws of an ordered field
pub record AreOrderedField : Type 0 where
  pub add_comm : (x y : ℚ) → x +ℚ y ≡ y +ℚ x
  pub add_assoc : (x y z : ℚ) → (x +ℚ y) +ℚ z ≡ x +ℚ (y +ℚ z)
  pub zero_add : (x : ℚ) → whole (pos 0) +ℚ x ≡ x
  pub neg_add : (x : ℚ) → neg_ℚ x +ℚ x ≡ whole (pos 0)
  pub mul_comm : (x y : ℚ) → x *ℚ y ≡ y *ℚ x
  pub mul_assoc : (x y z : ℚ) → (x *ℚ y) *ℚ z ≡ x *ℚ (y *ℚ z)
  pub one_mul : (x : ℚ) → whole (pos 1) *ℚ x ≡ x
  pub mul_add : (x y z : ℚ) → x *ℚ (y +ℚ z) ≡ x *ℚ y +ℚ x *ℚ z
  pub inv_mul : (x : ℚ) → x ≢ whole (pos 0) → inv_ℚ x *ℚ x ≡ whole (pos 1)
  pub le_refl : (x : ℚ) → x ≤ℚ x
  pub le_trans : (x y z : ℚ) → x ≤ℚ y → y ≤ℚ z → x ≤ℚ z
  pub le_antisym : (x y : ℚ) → x ≤ℚ y → y ≤ℚ x → x ≡ y
  pub le_total : (x y : ℚ) → (x ≤ℚ y) ⊎ (y ≤ℚ x)
  pub add_le : (x y z : ℚ) → y ≤ℚ z → (x +ℚ y) ≤ℚ (x +ℚ z)
  pub mul_nonneg : (x y : ℚ) → whole (pos 0) ≤ℚ x → whole (pos 0) ≤ℚ y → whole (pos 0) ≤ℚ (x *ℚ y)

pub record RoundToWhole : Type 0 where
  pub floor : (x : ℚ) → IsFloor x (floor_ℚ x)
  pub ceiling : (x : ℚ) → IsCeiling x (ceil_ℚ x)

-- the comparison of cross products says how two numbers stand, and is a total order
pub record IsComparison : Type 0 where
  pub order : (x y : ℚ) → IsOrder x y (cmp_ℚ x y)
  pub total : IsTotalOrder cmp_ℚ

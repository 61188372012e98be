-- Order on ℤ and products.
use Rattle.std.proofs.Common.{◌≡◌, zero, suc, arith, refl}
use mathlib.Core.Logic.{◌⊎◌}
use Rattle.std.proofs.lemmas.Int.{ints, by_lt_z}
use borrow.Author.Differences.{same_out, same_in, lt_out, le_out, below_in, at_most_in, sum_is_lem, neg_is}
use lib.IntN.{ℤ, pos, negsuc, ◌+ℤ◌, ◌-ℤ◌, ◌*ℤ◌}
use lib.Signed.{◌≤ℤ◌, ◌<ℤ◌, clash_ℤ}
use Rattle.algebra.proofs.Rings.{int_ring, ◌⊖◌, ◌⊗◌, ◌⊜◌, ring3}

-- for `omega`: sums, differences and comparisons of integers, with each product an unknown
pub ruleset linear = (same_out, same_in, lt_out, le_out, below_in, at_most_in, sum_is_lem, neg_is)

pub le_antisym : (a b : ℤ) → a ≤ℤ b → b ≤ℤ a → a ≡ b
le_antisym a b p q = omega (arith, ints)

pub mul_nonneg : (a b : ℤ) → pos 0 ≤ℤ a → pos 0 ≤ℤ b → pos 0 ≤ℤ (a *ℤ b)
mul_nonneg a b p q = grind (arith, ints)

pub mul_pos : (a b : ℤ) → pos 0 <ℤ a → pos 0 <ℤ b → pos 0 <ℤ (a *ℤ b)
mul_pos (pos (suc m)) (pos (suc n)) p q = omega (arith, ints)
mul_pos (pos zero) b p q = omega (arith, ints)
mul_pos (negsuc m) b p q = omega (arith, ints)
mul_pos (pos (suc m)) (pos zero) p q = omega (arith, ints)
mul_pos (pos (suc m)) (negsuc n) p q = omega (arith, ints)

pub times_difference : (c a b : ℤ) → c *ℤ (b -ℤ a) ≡ c *ℤ b -ℤ c *ℤ a
times_difference = ring3 int_ring (λ c a b. c ⊗ (b ⊖ a) ⊜ c ⊗ b ⊖ c ⊗ a) refl

pub square_nonneg : (a : ℤ) → pos 0 ≤ℤ (a *ℤ a)
square_nonneg a = grind (arith, ints)

pub mul_le : (c a b : ℤ) → pos 0 ≤ℤ c → a ≤ℤ b → (c *ℤ a) ≤ℤ (c *ℤ b)
mul_le c a b p q =
    let m : pos 0 ≤ℤ (c *ℤ (b -ℤ a)) = mul_nonneg c (b -ℤ a) p (omega (arith, ints)) in
    let e = times_difference c a b in
    omega (arith, ints)

pub mul_lt : (c a b : ℤ) → pos 0 <ℤ c → a <ℤ b → (c *ℤ a) <ℤ (c *ℤ b)
mul_lt c a b p q =
    let m : pos 0 <ℤ (c *ℤ (b -ℤ a)) = mul_pos c (b -ℤ a) p (omega (arith, ints)) in
    let e = times_difference c a b in
    omega (arith, ints)

pub cancel_le : (c a b : ℤ) → pos 0 <ℤ c → (c *ℤ a) ≤ℤ (c *ℤ b) → a ≤ℤ b
cancel_le c a b p q = by_lt_z b a (λ l. clash_ℤ (mul_lt c b a p l) q) (λ h. h)

pub cancel_lt : (c a b : ℤ) → pos 0 <ℤ c → (c *ℤ a) <ℤ (c *ℤ b) → a <ℤ b
cancel_lt c a b p q = by_lt_z a b (λ h. h) (λ l. clash_ℤ q (mul_le c b a (omega (arith, ints)) l))

pub cancel_eq : (c a b : ℤ) → pos 0 <ℤ c → c *ℤ a ≡ c *ℤ b → a ≡ b
cancel_eq c a b p e = le_antisym a b (cancel_le c a b p (omega (arith, ints))) (cancel_le c b a p (omega (arith, ints)))

pub add_le : (a b c d : ℤ) → a ≤ℤ b → c ≤ℤ d → (a +ℤ c) ≤ℤ (b +ℤ d)
add_le a b c d p q = omega (arith, ints)

pub le_trans : (a b c : ℤ) → a ≤ℤ b → b ≤ℤ c → a ≤ℤ c
le_trans a b c p q = omega (arith, ints)

pub le_total : (a b : ℤ) → (a ≤ℤ b) ⊎ (b ≤ℤ a)
le_total a b = grind (arith, ints)

pub add_le_left : (c a b : ℤ) → a ≤ℤ b → (c +ℤ a) ≤ℤ (c +ℤ b)
add_le_left c a b h = omega (arith, ints)

pub le_of_lt : (a b : ℤ) → a <ℤ b → a ≤ℤ b
le_of_lt a b h = omega (arith, ints)

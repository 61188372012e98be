-- How products of whole numbers stand, by their absolute values.
use Rattle.std.proofs.Common.{◌≡◌, ◌*◌, ℕ, suc, ℤ, pos, negsuc, ◌*ℤ◌, neg_ℤ, ◌<ℤ◌, ◌≤ℤ◌, unsigned_abs, sym, arith}
use Rattle.std.specs.Ordering.{int_cmp, nat_cmp}
use Rattle.std.proofs.lemmas.Int.{ints}

cmp_pos : (m n : ℕ) → int_cmp (pos m) (pos n) ≡ nat_cmp m n
cmp_pos m n = grind (arith, ints)

cmp_neg : (m n : ℕ) → int_cmp (neg_ℤ (pos m)) (neg_ℤ (pos n)) ≡ nat_cmp n m
cmp_neg m n = grind (arith, ints)

-- products of numbers that aren't negative
pub cmp_above : (a b c d : ℤ) → pos 0 ≤ℤ a → pos 0 <ℤ b → pos 0 ≤ℤ c → pos 0 <ℤ d → nat_cmp (unsigned_abs a * unsigned_abs b) (unsigned_abs c * unsigned_abs d) ≡ int_cmp (a *ℤ b) (c *ℤ d)
cmp_above (pos a) (pos b) (pos c) (pos d) pa pb pc pd = sym (cmp_pos (a * b) (c * d))
cmp_above (negsuc a) b c d pa pb pc pd = absurd (omega (arith, ints))
cmp_above (pos a) (negsuc b) c d pa pb pc pd = absurd (omega (arith, ints))
cmp_above (pos a) (pos b) (negsuc c) d pa pb pc pd = absurd (omega (arith, ints))
cmp_above (pos a) (pos b) (pos c) (negsuc d) pa pb pc pd = absurd (omega (arith, ints))

-- products of negative numbers stand the other way round
pub cmp_below : (a b c d : ℤ) → a <ℤ pos 0 → pos 0 <ℤ b → c <ℤ pos 0 → pos 0 <ℤ d → nat_cmp (unsigned_abs c * unsigned_abs d) (unsigned_abs a * unsigned_abs b) ≡ int_cmp (a *ℤ b) (c *ℤ d)
cmp_below (negsuc a) (pos b) (negsuc c) (pos d) pa pb pc pd = sym (cmp_neg (suc a * b) (suc c * d))
cmp_below (pos a) b c d pa pb pc pd = absurd (omega (arith, ints))
cmp_below (negsuc a) (negsuc b) c d pa pb pc pd = absurd (omega (arith, ints))
cmp_below (negsuc a) (pos b) (pos c) d pa pb pc pd = absurd (omega (arith, ints))
cmp_below (negsuc a) (pos b) (negsuc c) (negsuc d) pa pb pc pd = absurd (omega (arith, ints))

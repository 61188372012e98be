-- What is enough for a claim, and numbers that are rounded up.
use Rattle.std.proofs.Common.{◌≡◌, ◌≤◌, ◌<◌, ◌+◌, ◌-◌, ⊎_elim, ◌⊎◌, inl, inr, ℕ, subst, arith}
use Rattle.std.specs.Prelude.{ℤ, pos, negsuc, ◌*ℤ◌, ◌≤ℤ◌, unsigned_abs}
use Rattle.std.proofs.lemmas.Int.{ints}
use Rattle.std.proofs.Math.Nat.{mul-le-mul_right}
use Rattle.algebra.proofs.Order.{linear}
use Rattle.cert_lines.specs.declared.parts.Claim.{Claim}
use Rattle.cert_lines.specs.declared.parts.Claim.TheVariants.{Optimal, Infeasible, Bound as BoundOf}
use Rattle.cert_meaning.specs.declared.says.LeafSays.TheVariants.{NoPlan, AtLeast}
use Rattle.cert_meaning.specs.Says.{IsRoundedUp}
use Rattle.cert_meaning.specs.Accepts.{IsEnough}
use Rattle.existence.proofs.Deciding.{Decided, all_or_first, le_or_not, lt_or_not}
use Rattle.answers_exist.proofs.Sums.{le_z_or_not}

-- ---- a number over a denominator, rounded up
times_more : (d n : ℕ) → 1 ≤ d → pos n ≤ℤ (pos d *ℤ pos n)
times_more d n some = let more = mul-le-mul_right n some in omega (arith, ints, linear, more)

pub has_rounded_up : (den a : ℤ) → pos 1 ≤ℤ den → (n : ℕ) × IsRoundedUp den a n
has_rounded_up (negsuc d) a some = absurd (omega (arith, ints, some))
has_rounded_up (pos d) a some =
    ⊎_elim
    (λ never. absurd (never (unsigned_abs a + 1) (omega arith) (omega arith) (subst (λ k. a ≤ℤ (pos d *ℤ pos k)) (back (unsigned_abs a)) enough)))
    (λ first. (
      first.0 - 1,
      record {
        above = ⊎_elim (λ le. le) (λ above. absurd (first.3 above)) (le_z_or_not a (pos d *ℤ pos (first.0 - 1)));
        least = λ k le. ⊎_elim (λ low. low) (λ high. absurd (first.4 (k + 1) (omega arith) (below k first.0 first.1 high) (subst (λ j. a ≤ℤ (pos d *ℤ pos j)) (back k) le))) (le_or_not (first.0 - 1) k);
      },
    ))
    (all_or_first (λ t. a ≤ℤ (pos d *ℤ pos (t - 1)) → ⊥) (λ t. ⊎_elim (λ le. inr (λ no_such. no_such le)) (λ above. inl above) (le_z_or_not a (pos d *ℤ pos (t - 1)))) (unsigned_abs a + 1))
  where
    back : (k : ℕ) → k ≡ k + 1 - 1
    back k = omega arith

    below : (k t : ℕ) → 1 ≤ t → (t - 1 ≤ k → ⊥) → k + 1 < t
    below k t low high = ⊎_elim (λ less. less) (λ most. absurd (high (omega (arith, most)))) (lt_or_le (k + 1) t)
      where
        lt_or_le : (x y : ℕ) → (x < y) ⊎ (y ≤ x)
        lt_or_le x y = ⊎_elim (λ less. inl less) (λ none. inr (grind (arith, none))) (lt_or_not x y)

    own : (z : ℤ) → z ≤ℤ pos (unsigned_abs z)
    own (pos n) = omega (arith, ints)
    own (negsuc n) = omega (arith, ints)

    some_of : (k : ℕ) → pos 1 ≤ℤ pos k → 1 ≤ k
    some_of k low = omega (arith, ints, low)

    enough : a ≤ℤ (pos d *ℤ pos (unsigned_abs a))
    enough = let one = own a in let more = times_more d (unsigned_abs a) (some_of d some) in omega (arith, ints, one, more)

-- ---- what is enough for a claim
pub enough_or_not : (claim : Claim) (n : ℕ) → Decided (IsEnough claim (AtLeast n))
enough_or_not (Optimal c) n = le_or_not c n
enough_or_not Infeasible n = inr (λ is. is)
enough_or_not (BoundOf c) n = le_or_not c n

pub none_is_enough : (claim : Claim) → IsEnough claim NoPlan
none_is_enough (Optimal c) = tt
none_is_enough Infeasible = tt
none_is_enough (BoundOf c) = tt

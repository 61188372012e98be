-- Sums and differences over the common denominator.
use Rattle.std.proofs.Common.{◌≡◌, ℤ, pos, ◌+ℤ◌, ◌-ℤ◌, ◌*ℤ◌, neg_ℤ, ◌<ℤ◌, ◌∙◌, sym, ap, subst, refl}
use Rattle.algebra.proofs.Integers as Z
use Rattle.algebra.proofs.Order.{mul_pos}
use Rattle.algebra.proofs.Rings.{int_ring, ring5, ◌⊕◌, ◌⊗◌, ◌⊜◌}
use Rattle.rational.specs.Rational.{make, ◌+ℚ◌, ◌-ℚ◌}
use Rattle.rational.proofs.Rationals.{add-make, make-same, neg-make}

-- b is p times g, and d is q times g
sum_parts : (a c p q g : ℤ) → pos 0 <ℤ (p *ℤ g) → pos 0 <ℤ (q *ℤ g) → pos 0 <ℤ q → make (a *ℤ q +ℤ c *ℤ p) (p *ℤ g *ℤ q) ≡ make a (p *ℤ g) +ℚ make c (q *ℤ g)
sum_parts a c p q g pb pd pq =
    make-same (a *ℤ q +ℤ c *ℤ p) (p *ℤ g *ℤ q) (a *ℤ (q *ℤ g) +ℤ c *ℤ (p *ℤ g)) (p *ℤ g *ℤ (q *ℤ g)) (mul_pos (p *ℤ g) q pb pq) (mul_pos (p *ℤ g) (q *ℤ g) pb pd)
    (ring5 int_ring (λ a c p q g. (a ⊗ q ⊕ c ⊗ p) ⊗ (p ⊗ g ⊗ (q ⊗ g)) ⊜ (a ⊗ (q ⊗ g) ⊕ c ⊗ (p ⊗ g)) ⊗ (p ⊗ g ⊗ q)) refl a c p q g)
    ∙ sym (add-make a (p *ℤ g) c (q *ℤ g) pb pd)

pub sum_is : (a b c d g p q : ℤ) → pos 0 <ℤ b → pos 0 <ℤ d → pos 0 <ℤ q → p *ℤ g ≡ b → q *ℤ g ≡ d → make (a *ℤ q +ℤ c *ℤ p) (b *ℤ q) ≡ make a b +ℚ make c d
sum_is a b c d g p q pb pd pq eb ed =
    subst (λ x. make (a *ℤ q +ℤ c *ℤ p) (x *ℤ q) ≡ make a x +ℚ make c d) eb
    (subst (λ y. make (a *ℤ q +ℤ c *ℤ p) (p *ℤ g *ℤ q) ≡ make a (p *ℤ g) +ℚ make c y) ed
    (sum_parts a c p q g (subst (λ x. pos 0 <ℤ x) (sym eb) pb) (subst (λ x. pos 0 <ℤ x) (sym ed) pd) pq))

pub difference_is : (a b c d g p q : ℤ) → pos 0 <ℤ b → pos 0 <ℤ d → pos 0 <ℤ q → p *ℤ g ≡ b → q *ℤ g ≡ d → make (a *ℤ q -ℤ c *ℤ p) (b *ℤ q) ≡ make a b -ℚ make c d
difference_is a b c d g p q pb pd pq eb ed =
    ap (λ z. make (a *ℤ q +ℤ z) (b *ℤ q)) (sym (Z.neg_mul c p)) ∙ sum_is a b (neg_ℤ c) d g p q pb pd pq eb ed ∙ ap (λ y. make a b +ℚ y) (sym (neg-make c d pd))

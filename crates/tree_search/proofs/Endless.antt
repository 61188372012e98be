-- Laws of costs that may be endless.
use Rattle.std.proofs.Common.{◌≡◌, ◌⊎◌, ⊎_elim, inl, inr, ℕ, min, refl, ap, arith, Option, Some, None}
use Rattle.std.proofs.lemmas.Bool.{cases_lt}
use Rattle.tree_search.specs.Costs.{IsAtMost, IsBelow, lesser}

pub at_most-refl : (a : Option ℕ) → IsAtMost a a
at_most-refl None = tt
at_most-refl (Some a) = omega arith

pub at_most-trans : (a b c : Option ℕ) → IsAtMost a b → IsAtMost b c → IsAtMost a c
at_most-trans a b None h k = tt
at_most-trans None None (Some c) h k = k
at_most-trans None (Some b) (Some c) h k = h
at_most-trans (Some a) None (Some c) h k = absurd k
at_most-trans (Some a) (Some b) (Some c) h k = omega arith

-- what is below a cost is below a greater one
pub below-more : (a b c : Option ℕ) → IsBelow a b → IsAtMost b c → IsBelow a c
below-more None b c h k = h
below-more (Some a) b None h k = tt
below-more (Some a) None (Some c) h k = absurd k
below-more (Some a) (Some b) (Some c) h k = omega arith

pub lesser-below : (a b c : Option ℕ) → IsBelow (lesser a b) c → IsBelow a c ⊎ IsBelow b c
lesser-below None b c h = inr h
lesser-below (Some a) None c h = inl h
lesser-below (Some a) (Some b) None h = inl tt
lesser-below (Some a) (Some b) (Some c) h = ⊎_elim (λ l. inl l) (λ l. inr (omega arith)) (cases_lt a c)

pub lesser-left : (a b : Option ℕ) → IsAtMost (lesser a b) a
lesser-left None b = tt
lesser-left (Some a) None = omega arith
lesser-left (Some a) (Some b) = omega arith

pub lesser-right : (a b : Option ℕ) → IsAtMost (lesser a b) b
lesser-right a None = tt
lesser-right None (Some b) = omega arith
lesser-right (Some a) (Some b) = omega arith

-- two costs that are no less have a lesser one that is no less
pub lesser-more : (a b c d : Option ℕ) → IsAtMost a c → IsAtMost b d → IsAtMost (lesser a b) (lesser c d)
lesser-more a b None d h k = at_most-trans (lesser a b) b d (lesser-right a b) k
lesser-more a b (Some c) None h k = at_most-trans (lesser a b) a (Some c) (lesser-left a b) h
lesser-more None b (Some c) (Some d) h k = absurd h
lesser-more (Some a) None (Some c) (Some d) h k = absurd k
lesser-more (Some a) (Some b) (Some c) (Some d) h k = omega (arith, h, k)

pub lesser-one : (a b : Option ℕ) → (lesser a b ≡ a) ⊎ (lesser a b ≡ b)
lesser-one None b = inr refl
lesser-one (Some a) None = inl refl
lesser-one (Some a) (Some b) =
    ⊎_elim
    (λ l. inl (ap Some (let e : min a b ≡ a = omega arith in e)))
    (λ l. inr (ap Some (let e : min a b ≡ b = omega arith in e)))
    (cases_lt a b)

pub below-less : (a b c : Option ℕ) → IsAtMost a b → IsBelow b c → IsBelow a c
below-less a None c h k = absurd k
below-less None (Some b) c h k = absurd h
below-less (Some a) (Some b) None h k = tt
below-less (Some a) (Some b) (Some c) h k = omega arith

-- what is below a cost is not endless
pub below_endless : (a b : Option ℕ) → IsBelow a b → IsBelow a None
below_endless None b h = h
below_endless (Some a) b h = tt

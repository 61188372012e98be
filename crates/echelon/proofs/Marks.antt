-- A Boolean and what it tells.
use Rattle.std.proofs.Common.{IsTrue, refl, true, false}
use Rattle.std.specs.Prelude.{◌↔◌, Bool}
use Rattle.std.proofs.Math.Bool.{beq}

-- two Booleans are the same exactly where they tell the same
pub agree_where : (a b : Bool) (P : Type 0) → IsTrue b ↔ P → IsTrue (beq a b) ↔ (IsTrue a ↔ P)
agree_where false false P is = (λ _. (λ wrong. cc wrong, is.1), λ _. refl)
agree_where false true P is = (λ wrong. cc wrong, λ same. same.1 (is.0 refl))
agree_where true false P is = (λ wrong. cc wrong, λ same. is.1 (same.0 refl))
agree_where true true P is = (λ _. (λ _. is.0 refl, λ _. refl), λ _. refl)

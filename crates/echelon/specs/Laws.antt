-- Laws about explosions and echelons.
use Rattle.std.specs.Prelude.{◌≡◌, ℕ}
use Rattle.lot_sizing.specs.Problem.{Problem, EachItem}
use Rattle.echelon.specs.Weights.{Exploded, IsExplosionOf, weight_in}

-- two explosions of a problem have the same weights
abbrev pub ExplosionsAreOne : Type 0
ExplosionsAreOne = (m : Problem) (a b : Exploded) → IsExplosionOf m a → IsExplosionOf m b → EachItem m (λ i. EachItem m (λ k. weight_in a i k ≡ weight_in b i k))

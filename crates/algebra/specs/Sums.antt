-- Finite sums, for a sum and a zero of any kind: over the indices below n, and over a list.
use Rattle.std.specs.Prelude.{ℕ, List}
use mathlib.Core.List.{[], ◌∷◌}
use Prim.Native.Nat.{zero, suc}

-- f 0 + f 1 + .. + f (n - 1)
abbrev pub sum_with : {A : Type 0} → (A → A → A) → A → ℕ → (ℕ → A) → A
sum_with add z zero f = z
sum_with add z (suc n) f = add (sum_with add z n f) (f n)

-- the sum of f over the elements of a list
abbrev pub list_sum_with : {A X : Type 0} → (A → A → A) → A → (X → A) → List X → A
list_sum_with add z f [] = z
list_sum_with add z f (x ∷ xs) = add (f x) (list_sum_with add z f xs)

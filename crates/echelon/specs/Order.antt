-- Items by rank, and by number where ranks are equal.
use Rattle.std.specs.Prelude.{◌≡◌, ◌⊎◌, ℕ, ◌≤◌, ◌<◌, List, length}
use Rattle.echelon.specs.Weights.{placed}

-- an item of a rank comes before another of a rank
abbrev pub IsRankedBefore : ℕ → ℕ → ℕ → ℕ → Type 0
IsRankedBefore rank item other_rank other = (rank < other_rank) ⊎ ((rank ≡ other_rank) × (item < other))

-- all items before the one of this rank and number are there in their order
pub record IsOrderedTo (rank : ℕ → ℕ) (items at_rank at_item : ℕ) (order : List ℕ) : Type 0 where
  pub items_exist : (n : ℕ) → n < length order → (1 ≤ placed order n) × (placed order n ≤ items)
  pub only : (n : ℕ) → n < length order → IsRankedBefore (rank (placed order n)) (placed order n) at_rank at_item
  pub each : (i : ℕ) → 1 ≤ i → i ≤ items → IsRankedBefore (rank i) i at_rank at_item → (n : ℕ) × (n < length order) × (placed order n ≡ i)
  pub rising : (n k : ℕ) → n < k → k < length order → IsRankedBefore (rank (placed order n)) (placed order n) (rank (placed order k)) (placed order k)

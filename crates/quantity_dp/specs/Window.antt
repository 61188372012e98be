-- The least of a window of prices, and a queue that has it.
use Rattle.std.specs.Prelude.{◌≡◌, ℕ, ◌+◌, ◌-◌, ◌≤◌, ◌<◌, List, length, slice_index_or, Option, Some, None}
use Rattle.quantity_dp.specs.declared.window.Priced.{Priced}
use Rattle.quantity_dp.specs.declared.window.Window.{Window}

-- the least of the prices from low up to high, where any is there, and none where none is
pub record IsLeastOf (w : ℕ → Option ℕ) (low high c : ℕ) : Type 0 where
  pub some : (k : ℕ) × (low ≤ k) × (k < high) × (w k ≡ Some c)
  pub least : (k d : ℕ) → low ≤ k → k < high → w k ≡ Some d → c ≤ d

abbrev pub IsLeastIn : (ℕ → Option ℕ) → ℕ → ℕ → Option ℕ → Type 0
IsLeastIn w low high None = (k d : ℕ) → low ≤ k → k < high → w k ≡ Some d → ⊥
IsLeastIn w low high (Some c) = IsLeastOf w low high c

abbrev pub no_price : Priced
no_price = record { quantity = 0; price = 0 }

abbrev pub priced_at : List Priced → ℕ → Priced
priced_at list n = slice_index_or list n no_price

-- from its first entry on a queue has prices of the window, in order; later ones are no lower, and each price of the window has an entry that is no earlier and no higher
pub record IsQueue (w : ℕ → Option ℕ) (low high first : ℕ) (list : List Priced) : Type 0 where
  pub begins : first ≤ length list
  pub no_less : (n : ℕ) → first ≤ n → n < length list → low ≤ (priced_at list n).quantity
  pub less : (n : ℕ) → first ≤ n → n < length list → (priced_at list n).quantity < high
  pub own : (n : ℕ) → first ≤ n → n < length list → w (priced_at list n).quantity ≡ Some (priced_at list n).price
  pub later : (n k : ℕ) → first ≤ n → n < k → k < length list → (priced_at list n).quantity < (priced_at list k).quantity
  pub rises : (n k : ℕ) → first ≤ n → n < k → k < length list → (priced_at list n).price ≤ (priced_at list k).price
  pub covers : (k c : ℕ) → low ≤ k → k < high → w k ≡ Some c → (n : ℕ) × (first ≤ n) × (n < length list) × (k ≤ (priced_at list n).quantity) × ((priced_at list n).price ≤ c)

abbrev pub IsWindow : (ℕ → Option ℕ) → ℕ → ℕ → Window → Type 0
IsWindow w low high a = IsQueue w low high a.first a.rising.items

-- a window takes a price as that of its next quantity
abbrev pub TakesNext : Window → Window → ℕ → Option ℕ → Type 0
TakesNext old new quantity price = (w : ℕ → Option ℕ) (low : ℕ) → IsWindow w low quantity old → low ≤ quantity → w quantity ≡ price → IsWindow w low (quantity + 1) new

-- the least quantity of a window leaves it where it is below another one
abbrev pub LeavesBelow : Window → Window → ℕ → Type 0
LeavesBelow old new least = (w : ℕ → Option ℕ) (low high : ℕ) → IsWindow w low high old → low ≤ least → least ≤ low + 1 → IsWindow w least high new

-- so many entries are kept: all later ones are no cheaper than the price, and the last that is kept is
pub record KeepsCheaper (list : List Priced) (first price kept : ℕ) : Type 0 where
  pub within : kept ≤ length list
  pub begins : first ≤ length list → first ≤ kept
  pub dearer : (n : ℕ) → kept ≤ n → n < length list → price ≤ (priced_at list n).price
  pub cheaper : first < kept → (priced_at list (kept - 1)).price < price

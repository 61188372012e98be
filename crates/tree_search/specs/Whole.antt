-- The ranges of a whole problem: each quantity up to the item's largest total, each setup 0 or 1.
use Rattle.std.specs.Prelude.{◌≡◌, ℕ, zero, suc, ◌+◌, ◌*◌, List, [], ◌++◌, replicate}
use Rattle.lot_sizing.specs.Sums.{sum_to}
use Rattle.tree_search.specs.declared.node.Range.{Range}
use Rattle.tree_search.specs.Ranges.{digits, height, volume}

-- f 1 * .. * f n
abbrev pub product_to : ℕ → (ℕ → ℕ) → ℕ
product_to zero f = 1
product_to (suc n) f = product_to n f * f (suc n)

abbrev pub up_to : ℕ → Range
up_to n = record { low = 0; high = n }

-- a range up to f i for each of the periods, item by item
abbrev pub item_ranges : ℕ → ℕ → (ℕ → ℕ) → List Range
item_ranges zero periods f = []
item_ranges (suc i) periods f = item_ranges i periods f ++ replicate periods (up_to (f (suc i)))

-- the quantities, and then the setups
abbrev pub whole_ranges : ℕ → ℕ → (ℕ → ℕ) → List Range
whole_ranges items periods total = item_ranges items periods total ++ item_ranges items periods (λ _. 1)

-- how many choices of quantities and setups there are
abbrev pub whole_volume : ℕ → ℕ → (ℕ → ℕ) → ℕ
whole_volume items periods total = product_to items (λ i. product_to periods (λ t. 2 * (total i + 1)))

-- how often they can be halved
abbrev pub whole_height : ℕ → ℕ → (ℕ → ℕ) → ℕ
whole_height items periods total = sum_to items (λ i. sum_to periods (λ t. 1 + digits (total i)))

abbrev pub WholeIsMeasured : Type 0
WholeIsMeasured =
    (items periods : ℕ) (total : ℕ → ℕ)
    → (volume (whole_ranges items periods total) ≡ whole_volume items periods total)
    × (height (whole_ranges items periods total) ≡ whole_height items periods total)

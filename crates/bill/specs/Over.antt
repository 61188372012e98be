-- Totals and weights of a bill, and which item's are too large.
use Rattle.std.specs.Prelude.{◌≡◌, ◌⊎◌, ℕ, ◌-◌, ◌≤◌, ◌<◌, List, [], length, slice_index_or}
use Rattle.lot_sizing.specs.declared.limits.TheConstants.{MAX_TOTAL}
use Rattle.lot_sizing.specs.Problem.{entry}
use Rattle.lot_sizing.specs.Bill.{Bill, AreTotals, AreWeights, GoesInto}

-- an item's total and its weights are within the bound
pub record KeepsBound (b : Bill) (total : ℕ → ℕ) (weight : ℕ → ℕ → ℕ) (i : ℕ) : Type 0 where
  pub in_all : total i ≤ MAX_TOTAL
  pub each : (k : ℕ) → 1 ≤ k → k ≤ b.items → weight i k ≤ MAX_TOTAL

-- all that an item goes into are within the bound
abbrev pub IsClear : Bill → (ℕ → ℕ) → (ℕ → ℕ → ℕ) → ℕ → Type 0
IsClear b total weight i = (k : ℕ) → 1 ≤ k → k ≤ b.items → GoesInto b i k → KeepsBound b total weight k

-- an item goes into one that is past the bound
abbrev pub IsBelow : Bill → (ℕ → ℕ) → (ℕ → ℕ → ℕ) → ℕ → Type 0
IsBelow b total weight i = (k : ℕ) × (1 ≤ k) × (k ≤ b.items) × GoesInto b i k × (KeepsBound b total weight k → ⊥)

-- an item is past the bound, all that it goes into are within, and no earlier item is like that
pub record IsFirstOver (b : Bill) (total : ℕ → ℕ) (weight : ℕ → ℕ → ℕ) (i : ℕ) : Type 0 where
  pub low : 1 ≤ i
  pub high : i ≤ b.items
  pub over : KeepsBound b total weight i → ⊥
  pub above : IsClear b total weight i
  pub first : (j : ℕ) → 1 ≤ j → j < i → KeepsBound b total weight j ⊎ IsBelow b total weight j

-- a number for an item and another
abbrev pub row_entry : List (List ℕ) → ℕ → ℕ → ℕ
row_entry rows i k = entry (slice_index_or rows (i - 1) []) k

-- each of so many rows has so many entries
abbrev pub HaveSize : ℕ → List (List ℕ) → Type 0
HaveSize n rows = (i : ℕ) → 1 ≤ i → i ≤ n → length (slice_index_or rows (i - 1) []) ≡ n

-- no entry is past the bound
abbrev pub AreSmall : List (List ℕ) → Type 0
AreSmall rows = (i k : ℕ) → row_entry rows i k ≤ MAX_TOTAL

-- these are the item's total and weights
pub record IsKnown (b : Bill) (total : ℕ → ℕ) (weight : ℕ → ℕ → ℕ) (totals : List ℕ) (weights : List (List ℕ)) (i : ℕ) : Type 0 where
  pub in_all : entry totals i ≡ total i
  pub each : (k : ℕ) → 1 ≤ k → k ≤ b.items → row_entry weights i k ≡ weight i k

-- lists of all totals and weights, each within the bound
pub record HasAll (b : Bill) (total : ℕ → ℕ) (weight : ℕ → ℕ → ℕ) (totals : List ℕ) (weights : List (List ℕ)) : Type 0 where
  pub within : (i : ℕ) → 1 ≤ i → i ≤ b.items → KeepsBound b total weight i
  pub known : (i : ℕ) → 1 ≤ i → i ≤ b.items → IsKnown b total weight totals weights i

-- of all totals and weights of the bill
abbrev pub OfAll : Bill → (ℕ → ℕ) → (ℕ → ℕ) → ((ℕ → ℕ) → (ℕ → ℕ → ℕ) → Type 0) → Type 0
OfAll b asked there P = (total : ℕ → ℕ) (weight : ℕ → ℕ → ℕ) → AreTotals b asked there total → AreWeights b weight → P total weight

-- the totals and weights of all items
pub record TotalsAndWeights : Type 0 where
  pub totals : List ℕ
  pub weights : List (List ℕ)

-- they are all those of the bill, each within the bound
abbrev pub AreAll : Bill → List ℕ → List ℕ → TotalsAndWeights → Type 0
AreAll b asked there found = OfAll b (entry asked) (entry there) (λ total weight. HasAll b total weight found.totals found.weights)

-- the first item past the bound, whatever the totals and weights of the bill are
abbrev pub IsFirstOverIn : Bill → List ℕ → List ℕ → ℕ → Type 0
IsFirstOverIn b asked there i = OfAll b (entry asked) (entry there) (λ total weight. IsFirstOver b total weight i)

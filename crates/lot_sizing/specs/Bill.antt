-- The bill of materials: which items go into which, over any number of lines, and how much of them.
use Rattle.std.specs.Prelude.{◌≡◌, ℕ, zero, suc, ◌+◌, ◌-◌, ◌*◌, ◌≤◌, ◌<◌, if◌then◌else◌, ◌==◌}
use Rattle.lot_sizing.specs.Sums.{sum_to}
use Rattle.lot_sizing.specs.Problem.{Problem, item_count, per_unit}

pub record Bill : Type 0 where
  pub items : ℕ
  -- how many units of item i go into one unit of item j over one line
  pub units : ℕ → ℕ → ℕ

abbrev pub bill_of : Problem → Bill
bill_of m = record { items = item_count m; units = per_unit m }

-- item i goes into item j over n + 1 lines
abbrev pub GoesIntoOver : Bill → ℕ → ℕ → ℕ → Type 0
GoesIntoOver b zero i j = 0 < b.units i j
GoesIntoOver b (suc n) i j = (k : ℕ) × (1 ≤ k) × (k ≤ b.items) × (0 < b.units i k) × GoesIntoOver b n k j

-- item i goes into item j over one or more lines: it is a component of it
abbrev pub GoesInto : Bill → ℕ → ℕ → Type 0
GoesInto b i j = (n : ℕ) × GoesIntoOver b n i j

-- each item has a number above that of each item that it goes into: no item is its own component
abbrev pub HasRanks : Bill → (ℕ → ℕ) → Type 0
HasRanks b rank = (i j : ℕ) → 1 ≤ i → i ≤ b.items → 1 ≤ j → j ≤ b.items → 0 < b.units i j → rank j < rank i

-- 1 where the items are the same
abbrev pub one_if_same : ℕ → ℕ → ℕ
one_if_same i k = if i == k then 1 else 0

-- the weights: units of item i in one unit of item k over all paths of the bill, one of an item in itself
abbrev pub AreWeights : Bill → (ℕ → ℕ → ℕ) → Type 0
AreWeights b weight = (i k : ℕ) → 1 ≤ i → i ≤ b.items → 1 ≤ k → k ≤ b.items → weight i k ≡ one_if_same i k + sum_to b.items (λ j. b.units i j * weight j k)

-- the totals: of each item what is asked of it and what the totals of other items take of it, less what is there, and at least 0
abbrev pub AreTotals : Bill → (ℕ → ℕ) → (ℕ → ℕ) → (ℕ → ℕ) → Type 0
AreTotals b asked there total = (i : ℕ) → 1 ≤ i → i ≤ b.items → total i ≡ (asked i + sum_to b.items (λ j. b.units i j * total j)) - there i

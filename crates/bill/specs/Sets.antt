-- Sets of items as lists of truth values.
use Rattle.std.specs.Prelude.{◌≡◌, ◌↔◌, ℕ, ◌-◌, ◌≤◌, ◌<◌, Bool, true, false, List, length, slice_index_or, [], if◌then◌else◌}
use Rattle.lot_sizing.specs.Sums.{sum_to}
use Rattle.lot_sizing.specs.Bill.{Bill, GoesInto}
use Rattle.lot_sizing.specs.declared.limits.TheConstants.{MAX_ITEMS}

-- the item is in the set
abbrev pub has : List Bool → ℕ → Bool
has set i = slice_index_or set (i - 1) false

-- how many items aren't in the set
abbrev pub missing : List Bool → ℕ
missing set = sum_to (length set) (λ i. if has set i then 0 else 1)

-- each item of the set goes into item j
abbrev pub AllGoInto : Bill → ℕ → List Bool → Type 0
AllGoInto b j set = (i : ℕ) → 1 ≤ i → i ≤ b.items → has set i ≡ true → GoesInto b i j

-- the set has the items that go into item k over one line
abbrev pub HasLinesOf : Bill → ℕ → List Bool → Type 0
HasLinesOf b k set = (i : ℕ) → 1 ≤ i → i ≤ b.items → 1 ≤ b.units i k → has set i ≡ true

-- the set has the items that go into item j, over any number of lines
pub record AreComponents (b : Bill) (j : ℕ) (set : List Bool) : Type 0 where
  pub size : length set ≡ b.items
  pub each : (i : ℕ) → 1 ≤ i → i ≤ b.items → (has set i ≡ true) ↔ GoesInto b i j

-- the set of an item, counted from 1
abbrev pub set_of : List (List Bool) → ℕ → List Bool
set_of sets j = slice_index_or sets (j - 1) []

-- for each item the set of the items that go into it
pub record IsReachOf (b : Bill) (sets : List (List Bool)) : Type 0 where
  pub size : length sets ≡ b.items
  pub each : (j : ℕ) → 1 ≤ j → j ≤ b.items → AreComponents b j (set_of sets j)

-- no item is its own component
abbrev pub HasNoCycle : Bill → Type 0
HasNoCycle b = (i : ℕ) → 1 ≤ i → i ≤ b.items → GoesInto b i i → ⊥

-- an item is its own component, and no earlier one is
pub record IsFirstOnCycle (b : Bill) (i : ℕ) : Type 0 where
  pub low : 1 ≤ i
  pub high : i ≤ b.items
  pub cycle : GoesInto b i i
  pub first : (j : ℕ) → 1 ≤ j → j < i → GoesInto b j j → ⊥

-- as many sets as each has places
pub record IsSquare (sets : List (List Bool)) : Type 0 where
  pub small : length sets ≤ MAX_ITEMS
  pub each : (j : ℕ) → 1 ≤ j → j ≤ length sets → length (set_of sets j) ≡ length sets

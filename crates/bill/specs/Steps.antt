-- How far the totals and weights of a bill are known, and what the steps to them keep.
use Rattle.std.specs.Prelude.{◌≡◌, ◌≢◌, ◌⊎◌, ℕ, ◌+◌, ◌-◌, ◌*◌, ◌≤◌, ◌<◌, Bool, true, false, List, [], length, map, slice_index_or}
use Rattle.lot_sizing.specs.Sums.{sum_to}
use Rattle.lot_sizing.specs.declared.limits.TheConstants.{MAX_TOTAL}
use Rattle.lot_sizing.specs.declared.Need.{Need}
use Rattle.lot_sizing.specs.Problem.{entry}
use Rattle.lot_sizing.specs.Bill.{Bill, one_if_same}
use Rattle.bill.specs.Lines.{bill_of_lines}
use Rattle.bill.specs.Over.{AreSmall, HaveSize, IsBelow, IsClear, IsKnown, KeepsBound, OfAll, row_entry}
use Rattle.bill.specs.Sets.{has}
use Rattle.bill.specs.declared.totals.Known.{Known}

-- the total of an item, from those of the items that it goes into
abbrev pub total_by : Bill → ℕ → ℕ → List ℕ → ℕ → ℕ
total_by b asked there totals i = (asked + sum_to b.items (λ j. b.units i j * entry totals j)) - there

-- a weight of an item, from those of the items that it goes into
abbrev pub weight_by : Bill → List (List ℕ) → ℕ → ℕ → ℕ
weight_by b weights i k = one_if_same i k + sum_to b.items (λ j. b.units i j * row_entry weights j k)

-- the weights of an item, from those of the items that it goes into, none past the bound
pub record IsRowOf (b : Bill) (weights : List (List ℕ)) (i : ℕ) (row : List ℕ) : Type 0 where
  pub size : length row ≡ b.items
  pub each : (k : ℕ) → 1 ≤ k → k ≤ b.items → entry row k ≡ weight_by b weights i k
  pub small : (k : ℕ) → entry row k ≤ MAX_TOTAL

-- a weight of the item is past the bound
abbrev pub HasLargeWeight : Bill → List (List ℕ) → ℕ → Type 0
HasLargeWeight b weights i = (k : ℕ) × (1 ≤ k) × (k ≤ b.items) × (MAX_TOTAL < weight_by b weights i k)

-- the items that an item goes into over one line are done
abbrev pub AreDone : Bill → List Bool → ℕ → Type 0
AreDone b done i = (k : ℕ) → 1 ≤ k → k ≤ b.items → 0 < b.units i k → has done k ≡ true

-- one of them isn't
abbrev pub HasUndone : Bill → List Bool → ℕ → Type 0
HasUndone b done i = (k : ℕ) × (1 ≤ k) × (k ≤ b.items) × (0 < b.units i k) × (has done k ≡ false)

-- the item is done, or one that it goes into isn't
abbrev pub IsWaiting : Bill → List Bool → ℕ → Type 0
IsWaiting b done i = (has done i ≡ true) ⊎ HasUndone b done i

-- the first item that isn't done though all that it goes into are
pub record IsFirstStuck (b : Bill) (done : List Bool) (i : ℕ) : Type 0 where
  pub low : 1 ≤ i
  pub high : i ≤ b.items
  pub undone : has done i ≡ false
  pub users : AreDone b done i
  pub first : (j : ℕ) → 1 ≤ j → j < i → IsWaiting b done j

-- no item is like that
abbrev pub HasNoneStuck : Bill → List Bool → Type 0
HasNoneStuck b done = (j : ℕ) → 1 ≤ j → j ≤ b.items → IsWaiting b done j

-- tables for so many items, with no number past the bound
pub record AreTables (items : ℕ) (done : List Bool) (totals : List ℕ) (weights : List (List ℕ)) : Type 0 where
  pub done_size : length done ≡ items
  pub totals_size : length totals ≡ items
  pub weights_size : length weights ≡ items
  pub row_sizes : HaveSize items weights
  pub small : (i : ℕ) → entry totals i ≤ MAX_TOTAL
  pub rows_small : AreSmall weights

-- and a row to write on
pub record AreRows (items : ℕ) (row : List ℕ) : Type 0 where
  pub size : length row ≡ items
  pub small : (k : ℕ) → entry row k ≤ MAX_TOTAL

abbrev pub weights_in : Known → List (List ℕ)
weights_in known = map (λ v. v.items) known.weights.items

-- the total of the item or a weight of it is past the bound
abbrev pub HasLargeNumber : Bill → ℕ → ℕ → Known → ℕ → Type 0
HasLargeNumber b asked there known i = (MAX_TOTAL < total_by b asked there known.totals.items i) ⊎ HasLargeWeight b (weights_in known) i

pub record HasTables (items : ℕ) (known : Known) : Type 0 where
  pub tables : AreTables items known.done.items known.totals.items (weights_in known)
  pub row : AreRows items known.row.items

-- tables of which nothing is known yet
pub record AreEmpty (known : Known) : Type 0 where
  pub tables : HasTables (length known.done.items) known
  pub none : (i : ℕ) → has known.done.items i ≡ false

-- of two tables those of what is known are the same
pub record AreSame (old new : Known) : Type 0 where
  pub done : new.done.items ≡ old.done.items
  pub totals : new.totals.items ≡ old.totals.items
  pub weights : weights_in new ≡ weights_in old

-- what is known of other items than this is the same
pub record AreSameBut (item : ℕ) (old new : Known) : Type 0 where
  pub done : (j : ℕ) → 1 ≤ j → j ≢ item → has new.done.items j ≡ has old.done.items j
  pub totals : (j : ℕ) → 1 ≤ j → j ≢ item → entry new.totals.items j ≡ entry old.totals.items j
  pub weights : (j : ℕ) → 1 ≤ j → j ≢ item → slice_index_or (weights_in new) (j - 1) [] ≡ slice_index_or (weights_in old) (j - 1) []

-- the numbers of the items that are done are known and within the bound, and so are all that they go into
abbrev pub AreKnown : Bill → (ℕ → ℕ) → (ℕ → ℕ → ℕ) → List Bool → List ℕ → List (List ℕ) → Type 0
AreKnown b total weight done totals weights = (i : ℕ) → 1 ≤ i → i ≤ b.items → has done i ≡ true → KeepsBound b total weight i × IsKnown b total weight totals weights i × IsClear b total weight i

-- the item is done with: its numbers are known, or it goes into one past the bound, or it is past the bound
abbrev pub IsSettled : Bill → (ℕ → ℕ) → (ℕ → ℕ → ℕ) → List Bool → ℕ → Type 0
IsSettled b total weight done j = (has done j ≡ true) ⊎ (IsBelow b total weight j ⊎ (KeepsBound b total weight j → ⊥))

-- what is known is true of all totals and weights of the bill
abbrev pub IsProgress : List (List Need) → List ℕ → List ℕ → Known → Type 0
IsProgress lines asked there known = OfAll (bill_of_lines lines) (entry asked) (entry there) (λ total weight. AreKnown (bill_of_lines lines) total weight known.done.items known.totals.items (weights_in known))

-- an item is done with, whatever the totals and weights of the bill are
abbrev pub IsSettledIn : List (List Need) → List ℕ → List ℕ → List Bool → ℕ → Type 0
IsSettledIn lines asked there done j = OfAll (bill_of_lines lines) (entry asked) (entry there) (λ total weight. IsSettled (bill_of_lines lines) total weight done j)

-- so are all that an item goes into over one line
abbrev pub AreUsersSettled : List (List Need) → List ℕ → List ℕ → List Bool → ℕ → Type 0
AreUsersSettled lines asked there done i = (k : ℕ) → 1 ≤ k → k ≤ length lines → 0 < (bill_of_lines lines).units i k → IsSettledIn lines asked there done k

-- the items of a lower rank are done with
abbrev pub AreSettled : List (List Need) → List ℕ → List ℕ → List Bool → List ℕ → ℕ → Type 0
AreSettled lines asked there done ranks n = (j : ℕ) → 1 ≤ j → j ≤ length lines → entry ranks j < n → IsSettledIn lines asked there done j

-- what was done stays done
abbrev pub StaysDone : List Bool → List Bool → Type 0
StaysDone old new = (j : ℕ) → 1 ≤ j → has old j ≡ true → has new j ≡ true

-- Rows of quantities and setups.
use Rattle.std.specs.Prelude.{◌≡◌, ◌≢◌, ◌⊎◌, ℕ, ◌+◌, ◌*◌, ◌≤◌, ◌<◌, List, drop}
use Rattle.lot_sizing.specs.declared.limits.TheConstants.{MAX_PERIODS, MAX_TOTAL}
use Rattle.lot_sizing.specs.Problem.{Problem, item_count}
use Rattle.lot_sizing.specs.declared.Block.{Block}
use Rattle.lot_sizing.specs.Single.{CoverFrom, Single, block_lot, lot_in, period_count, setup_in}
use Rattle.lot_sizing.specs.Net.{IsBestChoice, choice}
use Rattle.plan_rules.specs.Cells.{Cells, Fits, table_of}
use Rattle.plan_rules.specs.Rows.{OtherRowsSame}
use Rattle.echelon.specs.Views.{single_in}

-- the grid has a row for the item with so many periods
pub record HasItemCells (periods item : ℕ) (g : Cells) : Type 0 where
  pub low : 1 ≤ item
  pub high : item ≤ g.items
  pub size : g.periods ≡ periods

-- nothing stands in the row
abbrev pub IsEmptyRow : Cells → ℕ → Type 0
IsEmptyRow g item = (t : ℕ) → 1 ≤ t → t ≤ g.periods → table_of g item t ≡ 0

-- the row of an item is a cheapest net plan of it
abbrev pub IsBestRow : Problem → Cells → Cells → ℕ → Type 0
IsBestRow m make setup i = IsBestChoice m i (single_in m i) (choice (table_of make) (table_of setup) i)

-- the rows before an item are best, and the others are empty
pub record AreBestBefore (m : Problem) (make setup : Cells) (item : ℕ) : Type 0 where
  pub make_fits : Fits m make
  pub setup_fits : Fits m setup
  pub best : (i : ℕ) → 1 ≤ i → i < item → IsBestRow m make setup i
  pub no_make : (i : ℕ) → 1 ≤ i → item ≤ i → i ≤ item_count m → IsEmptyRow make i
  pub no_setup : (i : ℕ) → 1 ≤ i → item ≤ i → i ≤ item_count m → IsEmptyRow setup i

-- a period is set up by the blocks so far, or by those to come where it will be
abbrev pub IsSetUpSoFar : List Block → List Block → ℕ → ℕ → Type 0
IsSetUpSoFar all rest t row = ((row ≡ 1) × (setup_in all t ≡ 1)) ⊎ ((row ≡ 0) × (setup_in rest t ≡ setup_in all t))

-- the row of an item once the first k blocks stand in it
pub record IsRowSoFar (s : Single) (blocks : List Block) (k item : ℕ) (make_old setup_old make setup : Cells) : Type 0 where
  pub make_items : make.items ≡ make_old.items
  pub make_periods : make.periods ≡ make_old.periods
  pub setup_items : setup.items ≡ setup_old.items
  pub setup_periods : setup.periods ≡ setup_old.periods
  pub other_makes : OtherRowsSame make_old make item
  pub other_setups : OtherRowsSame setup_old setup item
  pub lots : (t : ℕ) → 1 ≤ t → t ≤ period_count s → table_of make item t + lot_in s (drop k blocks) t ≡ lot_in s blocks t
  pub small : (t : ℕ) → 1 ≤ t → t ≤ period_count s → table_of make item t ≤ k * (MAX_PERIODS * MAX_TOTAL)
  pub setups : (t : ℕ) → 1 ≤ t → t ≤ period_count s → IsSetUpSoFar blocks (drop k blocks) t (table_of setup item t)
  pub cover : (p : ℕ) × CoverFrom s p (drop k blocks)

-- one more block stands in the row of an item
pub record IsPut (s : Single) (b : Block) (item : ℕ) (make_old setup_old make setup : Cells) : Type 0 where
  pub make_items : make.items ≡ make_old.items
  pub make_periods : make.periods ≡ make_old.periods
  pub setup_items : setup.items ≡ setup_old.items
  pub setup_periods : setup.periods ≡ setup_old.periods
  pub other_makes : OtherRowsSame make_old make item
  pub other_setups : OtherRowsSame setup_old setup item
  pub lot_here : table_of make item b.server ≡ table_of make_old item b.server + block_lot s b
  pub lot_small : block_lot s b ≤ MAX_PERIODS * MAX_TOTAL
  pub lots_apart : (t : ℕ) → 1 ≤ t → t ≤ period_count s → t ≢ b.server → table_of make item t ≡ table_of make_old item t
  pub setup_here : table_of setup item b.server ≡ 1
  pub setups_apart : (t : ℕ) → 1 ≤ t → t ≤ period_count s → t ≢ b.server → table_of setup item t ≡ table_of setup_old item t

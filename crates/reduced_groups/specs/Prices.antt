-- Prices of setups and quantities, as lists.
use Rattle.std.specs.Prelude.{◌≡◌, ℕ, ◌≤◌, ◌<◌, List, length}
use Rattle.lot_sizing.specs.Problem.{EachItem, Problem, entry, item_count}
use Rattle.lin_rows.specs.declared.column.Column.{Column}
use Rattle.lin_rows.specs.declared.column.Column.TheVariants.{X, Y, S, R}
use Rattle.must_start.specs.Rows.{row_in}
use Rattle.quantity_dp.specs.declared.limits.TheConstants.{MAX_PRICE}

-- a row for each item, with an entry for each period
pub record PriceLists : Type 0 where
  pub setups : List (List ℕ)
  pub units : List (List ℕ)

-- the prices of columns; groups of lists ask for none of a stock or a backlog
abbrev pub price_in : PriceLists → Column → ℕ
price_in a (X i t) = entry (row_in a.units i) t
price_in a (Y i t) = entry (row_in a.setups i) t
price_in a (S i t) = 0
price_in a (R i t) = 0

-- an entry for each period, of setups and of units
abbrev pub HasRow : Problem → PriceLists → ℕ → Type 0
HasRow m a i = (length (row_in a.setups i) ≡ m.periods) × (length (row_in a.units i) ≡ m.periods)

-- the lists have the items and periods of a problem
pub record ArePricesFor (m : Problem) (a : PriceLists) : Type 0 where
  pub setups : length a.setups ≡ item_count m
  pub units : length a.units ≡ item_count m
  pub rows : EachItem m (HasRow m a)

-- no price is above the limit
abbrev pub AreSmall : List ℕ → Type 0
AreSmall prices = (t : ℕ) → 1 ≤ t → t ≤ length prices → entry prices t ≤ MAX_PRICE

-- a price is, and none before it
pub record IsFirstLarge (prices : List ℕ) (t : ℕ) : Type 0 where
  pub low : 1 ≤ t
  pub high : t ≤ length prices
  pub large : MAX_PRICE < entry prices t
  pub before : (u : ℕ) → 1 ≤ u → u < t → entry prices u ≤ MAX_PRICE

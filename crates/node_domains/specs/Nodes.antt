-- The places of quantities and setups in one list, and the ranges of a node there.
use Rattle.std.specs.Prelude.{◌≡◌, ℕ, ◌+◌, ◌-◌, ◌*◌, ◌<◌, ◌&&◌, nat_le, Bool, List, length, if◌then◌else◌}
use Rattle.lot_sizing.specs.Problem.{Problem, item_count}
use Rattle.lot_sizing.specs.Plan.{EachCell, Table}
use Rattle.plan_rules.specs.Cells.{Cells, table_of}
use Rattle.lin_rows.specs.declared.bound.Bound.{Bound}
use Rattle.lin_rows.specs.declared.column.Column.{Column}
use Rattle.lin_rows.specs.declared.column.Column.TheVariants.{X, Y, S, R}
use Rattle.lin_rows.specs.Columns.{cell_count}
use Rattle.cert_trees.specs.Paths.{AreChoices, left_by}
use Rattle.cert_trees.specs.Ranges.{IsChoice, Ranges}
use Rattle.cert_trees.specs.Spans.{Span}
use Rattle.tree_search.specs.declared.node.Range.{Range}
use Rattle.tree_search.specs.Ranges.{range_at}
use Rattle.tree_search.specs.Trees.{Rules}

-- ---- places
-- an item and a period of the problem
abbrev pub is_cell : Problem → ℕ → ℕ → Bool
is_cell m i t = nat_le 1 i && (nat_le i (item_count m) && (nat_le 1 t && nat_le t m.periods))

-- how many quantities and setups there are
abbrev pub choice_count : Problem → ℕ
choice_count m = 2 * cell_count m

-- where an item and a period stand, item by item, counted from 0
abbrev pub cell_place : Problem → ℕ → ℕ → ℕ
cell_place m i t = (i - 1) * m.periods + (t - 1)

-- where the range of a quantity or a setup stands: quantities first; other columns have none
abbrev pub choice_place : Problem → Column → ℕ
choice_place m (X i t) = if is_cell m i t then cell_place m i t else choice_count m
choice_place m (Y i t) = if is_cell m i t then cell_count m + cell_place m i t else choice_count m
choice_place m (S i t) = choice_count m
choice_place m (R i t) = choice_count m

abbrev pub choice_rules : Problem → Rules
choice_rules m = record { place = choice_place m }

-- ---- nodes
abbrev pub span_in : Range → Span
span_in r = record { low = r.low; high = r.high }

-- what the path leaves of the ranges to a column stands at the column's place
abbrev pub IsLeftAt : Problem → Ranges → List Range → List Bound → Column → Type 0
IsLeftAt m ranges rs path c = span_in (range_at rs (choice_place m c)) ≡ left_by ranges path c

-- the list has what the path leaves of the ranges to each quantity and each setup
pub record IsNodeOf (m : Problem) (ranges : Ranges) (rs : List Range) (path : List Bound) : Type 0 where
  pub choices : AreChoices m path
  pub size : length rs ≡ choice_count m
  pub left : (c : Column) → IsChoice m c → IsLeftAt m ranges rs path c

-- the least number in the list of each quantity, and of each setup
abbrev pub least_make : Problem → List Range → Table
least_make m rs i t = (range_at rs (cell_place m i t)).low

abbrev pub least_setup : Problem → List Range → Table
least_setup m rs i t = (range_at rs (cell_count m + cell_place m i t)).low

-- the grid has the least number of each item and period, where the range of the first one stands at this place
abbrev pub HasLeastFrom : Problem → List Range → ℕ → Cells → Type 0
HasLeastFrom m rs first g = EachCell m (λ i t. table_of g i t ≡ (range_at rs (first + cell_place m i t)).low)

-- the range at the place leaves more than one number
abbrev pub IsOpenAt : List Range → ℕ → Type 0
IsOpenAt rs k = (k < length rs) × ((range_at rs k).low < (range_at rs k).high)

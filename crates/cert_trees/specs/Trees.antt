-- Trees whose branches split ranges, and their leaves.
use Rattle.std.specs.Prelude.{◌≡◌, ℕ, ◌+◌, ◌≤◌, ◌<◌, Bool, true, false, ◌&&◌, nat_le, List, [], ◌∷◌, ◌++◌, length, slice_index_or, ⊤}
use Rattle.lot_sizing.specs.Problem.{Problem}
use Rattle.lot_sizing.specs.Plan.{Plan}
use Rattle.lin_rows.specs.declared.bound.Bound.{Bound}
use Rattle.lin_rows.specs.declared.column.Column.{Column}
use Rattle.lin_rows.specs.Rows.{Values}
use Rattle.cert_lines.specs.Shapes.{LeafShape}
use Rattle.certificate.specs.Shapes.{TreeShape, Split, End}
use Rattle.cert_trees.specs.Ranges.{IsChoice, IsWithin, Ranges}
use Rattle.cert_trees.specs.Paths.{at_least, at_most, left_by}

-- the paths to the low and the high side of a branch: it has the column at most `at`, or at least `at + 1`
abbrev pub low_path : List Bound → Column → ℕ → List Bound
low_path path c at = path ++ (at_most c at ∷ [])

abbrev pub high_path : List Bound → Column → ℕ → List Bound
high_path path c at = path ++ (at_least c (at + 1) ∷ [])

-- a branch splits what the path leaves to a quantity or a setup in two, neither part empty
pub record IsSplit (m : Problem) (ranges : Ranges) (path : List Bound) (c : Column) (at : ℕ) : Type 0 where
  pub column : IsChoice m c
  pub low : (left_by ranges path c).low ≤ at
  pub high : at < (left_by ranges path c).high

-- each branch of a tree does, whose root is reached by this path
abbrev pub IsSplitTree : Problem → Ranges → List Bound → TreeShape → Type 0
IsSplitTree m ranges path (Split c at low high) = IsSplit m ranges path c at × IsSplitTree m ranges (low_path path c at) low × IsSplitTree m ranges (high_path path c at) high
IsSplitTree m ranges path (End leaf) = ⊤

-- this holds of each leaf and the path to it
abbrev pub EachLeaf : (List Bound → LeafShape → Type 0) → List Bound → TreeShape → Type 0
EachLeaf P path (Split c at low high) = EachLeaf P (low_path path c at) low × EachLeaf P (high_path path c at) high
EachLeaf P path (End leaf) = P path leaf

-- the paths to the leaves, in their order
abbrev pub leaf_paths : List Bound → TreeShape → List (List Bound)
leaf_paths path (Split c at low high) = leaf_paths (low_path path c at) low ++ leaf_paths (high_path path c at) high
leaf_paths path (End leaf) = path ∷ []

abbrev pub leaf_count : TreeShape → ℕ
leaf_count (Split c at low high) = leaf_count low + leaf_count high
leaf_count (End leaf) = 1

-- whether a value is at most a number, or at least it
abbrev pub is_within_number : Bool → ℕ → ℕ → Bool
is_within_number true number value = nat_le value number
is_within_number false number value = nat_le number value

abbrev pub is_met : Values → Bound → Bool
is_met v b = is_within_number b.most b.number (v b.column)

-- whether the values meet all bounds of a path
abbrev pub lies_at : Values → List Bound → Bool
lies_at v [] = true
lies_at v (b ∷ path) = is_met v b && lies_at v path

-- the plan is within what one of the paths leaves, and no other
pub record LiesAtOne (m : Problem) (ranges : Ranges) (paths : List (List Bound)) (p : Plan) : Type 0 where
  pub place : ℕ
  pub exists : place < length paths
  pub within : IsWithin m (left_by ranges (slice_index_or paths place [])) p
  pub only : (k : ℕ) → k < length paths → IsWithin m (left_by ranges (slice_index_or paths k [])) p → k ≡ place

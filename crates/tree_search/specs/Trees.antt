-- What holds at the nodes of a tree, with the ranges and the branches on the way to each.
use Rattle.std.specs.Prelude.{◌⊎◌, ℕ, ◌+◌, true, false, List, [], ◌∷◌, ◌++◌, length, Option}
use Rattle.lin_rows.specs.declared.column.Column.{Column}
use Rattle.tree_search.specs.declared.proposal.Proposal.{Proposal as Leaf}
use Rattle.tree_search.specs.declared.sought.Sought.{Sought as Tree}
use Rattle.tree_search.specs.declared.sought.Sought.TheVariants.{Branch', Leaf as LeafOf}
use Rattle.tree_search.specs.declared.node.Range.{Range}
use Rattle.lin_rows.specs.declared.bound.Bound.{Bound}
use Rattle.tree_search.specs.Ranges.{IsAllowed, IsSplitAt, high_side, low_side}
use Rattle.tree_search.specs.Costs.{lesser}

-- where the range of a column stands
pub record Rules : Type 0 where
  pub place : Column → ℕ

abbrev pub at_most : Column → ℕ → Bound
at_most c n = record { column = c; most = true; number = n }

abbrev pub at_least : Column → ℕ → Bound
at_least c n = record { column = c; most = false; number = n }

-- the paths to the two sides of a branch
abbrev pub low_path : List Bound → Column → ℕ → List Bound
low_path path c at = path ++ (at_most c at ∷ [])

abbrev pub high_path : List Bound → Column → ℕ → List Bound
high_path path c at = path ++ (at_least c (at + 1) ∷ [])

-- what may hold of a leaf, with the ranges and the path there
abbrev pub AtLeaf : Type 1
AtLeaf = List Range → List Bound → Leaf → Type 0

-- this holds of each leaf, with the ranges and the path there
abbrev pub EachLeaf : (Column → ℕ) → AtLeaf → List Range → List Bound → Tree → Type 0
EachLeaf place P rs path (Branch' c spot at p low q high) =
    EachLeaf place P (low_side rs (place c) at) (low_path path c at) low
    × EachLeaf place P (high_side rs (place c) at) (high_path path c at) high
EachLeaf place P rs path (LeafOf leaf) = P rs path leaf

-- each branch splits a range in two
abbrev pub IsSplitTree : (Column → ℕ) → List Range → Tree → Type 0
IsSplitTree place rs (Branch' c spot at p low q high) =
    IsSplitAt rs (place c) at × IsSplitTree place (low_side rs (place c) at) low × IsSplitTree place (high_side rs (place c) at) high
IsSplitTree place rs (LeafOf leaf) = Unit {0}

-- and both sides of each have room for their heights, or less height than there was
abbrev pub IsAllowedTree : (Column → ℕ) → List Range → List Bound → Tree → Type 0
IsAllowedTree place rs path (Branch' c spot at p low q high) =
    IsAllowed (length path) rs (place c) at × IsAllowedTree place (low_side rs (place c) at) (low_path path c at) low × IsAllowedTree place (high_side rs (place c) at) (high_path path c at) high
IsAllowedTree place rs path (LeafOf leaf) = Unit {0}

-- the least number that a leaf says
abbrev pub least_said : Tree → Option ℕ
least_said (Branch' c spot at p low q high) = lesser (least_said low) (least_said high)
least_said (LeafOf leaf) = leaf.says

-- this holds of some leaf
abbrev pub SomeLeaf : (Column → ℕ) → AtLeaf → List Range → List Bound → Tree → Type 0
SomeLeaf place P rs path (Branch' c spot at p low q high) =
    SomeLeaf place P (low_side rs (place c) at) (low_path path c at) low
    ⊎ SomeLeaf place P (high_side rs (place c) at) (high_path path c at) high
SomeLeaf place P rs path (LeafOf leaf) = P rs path leaf

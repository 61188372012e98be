-- What a guide and its state say of a node, and of the tree below it, while the tree is searched.
use Rattle.std.specs.Prelude.{◌≡◌, ◌⊎◌, Bool, true, false, List, Option, ℕ, None}
use Rattle.lin_rows.specs.declared.bound.Bound.{Bound}
use Rattle.tree_search.specs.declared.proposal.Proposal.{Proposal as Leaf}
use Rattle.tree_search.specs.declared.proposal.Split.{Split}
use Rattle.tree_search.specs.declared.sought.Sought.{Sought as Tree}
use Rattle.tree_search.specs.declared.node.Node.{Node}
use Rattle.tree_search.specs.declared.node.Range.{Range}
use Rattle.tree_search.specs.declared.splitting.Sides.{Sides}
use Rattle.tree_search.specs.declared.rules.Guide.{Ghosts}
use Rattle.tree_search.specs.Ranges.{AreOrdered}
use Rattle.tree_search.specs.Costs.{IsAtMost}
use Rattle.tree_search.specs.Gaps.{IsNear}
use Rattle.tree_search.specs.Trees.{Rules, least_said}
use Rattle.tree_search.specs.Sides.{side_path, side_ranges}
use Rattle.tree_search.specs.Growing.{AreBranches, EachEnd, IsBranchAt, IsMarkedDeep, IsSound}

-- this holds of the ranges and the path of a node
abbrev pub AtNode : Node → (List Range → List Bound → Type 0) → Type 0
AtNode node P = P node.ranges.items node.path.items

-- and of those of a side of a split
abbrev pub AtSide : Bool → Node → Split → (List Range → List Bound → Type 0) → Type 0
AtSide most node split P =
    P (side_ranges most node.ranges.items split.place split.at) (side_path most node.path.items split.column split.at)

-- the split is a branch of the node
abbrev pub IsBranchOf : Rules → Split → List Range → List Bound → Type 0
IsBranchOf rules split rs path = IsBranchAt rules rs path split.column split.place split.at

-- each leaf below the mark that is open against the best cost has MAX_BRANCHES branches above it
abbrev pub AreDeep : Option ℕ → Option ℕ → Tree → List Range → List Bound → Type 0
AreDeep mark best tree rs path = EachEnd (IsMarkedDeep mark best) rs path tree

-- each open leaf has MAX_BRANCHES branches above it, or the best cost lies within the gap above the least number that a leaf says
abbrev pub IsEnded : Option ℕ → Option ℕ → Tree → List Range → List Bound → Type 0
IsEnded gap best tree rs path = AreDeep None best tree rs path ⊎ IsNear gap (least_said tree) best

-- the node is as it was
pub record IsSameNode (old new : Node) : Type 0 where
  pub ranges : new.ranges.items ≡ old.ranges.items
  pub path : new.path.items ≡ old.path.items

-- the node is on a side of a split of the old one
pub record IsSideOf (most : Bool) (old : Node) (split : Split) (new : Node) : Type 0 where
  pub ranges : new.ranges.items ≡ side_ranges most old.ranges.items split.place split.at
  pub path : new.path.items ≡ side_path most old.path.items split.column split.at

module _ {Self S : Type 0} (G : Ghosts Self S) (guide : Self) where
  -- the guide's node, with no range upside down
  pub record IsGuided (rs : List Range) (path : List Bound) : Type 0 where
    pub ordered : AreOrdered rs
    pub node : G.IsNode guide rs path

  -- a state that comes after another one, with a best plan that costs no more
  pub record IsLater (old new : S) : Type 0 where
    pub state : G.IsState guide new
    pub grows : G.Grows old new
    pub kept : IsAtMost (G.cost new) (G.cost old)

  -- a leaf that was proposed
  abbrev pub IsSoundLeaf : S → Leaf → List Range → List Bound → Type 0
  IsSoundLeaf state leaf rs path = IsSound (G.Holds guide state) (G.IsEvident guide) (G.cost state) rs path leaf

  -- and one for each side of a split
  pub record AreSoundSides (state : S) (node : Node) (split : Split) (sides : Sides) : Type 0 where
    pub low : AtSide true node split (IsSoundLeaf state sides.low)
    pub high : AtSide false node split (IsSoundLeaf state sides.high)

  -- a tree of branches, with leaves that were proposed
  pub record IsSoundTree (state : S) (tree : Tree) (rs : List Range) (path : List Bound) : Type 0 where
    pub branches : AreBranches (G.rules guide) rs path tree
    pub sound : EachEnd (IsSound (G.Holds guide state) (G.IsEvident guide) (G.cost state)) rs path tree

module _ {Self S : Type 0} (G : Ghosts Self S) where
  -- if each open leaf of the old tree was deep in the first state, so is each of the new tree in the second one
  abbrev pub StaysDeep : S → S → Tree → Tree → List Range → List Bound → Type 0
  StaysDeep before after old new rs path =
      AreDeep None (G.cost before) old rs path → AreDeep None (G.cost after) new rs path

  -- if the search has ended within a gap with the old tree in the first state, so it has with the new tree in the second one
  abbrev pub StaysEnded : S → S → Tree → Tree → List Range → List Bound → Type 0
  StaysEnded before after old new rs path =
      (gap : Option ℕ) → IsEnded gap (G.cost before) old rs path → IsEnded gap (G.cost after) new rs path

  -- if each open leaf of two sides was deep, so is each of the branch over them
  abbrev pub StaysDeepJoined : S → S → Node → Split → Tree → Tree → Tree → Type 0
  StaysDeepJoined before after node split low high tree =
      AtSide true node split (AreDeep None (G.cost before) low)
      → AtSide false node split (AreDeep None (G.cost before) high)
      → AtNode node (AreDeep None (G.cost after) tree)

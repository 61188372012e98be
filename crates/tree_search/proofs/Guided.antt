-- Laws of nodes and of trees below them while they are searched.
use Rattle.std.proofs.Common.{◌≡◌, ◌-◌, ◌∙◌, ⊎_elim, inl, inr, ℕ, Bool, true, false, sym, ap, List, length, take, set, Option, Result, Ok, Err, OnOk}
use Rattle.lin_rows.specs.declared.bound.Bound.{Bound}
use Rattle.tree_search.specs.declared.proposal.Proposal.{Proposal as Leaf}
use Rattle.tree_search.specs.declared.proposal.Split.{Split}
use Rattle.tree_search.specs.declared.sought.Sought.{Sought as Tree}
use Rattle.tree_search.specs.declared.node.Node.{Node}
use Rattle.tree_search.specs.declared.node.Range.{Range}
use Rattle.tree_search.specs.declared.rules.Guide.{Ghosts}
use Rattle.tree_search.specs.Ranges.{range_at}
use Rattle.tree_search.specs.Costs.{IsAtMost}
use Rattle.tree_search.specs.Sides.{side_path, side_ranges}
use Rattle.tree_search.specs.Trees.{least_said}
use Rattle.tree_search.specs.Growing.{IsMarkedDeep, IsSound}
use Rattle.tree_search.specs.Guided.{AtNode, AtSide, IsBranchOf, AreDeep, IsLater, IsSameNode, IsSoundLeaf, IsSoundTree, StaysDeep, StaysEnded}
use Rattle.tree_search.specs.Joined.{IsBranch}
use Rattle.tree_search.proofs.Endless.{at_most-refl, at_most-trans}
use Rattle.tree_search.proofs.Ends.{branches_joined, deep_later, ends_joined, leaf_later, moved, sound_later}
use Rattle.tree_search.proofs.Gaps.{near_later}
use Rattle.tree_search.proofs.Sides.{back_path, back_ranges}

-- what holds at a node holds at the same node
pub node_moved : (P : List Range → List Bound → Type 0) (old new : Node) → IsSameNode old new → AtNode old P → AtNode new P
node_moved P old new same h = moved P new.ranges.items old.ranges.items new.path.items old.path.items same.ranges same.path h

pub side_moved : (P : List Range → List Bound → Type 0) (most : Bool) (split : Split) (old new : Node) → IsSameNode old new → AtSide most old split P → AtSide most new split P
side_moved P most split old new same h =
    node_moved (λ rs path. P (side_ranges most rs split.place split.at) (side_path most path split.column split.at)) old new same h

pub same_back : (old new : Node) → IsSameNode old new → IsSameNode new old
same_back old new same = record { ranges = sym same.ranges; path = sym same.path }

-- back from a side, the node is as it was
pub back_node : (most : Bool) (old mid new : Node) (split : Split) (range : Range) → range ≡ range_at old.ranges.items split.place → mid.ranges.items ≡ side_ranges most old.ranges.items split.place split.at → mid.path.items ≡ side_path most old.path.items split.column split.at → new.ranges.items ≡ set mid.ranges.items split.place range → new.path.items ≡ take (length mid.path.items - 1) mid.path.items → IsSameNode old new
back_node most old mid new split range is down way back up = record {
  ranges = back ∙ (ap (λ r. set mid.ranges.items split.place r) is ∙ back_ranges most old.ranges.items mid.ranges.items split.place split.at down);
  path = up ∙ back_path most old.path.items mid.path.items split.column split.at way;
}

-- what comes after a later state comes after the first one
pub later_on : {Self S : Type 0} (G : Ghosts Self S) (guide : Self) (a b c : S) → (G.Grows a b → G.Grows b c → G.Grows a c) → IsLater G guide a b → IsLater G guide b c → IsLater G guide a c
later_on G guide a b c grows_on first next = record {
  state = next.state;
  grows = grows_on first.grows next.grows;
  kept = at_most-trans (G.cost c) (G.cost b) (G.cost a) next.kept first.kept;
}

-- a state is no earlier than itself
pub later_same : {Self S : Type 0} (G : Ghosts Self S) (guide : Self) (a : S) → G.IsState guide a → G.Grows a a → IsLater G guide a a
later_same G guide a is same = record { state = is; grows = same; kept = at_most-refl (G.cost a) }

-- the same of a step that may want memory
pub later_if : {T E Self S : Type 0} (r : Result T E) (G : Ghosts Self S) (guide : Self) (a b c : S) → (G.Grows a b → G.Grows b c → G.Grows a c) → IsLater G guide a b → OnOk r (IsLater G guide b c) → OnOk r (IsLater G guide a c)
later_if (Ok x) G guide a b c grows_on first next = later_on G guide a b c grows_on first next
later_if (Err e) G guide a b c grows_on first next = next

-- a tree stays one in a later state
pub tree_later : {Self S : Type 0} (G : Ghosts Self S) (guide : Self) (before after : S) → IsLater G guide before after → ((rs : List Range) (path : List Bound) (leaf : Leaf) → G.Holds guide before rs path leaf → G.Holds guide after rs path leaf) → (tree : Tree) (rs : List Range) (path : List Bound) → IsSoundTree G guide before tree rs path → IsSoundTree G guide after tree rs path
tree_later G guide before after later stay tree rs path h = record {
  branches = h.branches;
  sound = sound_later (G.Holds guide before) (G.Holds guide after) (G.IsEvident guide) (G.cost before) (G.cost after) later.kept stay rs path tree h.sound;
}

pub side_later : {Self S : Type 0} (G : Ghosts Self S) (guide : Self) (before after : S) → IsLater G guide before after → ((rs : List Range) (path : List Bound) (leaf : Leaf) → G.Holds guide before rs path leaf → G.Holds guide after rs path leaf) → (most : Bool) (node : Node) (split : Split) (tree : Tree) → AtSide most node split (IsSoundTree G guide before tree) → AtSide most node split (IsSoundTree G guide after tree)
side_later G guide before after later stay most node split tree h =
    tree_later G guide before after later stay tree (side_ranges most node.ranges.items split.place split.at) (side_path most node.path.items split.column split.at) h

-- a branch over two trees
pub tree_joined : {Self S : Type 0} (G : Ghosts Self S) (guide : Self) (state : S) (node : Node) (split : Split) (low high tree : Tree) → IsBranch tree split.column split.place split.at low high → AtNode node (IsBranchOf (G.rules guide) split) → AtSide true node split (IsSoundTree G guide state low) → AtSide false node split (IsSoundTree G guide state high) → AtNode node (IsSoundTree G guide state tree)
tree_joined G guide state node split low high tree is here one two = record {
  branches = branches_joined (G.rules guide) node.ranges.items node.path.items split.column split.place split.at low high tree is here one.branches two.branches;
  sound = ends_joined (IsSound (G.Holds guide state) (G.IsEvident guide) (G.cost state)) node.ranges.items node.path.items split.column split.place split.at low high tree is one.sound two.sound;
}

-- leaves of a side that are deep are so against a lesser cost
pub side_deep : (mark best less : Option ℕ) (most : Bool) (node : Node) (split : Split) (tree : Tree) → IsAtMost less best → AtSide most node split (AreDeep mark best tree) → AtSide most node split (AreDeep mark less tree)
side_deep mark best less most node split tree h deep =
    deep_later mark best less h (side_ranges most node.ranges.items split.place split.at) (side_path most node.path.items split.column split.at) tree deep

pub deep_joined : (mark best : Option ℕ) (node : Node) (split : Split) (low high tree : Tree) → IsBranch tree split.column split.place split.at low high → AtSide true node split (AreDeep mark best low) → AtSide false node split (AreDeep mark best high) → AtNode node (AreDeep mark best tree)
deep_joined mark best node split low high tree is one two =
    ends_joined (IsMarkedDeep mark best) node.ranges.items node.path.items split.column split.place split.at low high tree is one two

-- a sound leaf is one in a later state
pub leaf_kept : {Self S : Type 0} (G : Ghosts Self S) (guide : Self) (before after : S) → IsLater G guide before after → ((rs : List Range) (path : List Bound) (leaf : Leaf) → G.Holds guide before rs path leaf → G.Holds guide after rs path leaf) → (leaf : Leaf) (rs : List Range) (path : List Bound) → IsSoundLeaf G guide before leaf rs path → IsSoundLeaf G guide after leaf rs path
leaf_kept G guide before after later stay leaf rs path h =
    leaf_later (G.Holds guide before) (G.Holds guide after) (G.IsEvident guide) (G.cost before) (G.cost after) later.kept stay rs path leaf h

-- a search that has ended has ended in a later state too, where its leaves say no less
pub ended_later : {Self S : Type 0} (G : Ghosts Self S) (before after : S) (node : Node) (old new : Tree) → IsAtMost (G.cost after) (G.cost before) → AtNode node (StaysDeep G before after old new) → IsAtMost (least_said old) (least_said new) → AtNode node (StaysEnded G before after old new)
ended_later G before after node old new less stays risen gap ended =
    ⊎_elim
    (λ deep. inl (stays deep))
    (λ near. inr (near_later gap (least_said old) (least_said new) (G.cost before) (G.cost after) risen less near))
    ended

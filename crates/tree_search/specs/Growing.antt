-- What holds of a tree while it is searched.
use Rattle.std.specs.Prelude.{◌≡◌, ℕ, ◌+◌, ◌≤◌, ◌<◌, ◌==◌, if◌then◌else◌, Bool, true, false, List, length, Option, Some, None}
use Rattle.cert_lines.specs.declared.limits.TheConstants.{MAX_BRANCHES}
use Rattle.lin_rows.specs.declared.column.Column.{Column}
use Rattle.lin_rows.specs.declared.bound.Bound.{Bound}
use Rattle.tree_search.specs.declared.proposal.Proposal.{Proposal as Leaf}
use Rattle.tree_search.specs.declared.sought.Sought.{Sought as Tree}
use Rattle.tree_search.specs.declared.sought.Sought.TheVariants.{Branch', Leaf as LeafOf}
use Rattle.tree_search.specs.declared.node.Range.{Range}
use Rattle.tree_search.specs.Ranges.{IsAllowed, IsPoint, IsSplitAt, high_side, low_side}
use Rattle.tree_search.specs.Costs.{IsBelow}
use Rattle.tree_search.specs.Trees.{AtLeaf, Rules, high_path, least_said, low_path}

-- a branch on the column, whose range is at the place, with fewer than MAX_BRANCHES branches above it
pub record IsBranchAt (rules : Rules) (rs : List Range) (path : List Bound) (c : Column) (k at : ℕ) : Type 0 where
  pub place : rules.place c ≡ k
  pub short : length path < MAX_BRANCHES
  pub split : IsSplitAt rs k at
  pub allowed : IsAllowed (length path) rs k at

-- each branch is one
abbrev pub AreBranches : Rules → List Range → List Bound → Tree → Type 0
AreBranches rules rs path (Branch' c spot at p low q high) =
    IsBranchAt rules rs path c spot at
    × AreBranches rules (low_side rs spot at) (low_path path c at) low
    × AreBranches rules (high_side rs spot at) (high_path path c at) high
AreBranches rules rs path (LeafOf leaf) = Unit {0}

-- this holds of each leaf, where ranges are found by the places in the tree
abbrev pub EachEnd : AtLeaf → List Range → List Bound → Tree → Type 0
EachEnd P rs path (Branch' c spot at p low q high) =
    EachEnd P (low_side rs spot at) (low_path path c at) low
    × EachEnd P (high_side rs spot at) (high_path path c at) high
EachEnd P rs path (LeafOf leaf) = P rs path leaf

-- what holds of a leaf that was proposed: evidence was given if it was asked for, and a leaf that is open against the best cost doesn't lie at a point
pub record IsSound (Holds IsEvident : AtLeaf) (best : Option ℕ) (rs : List Range) (path : List Bound) (leaf : Leaf) : Type 0 where
  pub holds : Holds rs path leaf
  pub evident : leaf.examined ≡ true → IsEvident rs path leaf
  pub apart : IsBelow leaf.says best → IsPoint rs → ⊥

-- a leaf below a mark that is open against a best cost has MAX_BRANCHES branches above it
abbrev pub IsMarkedDeep : Option ℕ → Option ℕ → List Range → List Bound → Leaf → Type 0
IsMarkedDeep mark best rs path leaf = IsBelow leaf.says mark → IsBelow leaf.says best → MAX_BRANCHES ≤ length path

-- the cost is just this number
abbrev pub is_cost : ℕ → Option ℕ → Bool
is_cost bound None = false
is_cost bound (Some cost) = cost == bound

-- 1 for a leaf at which no evidence was asked for, and else 0
abbrev pub unexamined_at : Leaf → ℕ
unexamined_at leaf = if leaf.examined then 0 else 1

-- and the same of leaves that say just this number
abbrev pub wanted_at : ℕ → Leaf → ℕ
wanted_at bound leaf = if leaf.examined then 0 else if is_cost bound leaf.says then 1 else 0

-- how many leaves there are at which no evidence was asked for
abbrev pub unexamined : Tree → ℕ
unexamined (Branch' c spot at p low q high) = unexamined low + unexamined high
unexamined (LeafOf leaf) = unexamined_at leaf

-- how many of them say just this number
abbrev pub wanted : ℕ → Tree → ℕ
wanted bound (Branch' c spot at p low q high) = wanted bound low + wanted bound high
wanted bound (LeafOf leaf) = wanted_at bound leaf

-- how many of them say just a number that may be none
abbrev pub wanted_of : Option ℕ → Tree → ℕ
wanted_of None tree = 0
wanted_of (Some bound) tree = wanted bound tree

-- some leaf that says the least number is still to be asked for evidence
abbrev pub IsWanting : Tree → Type 0
IsWanting tree = 1 ≤ wanted_of (least_said tree) tree

-- where the least number is below the best cost, evidence was asked for at each leaf that says it
abbrev pub IsSettled : Option ℕ → Tree → Type 0
IsSettled best tree = IsBelow (least_said tree) best → wanted_of (least_said tree) tree ≡ 0

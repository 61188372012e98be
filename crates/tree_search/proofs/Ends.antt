-- Laws of trees while they are searched.
use Rattle.std.proofs.Common.{◌≡◌, ◌+◌, ℕ, sym, refl, subst, List, Option, None}
use Rattle.lin_rows.specs.declared.column.Column.{Column}
use Rattle.lin_rows.specs.declared.bound.Bound.{Bound}
use Rattle.tree_search.specs.declared.proposal.Proposal.{Proposal as Leaf}
use Rattle.tree_search.specs.declared.sought.Sought.{Sought as Tree}
use Rattle.tree_search.specs.declared.sought.Sought.TheVariants.{Branch', Leaf as LeafOf}
use Rattle.tree_search.specs.declared.node.Range.{Range}
use Rattle.tree_search.specs.Counts.{branches}
use Rattle.tree_search.specs.Ranges.{high_side, low_side}
use Rattle.tree_search.specs.Costs.{IsAtMost, IsBelow, lesser}
use Rattle.tree_search.specs.Trees.{AtLeaf, Rules, high_path, least_said, low_path}
use Rattle.tree_search.specs.Growing.{AreBranches, EachEnd, IsBranchAt, IsMarkedDeep, IsSound}
use Rattle.tree_search.specs.Joined.{IsBranch}
use Rattle.tree_search.proofs.Joined.{at_branch}
use Rattle.tree_search.proofs.Endless.{below-less, below-more, lesser-left, lesser-more, lesser-right}

-- what follows at each leaf
pub end_map : (P Q : AtLeaf) (f : (rs : List Range) (path : List Bound) (leaf : Leaf) → P rs path leaf → Q rs path leaf) (rs : List Range) (path : List Bound) (tree : Tree) → EachEnd P rs path tree → EachEnd Q rs path tree
end_map P Q f rs path (Branch' c spot at p low q high) h =
    (end_map P Q f (low_side rs spot at) (low_path path c at) low h.0, end_map P Q f (high_side rs spot at) (high_path path c at) high h.1)
end_map P Q f rs path (LeafOf leaf) h = f rs path leaf h

-- a sound leaf is sound in a later state
pub leaf_later : (H K T : AtLeaf) (best less : Option ℕ) → IsAtMost less best → ((rs : List Range) (path : List Bound) (leaf : Leaf) → H rs path leaf → K rs path leaf) → (rs : List Range) (path : List Bound) (leaf : Leaf) → IsSound H T best rs path leaf → IsSound K T less rs path leaf
leaf_later H K T best less h stay rs path leaf s =
    record {
      holds = stay rs path leaf s.holds;
      evident = s.evident;
      apart = λ below. s.apart (below-more leaf.says less best below h);
    }

-- and so are all leaves of a tree
pub sound_later : (H K T : AtLeaf) (best less : Option ℕ) → IsAtMost less best → ((rs : List Range) (path : List Bound) (leaf : Leaf) → H rs path leaf → K rs path leaf) → (rs : List Range) (path : List Bound) (tree : Tree) → EachEnd (IsSound H T best) rs path tree → EachEnd (IsSound K T less) rs path tree
sound_later H K T best less h stay rs path tree s = end_map (IsSound H T best) (IsSound K T less) (leaf_later H K T best less h stay) rs path tree s

-- leaves that are open against a lesser cost are open against the greater one
pub deep_later : (mark best less : Option ℕ) → IsAtMost less best → (rs : List Range) (path : List Bound) (tree : Tree) → EachEnd (IsMarkedDeep mark best) rs path tree → EachEnd (IsMarkedDeep mark less) rs path tree
deep_later mark best less h rs path tree d =
    end_map (IsMarkedDeep mark best) (IsMarkedDeep mark less)
    (λ rs path leaf k under below. k under (below-more leaf.says less best below h))
    rs path tree d

-- where the least number is not below the best cost, no leaf is open
pub closed_deep : (best : Option ℕ) (rs : List Range) (path : List Bound) (tree : Tree) → (IsBelow (least_said tree) best → ⊥) → EachEnd (IsMarkedDeep None best) rs path tree
closed_deep best rs path (Branch' c spot at p low q high) shut =
    let a = least_said low in
    let b = least_said high in (
      closed_deep best (low_side rs spot at) (low_path path c at) low (λ below. shut (below-less (lesser a b) a best (lesser-left a b) below)),
      closed_deep best (high_side rs spot at) (high_path path c at) high (λ below. shut (below-less (lesser a b) b best (lesser-right a b) below)),
    )
closed_deep best rs path (LeafOf leaf) shut = λ under below. absurd (shut below)

-- the same of equal ranges and paths
pub moved : (P : List Range → List Bound → Type 0) (xs rs : List Range) (ys path : List Bound) → xs ≡ rs → ys ≡ path → P rs path → P xs ys
moved P xs rs ys path ex ey h = subst (λ z. P z ys) (sym ex) (subst (P rs) (sym ey) h)

pub moved_back : (P : List Range → List Bound → Type 0) (xs rs : List Range) (ys path : List Bound) → xs ≡ rs → ys ≡ path → P xs ys → P rs path
moved_back P xs rs ys path ex ey h = subst (λ z. P z path) ex (subst (P xs) ey h)

-- a branch over two sides
pub ends_joined : (P : AtLeaf) (rs : List Range) (path : List Bound) (c : Column) (k at : ℕ) (low high tree : Tree) → IsBranch tree c k at low high → EachEnd P (low_side rs k at) (low_path path c at) low → EachEnd P (high_side rs k at) (high_path path c at) high → EachEnd P rs path tree
ends_joined P rs path c k at low high tree is one two = at_branch (EachEnd P rs path) c k at low high (λ p q. (one, two)) tree is

pub branches_joined : (rules : Rules) (rs : List Range) (path : List Bound) (c : Column) (k at : ℕ) (low high tree : Tree) → IsBranch tree c k at low high → IsBranchAt rules rs path c k at → AreBranches rules (low_side rs k at) (low_path path c at) low → AreBranches rules (high_side rs k at) (high_path path c at) high → AreBranches rules rs path tree
branches_joined rules rs path c k at low high tree is here one two = at_branch (AreBranches rules rs path) c k at low high (λ p q. (here, one, two)) tree is

-- a branch over two sides that say no less than these says no less than both
pub least_joined : (c : Column) (k at : ℕ) (low high tree : Tree) (a b : Option ℕ) → IsBranch tree c k at low high → IsAtMost a (least_said low) → IsAtMost b (least_said high) → IsAtMost (lesser a b) (least_said tree)
least_joined c k at low high tree a b is one two = at_branch (λ x. IsAtMost (lesser a b) (least_said x)) c k at low high (λ p q. lesser-more a b (least_said low) (least_said high) one two) tree is

pub count_joined : (c : Column) (k at : ℕ) (low high tree : Tree) → IsBranch tree c k at low high → branches tree ≡ branches low + branches high + 1
count_joined c k at low high tree is = at_branch (λ x. branches x ≡ branches low + branches high + 1) c k at low high (λ p q. refl) tree is

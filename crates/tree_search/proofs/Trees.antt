-- Laws of trees that split ranges.
use Rattle.std.proofs.Common.{◌≡◌, ◌≤◌, ◌+◌, ◌*◌, ⊎_elim, ℕ, arith, List, [], ◌∷◌, length, length-append, Option}
use Rattle.std.proofs.lemmas.Bool.{cases_lt}
use Rattle.cert_lines.specs.declared.limits.TheConstants.{MAX_BRANCHES}
use Rattle.lin_rows.specs.declared.column.Column.{Column}
use Rattle.tree_search.specs.declared.proposal.Proposal.{Proposal as Leaf}
use Rattle.tree_search.specs.declared.sought.Sought.{Sought as Tree}
use Rattle.tree_search.specs.declared.sought.Sought.TheVariants.{Branch', Leaf as LeafOf}
use Rattle.tree_search.specs.Counts.{longest, nodes}
use Rattle.tree_search.specs.declared.node.Range.{Range}
use Rattle.lin_rows.specs.declared.bound.Bound.{Bound}
use Rattle.tree_search.specs.Ranges.{AreOrdered, IsPoint, height, high_side, low_side, volume}
use Rattle.tree_search.specs.Costs.{IsAtMost, IsBelow, lesser}
use Rattle.tree_search.specs.Trees.{AtLeaf, EachLeaf, IsAllowedTree, IsSplitTree, Rules, at_least, at_most, high_path, least_said, low_path}
use Rattle.tree_search.specs.Claims.{IsOpenDeep}
use Rattle.tree_search.proofs.Ranges.{ordered_high, ordered_low, point_of_height, point_of_volume, volume_some, volume_split}
use Rattle.tree_search.proofs.Endless.{at_most-trans, lesser-below, lesser-left, lesser-right}

abbrev pub Place : Type 0
Place = Column → ℕ

-- a leaf that is open against a best cost doesn't lie at a point
abbrev pub IsOpenApart : Rules → Option ℕ → AtLeaf
IsOpenApart rules best rs path leaf = IsBelow leaf.says best → IsPoint rs → ⊥

-- a tree over the ranges, below the path, that has at most so many nodes and is left open against the best cost only for want of nodes or depth
pub record IsGrown (rules : Rules) (best : Option ℕ) (budget : ℕ) (rs : List Range) (path : List Bound) (tree : Tree) : Type 0 where
  pub within : nodes tree ≤ budget
  pub short : length path + longest tree ≤ MAX_BRANCHES
  pub split : IsSplitTree rules.place rs tree
  pub allowed : IsAllowedTree rules.place rs path tree
  pub apart : EachLeaf rules.place (IsOpenApart rules best) rs path tree
  pub deep : nodes tree + 2 ≤ budget → EachLeaf rules.place (IsOpenDeep rules best) rs path tree

-- what follows at each leaf
pub each_map : (place : Place) (P Q : AtLeaf) (f : (rs : List Range) (path : List Bound) (leaf : Leaf) → P rs path leaf → Q rs path leaf) (rs : List Range) (path : List Bound) (tree : Tree) → EachLeaf place P rs path tree → EachLeaf place Q rs path tree
each_map place P Q f rs path (Branch' c spot at p low q high) h =
    (each_map place P Q f (low_side rs (place c) at) (low_path path c at) low h.0, each_map place P Q f (high_side rs (place c) at) (high_path path c at) high h.1)
each_map place P Q f rs path (LeafOf leaf) h = f rs path leaf h

pub each_both : (place : Place) (P Q : AtLeaf) (rs : List Range) (path : List Bound) (tree : Tree) → EachLeaf place P rs path tree → EachLeaf place Q rs path tree → EachLeaf place (λ rs path leaf. P rs path leaf × Q rs path leaf) rs path tree
each_both place P Q rs path (Branch' c spot at p low q high) h k =
    (each_both place P Q (low_side rs (place c) at) (low_path path c at) low h.0 k.0, each_both place P Q (high_side rs (place c) at) (high_path path c at) high h.1 k.1)
each_both place P Q rs path (LeafOf leaf) h k = (h, k)

pub nodes_some : (tree : Tree) → 1 ≤ nodes tree
nodes_some (Branch' c spot at p low q high) = omega arith
nodes_some (LeafOf leaf) = omega arith

-- no leaf is open against the cost
abbrev pub IsClosed : Rules → Option ℕ → AtLeaf
IsClosed rules best rs path leaf = IsBelow leaf.says best → ⊥

-- a tree that splits ranges has fewer than twice as many nodes as the ranges have choices
pub size : (place : Place) (rs : List Range) (tree : Tree) → IsSplitTree place rs tree → nodes tree + 1 ≤ 2 * volume rs
size place rs (Branch' c spot at p low q high) h =
    omega (arith, volume_split rs (place c) at h.0, size place (low_side rs (place c) at) low h.1, size place (high_side rs (place c) at) high h.2)
size place rs (LeafOf leaf) h = omega (arith, volume_some rs)

-- and where it has nearly as many, all its leaves are points
pub full : (place : Place) (rs : List Range) (path : List Bound) (tree : Tree) → AreOrdered rs → IsSplitTree place rs tree → 2 * volume rs ≤ nodes tree + 2 → EachLeaf place (λ rs path leaf. IsPoint rs) rs path tree
full place rs path (Branch' c spot at p low q high) o h k =
    let one = volume_split rs (place c) at h.0 in
    let left = size place (low_side rs (place c) at) low h.1 in
    let right = size place (high_side rs (place c) at) high h.2 in (
      full place (low_side rs (place c) at) (low_path path c at) low (ordered_low rs (place c) at o h.0) h.1 (omega (arith, one, left, right, k)),
      full place (high_side rs (place c) at) (high_path path c at) high (ordered_high rs (place c) at o h.0) h.2 (omega (arith, one, left, right, k)),
    )
full place rs path (LeafOf leaf) o h k = point_of_volume rs o (omega (arith, k))

pub low_path-length : (path : List Bound) (c : Column) (at : ℕ) → length (low_path path c at) ≡ length path + 1
low_path-length path c at = length-append path (at_most c at ∷ [])

pub high_path-length : (path : List Bound) (c : Column) (at : ℕ) → length (high_path path c at) ≡ length path + 1
high_path-length path c at = length-append path (at_least c (at + 1) ∷ [])

-- where a path has room for the height, so have all longer ones
pub shallow : (place : Place) (rs : List Range) (path : List Bound) (tree : Tree) → IsAllowedTree place rs path tree → length path + height rs ≤ MAX_BRANCHES → EachLeaf place (λ rs path leaf. length path + height rs ≤ MAX_BRANCHES) rs path tree
shallow place rs path (Branch' c spot at p low q high) h k = (
  shallow place (low_side rs (place c) at) (low_path path c at) low h.1 (let r = h.0.0 in omega (arith, r, k, low_path-length path c at)),
  shallow place (high_side rs (place c) at) (high_path path c at) high h.2 (let r = h.0.1 in omega (arith, r, k, high_path-length path c at)),
)
shallow place rs path (LeafOf leaf) h k = k

pub ordered_leaves : (place : Place) (rs : List Range) (path : List Bound) (tree : Tree) → AreOrdered rs → IsSplitTree place rs tree → EachLeaf place (λ rs path leaf. AreOrdered rs) rs path tree
ordered_leaves place rs path (Branch' c spot at p low q high) o h = (
  ordered_leaves place (low_side rs (place c) at) (low_path path c at) low (ordered_low rs (place c) at o h.0) h.1,
  ordered_leaves place (high_side rs (place c) at) (high_path path c at) high (ordered_high rs (place c) at o h.0) h.2,
)
ordered_leaves place rs path (LeafOf leaf) o h = o

-- a tree whose leaves are all closed says no less than the cost
pub closed_least : (rules : Rules) (best : Option ℕ) (rs : List Range) (path : List Bound) (tree : Tree) → EachLeaf rules.place (IsClosed rules best) rs path tree → IsBelow (least_said tree) best → ⊥
closed_least rules best rs path (Branch' c spot at p low q high) h k =
    ⊎_elim
    (closed_least rules best (low_side rs (rules.place c) at) (low_path path c at) low h.0)
    (closed_least rules best (high_side rs (rules.place c) at) (high_path path c at) high h.1)
    (lesser-below (least_said low) (least_said high) best k)
closed_least rules best rs path (LeafOf leaf) h k = h k

-- every leaf says at least the least number
pub least_first : (rules : Rules) (m : Option ℕ) (rs : List Range) (path : List Bound) (tree : Tree) → IsAtMost m (least_said tree) → EachLeaf rules.place (λ rs path leaf. IsAtMost m leaf.says) rs path tree
least_first rules m rs path (Branch' c spot at p low q high) h =
    let a = least_said low in
    let b = least_said high in (
      least_first rules m (low_side rs (rules.place c) at) (low_path path c at) low (at_most-trans m (lesser a b) a h (lesser-left a b)),
      least_first rules m (high_side rs (rules.place c) at) (high_path path c at) high (at_most-trans m (lesser a b) b h (lesser-right a b)),
    )
least_first rules m rs path (LeafOf leaf) h = h

-- with budget for all nodes and no more height than depth, no leaf is left open
pub decided : (rules : Rules) (best : Option ℕ) (budget : ℕ) (rs : List Range) (path : List Bound) (tree : Tree) → AreOrdered rs → IsGrown rules best budget rs path tree → 2 * volume rs ≤ budget + 1 → length path + height rs ≤ MAX_BRANCHES → EachLeaf rules.place (IsClosed rules best) rs path tree
decided rules best budget rs path tree o g enough low =
    ⊎_elim
    (λ much.
    each_map rules.place
    (λ rs path leaf. IsPoint rs × IsOpenApart rules best rs path leaf)
    (IsClosed rules best)
    (λ rs path leaf h below. h.1 below h.0)
    rs path tree
    (each_both rules.place (λ rs path leaf. IsPoint rs) (IsOpenApart rules best) rs path tree (full rules.place rs path tree o g.split (omega (arith, much, enough))) g.apart))
    (λ little.
    each_map rules.place
    (λ rs path leaf. ((length path + height rs ≤ MAX_BRANCHES) × AreOrdered rs) × (IsOpenApart rules best rs path leaf × IsOpenDeep rules best rs path leaf))
    (IsClosed rules best)
    (λ rs path leaf h below. h.1.0 below (point_of_height rs h.0.1 (let d = h.1.1 below in let s = h.0.0 in omega (arith, d, s))))
    rs path tree
    (each_both rules.place
    (λ rs path leaf. (length path + height rs ≤ MAX_BRANCHES) × AreOrdered rs)
    (λ rs path leaf. IsOpenApart rules best rs path leaf × IsOpenDeep rules best rs path leaf)
    rs path tree
    (each_both rules.place (λ rs path leaf. length path + height rs ≤ MAX_BRANCHES) (λ rs path leaf. AreOrdered rs) rs path tree (shallow rules.place rs path tree g.allowed low) (ordered_leaves rules.place rs path tree o g.split))
    (each_both rules.place (IsOpenApart rules best) (IsOpenDeep rules best) rs path tree g.apart (g.deep little))))
    (cases_lt budget (nodes tree + 2))

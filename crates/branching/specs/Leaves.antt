-- What holds of a leaf at a node.
use Rattle.std.specs.Prelude.{◌≡◌, ◌⊎◌, ℕ, ◌≤◌, ◌<◌, ◌^◌, true, List, length, Option, Some, None, IfSome}
use Rattle.lot_sizing.specs.Problem.{Problem}
use Rattle.lin_rows.specs.declared.bound.Bound.{Bound}
use Rattle.lin_rows.specs.Rows.{LinRow}
use Rattle.cert_lines.specs.declared.limits.TheConstants.{MAX_BRANCHES}
use Rattle.cert_lines.specs.declared.parts.Leaf.{Leaf}
use Rattle.cert_lines.specs.Shapes.{LeafShape, leaf_shape}
use Rattle.cert_trees.specs.Ranges.{Ranges, WithTotals}
use Rattle.cert_meaning.specs.declared.says.LeafSays.{LeafSays}
use Rattle.cert_meaning.specs.declared.says.LeafSays.TheVariants.{NoPlan, AtLeast}
use Rattle.cert_meaning.specs.Named.{names}
use Rattle.cert_meaning.specs.Says.{Says}
use Rattle.cert_checker.specs.Leaves.{LeafIsSmall}
use Rattle.leaf_growth.specs.Growth.{IsOfRows, LeafSaysSmall}
use Rattle.leaf_growth.specs.Written.{LeafHasLines}
use Rattle.search_result.specs.declared.found.RootSays.{RootSays}
use Rattle.tree_search.specs.declared.node.Range.{Range}
use Rattle.tree_search.specs.declared.proposal.Proposal.{Proposal}
use Rattle.tree_search.specs.Costs.{IsAtMost}
use Rattle.tree_search.specs.Ranges.{IsPoint}
use Rattle.branching.specs.Search.{IsEvidence}

-- what a proposal says, as a leaf does: no number stands for no plan
abbrev pub said : Option ℕ → LeafSays
said None = NoPlan
said (Some amount) = AtLeast amount

-- the leaf says what the proposal says over the rows of the cuts, its sums and the amount are small, it can be written, and it says no less than what is known of all plans
pub record IsGoodLeaf (m : Problem) (version least : ℕ) (rows : List LinRow) (path : List Bound) (p : Proposal) : Type 0 where
  pub says : LeafSaysSmall m rows path (leaf_shape p.leaf) (said p.says)
  pub lines : LeafHasLines version (leaf_shape p.leaf)
  pub no_less : IsAtMost (Some least) p.says
  pub small : IfSome p.says (λ amount. amount < 2 ^ 127)

-- below the node it says the same
pub record IsLasting (m : Problem) (version least : ℕ) (rows : List LinRow) (path : List Bound) (p : Proposal) : Type 0 where
  pub good : IsGoodLeaf m version least rows path p
  pub of_rows : IsOfRows (leaf_shape p.leaf)

-- over these ranges the leaf says this, whatever the largest totals are, and its sums are small
pub record LeafSaysWithin (m : Problem) (ranges : Ranges) (rows : List LinRow) (path : List Bound) (leaf : LeafShape) (says : LeafSays) : Type 0 where
  pub said : WithTotals m (λ total. Says (names m total rows path) ranges leaf says)
  pub small : LeafIsSmall m rows path leaf

-- the same of a leaf that counts what its path leaves from these ranges
pub record IsGoodLeafWithin (m : Problem) (ranges : Ranges) (version least : ℕ) (rows : List LinRow) (path : List Bound) (p : Proposal) : Type 0 where
  pub says : LeafSaysWithin m ranges rows path (leaf_shape p.leaf) (said p.says)
  pub lines : LeafHasLines version (leaf_shape p.leaf)
  pub no_less : IsAtMost (Some least) p.says
  pub small : IfSome p.says (λ amount. amount < 2 ^ 127)

-- it takes rows by their names, or the node is one choice
pub record IsKept (m : Problem) (ranges : Ranges) (version least : ℕ) (rows : List LinRow) (rs : List Range) (path : List Bound) (p : Proposal) : Type 0 where
  pub good : IsGoodLeafWithin m ranges version least rows path p
  pub kind : IsOfRows (leaf_shape p.leaf) ⊎ IsPoint rs

-- there is evidence at the leaf, where its path isn't too long for a certificate
abbrev pub IsEvidentAt : Problem → RootSays → List Bound → Proposal → Type 0
IsEvidentAt m root path p = length path ≤ MAX_BRANCHES → IfSome p.says (IsEvidence m root path)

-- the proposal with evidence asked for
abbrev pub marked_examined : Proposal → Proposal
marked_examined p = record p { examined = true }

-- it says at least the bound and is as it was, or has this leaf and says the bound, which is no less
abbrev pub IsRaised : Proposal → Leaf → ℕ → Proposal → Type 0
IsRaised old leaf bound new =
    ((new ≡ marked_examined old) × IsAtMost (Some bound) old.says)
    ⊎ ((new.leaf ≡ leaf) × (new.says ≡ Some bound) × (new.examined ≡ true) × IsAtMost old.says (Some bound))

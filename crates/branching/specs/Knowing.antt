-- What the search of a model knows while it goes on.
use Rattle.std.specs.Prelude.{◌≡◌, ℕ, ◌++◌, Bool, false, List, map, IfSome}
use Rattle.lin_rows.specs.Rows.{LinRow}
use Rattle.cert_lines.specs.Shapes.{CutShape, cut_shape}
use Rattle.echelon.specs.Weights.{IsExplosionOf}
use Rattle.cert_checker.specs.Named.{IsReadyFor}
use Rattle.cert_trees.specs.Ranges.{Ranges}
use Rattle.branching.specs.declared.knowing.Known.{Known}
use Rattle.branching.specs.declared.guiding.Model.{Model}
use Rattle.lin_rows.specs.declared.bound.Bound.{Bound}
use Rattle.tree_search.specs.declared.node.Node.{Node}
use Rattle.tree_search.specs.declared.node.Range.{Range}
use Rattle.tree_search.specs.declared.proposal.Proposal.{Proposal}
use Rattle.branching.specs.Begun.{AreKnownCuts, IsBegun}
use Rattle.branching.specs.Leaves.{IsKept, IsLasting, IsEvidentAt}
use Rattle.node_domains.specs.Nodes.{IsNodeOf}
use Rattle.branching.specs.Adding.{IsJudged}
use Rattle.node_domains.specs.Within.{AreGiven, given_ranges}
use Rattle.incumbent.specs.Kept.{IsMadeWithin, IsNoWorse}

-- ---- cuts
abbrev pub shapes : Known → List CutShape
shapes k = map cut_shape k.cuts.items

-- more rows may follow those that were there
pub record IsAfter (old new : Known) : Type 0 where
  pub more : List LinRow
  pub rows : new.rows.items ≡ old.rows.items ++ more

-- ---- what is known
-- the ranges within which plans are sought
abbrev pub ranges_in : Model → Ranges
ranges_in g = given_ranges g.ranges.now

-- ranges, cuts, a leaf to begin with, the best plan within the ranges, sums by which leaves are judged, and the units of each item in each other
pub record IsKnown (g : Model) (k : Known) : Type 0 where
  pub given : AreGiven g.instance.now g.ranges.now
  pub begun : IsBegun g.instance.now g.version g.least g.first k.rows.items
  pub cuts : AreKnownCuts g.instance.now g.version (shapes k) k.rows.items
  pub best : IfSome k.best (IsMadeWithin g.instance.now (ranges_in g))
  pub sums : IsReadyFor g.instance.now k.sums
  pub explosion : IsExplosionOf g.instance.now g.explosion

-- what is known at a time, with whether the search was ended: where nothing may end it, it wasn't
pub record IsKnownBy (g : Model) (k : Known) (is_ended may_stop : Bool) : Type 0 where
  pub known : IsKnown g k
  pub ended : may_stop ≡ false → is_ended ≡ false

-- more rows may follow those that were there, and whether the search may be ended is as it was
pub record IsAfterWith (old new : Known) (may_before may_after : Bool) : Type 0 where
  pub after : IsAfter old new
  pub may : may_before ≡ may_after

-- it is known later: more rows may follow, and the best plan is at least as good
pub record KnowsMore (g : Model) (old new : Known) : Type 0 where
  pub known : IsKnown g new
  pub after : IsAfter old new
  pub kept : IsNoWorse new.best old.best

-- more rows may follow, with the same best plan
pub record KnowsMoreRows (g : Model) (old new : Known) : Type 0 where
  pub known : IsKnown g new
  pub after : IsAfter old new
  pub best : new.best ≡ old.best

-- the rows and the best plan are as they were
pub record KnowsTheSame (g : Model) (old new : Known) : Type 0 where
  pub known : IsKnown g new
  pub rows : new.rows ≡ old.rows
  pub best : new.best ≡ old.best

-- ---- leaves and nodes, over what is known
abbrev pub IsLastingIn : Model → Known → List Bound → Proposal → Type 0
IsLastingIn g k path p = IsLasting g.instance.now g.version g.least k.rows.items path p

-- what the checker judged over the rows that are known
abbrev pub IsJudgedIn : Model → Known → List Bound → Proposal → Type 0
IsJudgedIn g k path p = IsJudged g.instance.now g.version k.rows.items path p

abbrev pub IsNodeIn : Model → List Range → List Bound → Type 0
IsNodeIn g rs path = IsNodeOf g.instance.now (ranges_in g) rs path

-- the search has come to a node with this knowledge
pub record IsReached (g : Model) (k : Known) (node : Node) : Type 0 where
  pub is_node : IsNodeIn g node.ranges.items node.path.items
  pub known : IsKnown g k

abbrev pub IsKeptIn : Model → Known → List Range → List Bound → Proposal → Type 0
IsKeptIn g k rs path p = IsKept g.instance.now (ranges_in g) g.version g.least k.rows.items rs path p

-- it is kept wherever another proposal is, whatever is known there
abbrev pub IsKeptAs : Model → List Range → List Bound → Proposal → Proposal → Type 0
IsKeptAs g rs path old new =
    (least : ℕ) (rows : List LinRow)
    → IsKept g.instance.now (ranges_in g) g.version least rows rs path old
    → IsKept g.instance.now (ranges_in g) g.version least rows rs path new

abbrev pub IsEvidentIn : Model → List Bound → Proposal → Type 0
IsEvidentIn g path p = IsEvidentAt g.instance.now g.root path p

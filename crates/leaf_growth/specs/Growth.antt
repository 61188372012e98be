-- What a leaf says stays said: with more cuts, and further down the tree.
use Rattle.std.specs.Prelude.{ℕ, ◌<◌, ◌^◌, List, ◌++◌, ⊤}
use Rattle.lot_sizing.specs.Problem.{Problem}
use Rattle.lin_rows.specs.declared.bound.Bound.{Bound}
use Rattle.lin_rows.specs.Rows.{LinRow}
use Rattle.cert_lines.specs.Shapes.{LeafShape, LinearLeaf, FarkasLeaf, PointLeaf, ReducedLeaf}
use Rattle.cert_trees.specs.Ranges.{Ranges}
use Rattle.cert_meaning.specs.declared.says.LeafSays.{LeafSays}
use Rattle.cert_meaning.specs.declared.says.LeafSays.TheVariants.{AtLeast}
use Rattle.cert_meaning.specs.Named.{Named, names}
use Rattle.cert_meaning.specs.Says.{Says}
use Rattle.cert_meaning.specs.Accepts.{IsSmallLeaf}
use Rattle.cert_checker.specs.Leaves.{LeafIsSmall, LeafSaysThis}

-- a leaf that takes rows by their names
abbrev pub IsOfRows : LeafShape → Type 0
IsOfRows (LinearLeaf den parts) = ⊤
IsOfRows (FarkasLeaf parts) = ⊤
IsOfRows PointLeaf = ⊥
IsOfRows (ReducedLeaf den parts lists groups) = ⊤

-- it says this, and its sums are small
pub record SaysAt (n : Named) (ranges : Ranges) (leaf : LeafShape) (says : LeafSays) : Type 0 where
  pub said : Says n ranges leaf says
  pub small : IsSmallLeaf n leaf

-- the rows of cuts and the bounds of a path stay where they are when more of them follow; so a leaf of rows says below a node what it says there, and with more cuts
abbrev pub LeavesGoOn : Type 0
LeavesGoOn =
    (m : Problem) (total : ℕ → ℕ) (ranges : Ranges) (cuts more : List LinRow) (path further : List Bound) (leaf : LeafShape) (says : LeafSays)
    → IsOfRows leaf → SaysAt (names m total cuts path) ranges leaf says
    → SaysAt (names m total (cuts ++ more) (path ++ further)) ranges leaf says

-- at the same node each leaf does so with more cuts, the leaf of one choice too
abbrev pub LeavesStay : Type 0
LeavesStay =
    (m : Problem) (total : ℕ → ℕ) (ranges : Ranges) (cuts more : List LinRow) (path : List Bound) (leaf : LeafShape) (says : LeafSays)
    → SaysAt (names m total cuts path) ranges leaf says → SaysAt (names m total (cuts ++ more) path) ranges leaf says

-- ---- whatever the largest totals are
pub record LeafSaysSmall (m : Problem) (cuts : List LinRow) (path : List Bound) (leaf : LeafShape) (says : LeafSays) : Type 0 where
  pub said : LeafSaysThis m cuts path leaf says
  pub small : LeafIsSmall m cuts path leaf

abbrev pub SaidGoesOn : Type 0
SaidGoesOn =
    (m : Problem) (cuts more : List LinRow) (path further : List Bound) (leaf : LeafShape) (says : LeafSays)
    → IsOfRows leaf → LeafSaysSmall m cuts path leaf says → LeafSaysSmall m (cuts ++ more) (path ++ further) leaf says

abbrev pub SaidStays : Type 0
SaidStays =
    (m : Problem) (cuts more : List LinRow) (path : List Bound) (leaf : LeafShape) (says : LeafSays)
    → LeafSaysSmall m cuts path leaf says → LeafSaysSmall m (cuts ++ more) path leaf says

-- ---- how much is said
-- a leaf of rows whose sums are small says a small number
abbrev pub SaysSmallAmount : Type 0
SaysSmallAmount = (n : Named) (ranges : Ranges) (leaf : LeafShape) (amount : ℕ) → IsOfRows leaf → SaysAt n ranges leaf (AtLeast amount) → amount < 2 ^ 127

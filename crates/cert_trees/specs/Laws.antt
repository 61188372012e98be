-- What a split tree does: each choice of quantities and setups lies at one leaf.
use Rattle.std.specs.Prelude.{◌≡◌, ◌↔◌, ℕ, ◌+◌, ◌*◌, ◌≤◌, IsTrue, List, [], length, count_by}
use Rattle.lot_sizing.specs.Problem.{Problem}
use Rattle.lot_sizing.specs.Plan.{Plan, IsFeasible}
use Rattle.lot_sizing.specs.Totals.{AreLargestTotals, IsRanking}
use Rattle.lin_rows.specs.declared.bound.Bound.{Bound}
use Rattle.lin_rows.specs.declared.column.Column.{Column}
use Rattle.lin_rows.specs.Bounds.{MeetsBound}
use Rattle.lin_rows.specs.Columns.{value_in}
use Rattle.lin_rows.specs.Rows.{Values, whole_point}
use Rattle.certificate.specs.Counts.{node_count}
use Rattle.certificate.specs.Shapes.{TreeShape}
use Rattle.cert_trees.specs.Spans.{IsIn}
use Rattle.cert_trees.specs.Ranges.{AreOpen, IsWithin, Ranges, whole_ranges}
use Rattle.cert_trees.specs.Paths.{AreChoices, AreMet, IsMet, MeetsOn, left_by}
use Rattle.cert_trees.specs.Trees.{EachLeaf, IsSplitTree, LiesAtOne, leaf_count, leaf_paths, lies_at}

-- values meet a bound where they are within it as a point of whole numbers
abbrev pub BoundsAreMet : Type 0
BoundsAreMet = (v : Values) (b : Bound) → IsMet v b ↔ MeetsBound (whole_point v) b

-- a number is in what a path leaves of a range where it is in the range and meets each bound on the column
abbrev pub NumbersAreLeft : Type 0
NumbersAreLeft = (ranges : Ranges) (path : List Bound) (c : Column) (n : ℕ) → IsIn (left_by ranges path c) n ↔ (IsIn (ranges c) n × MeetsOn path c n)

-- a plan is within what a path leaves where it is within the ranges and meets all bounds of the path
abbrev pub RangesAreLeft : Type 0
RangesAreLeft =
    (m : Problem) (ranges : Ranges) (path : List Bound) → AreChoices m path
    → (p : Plan) → IsWithin m (left_by ranges path) p ↔ (IsWithin m ranges p × AreMet (value_in p) path)

-- values lie where they meet all bounds of the path
abbrev pub LiesWhereMet : Type 0
LiesWhereMet = (v : Values) (path : List Bound) → IsTrue (lies_at v path) ↔ AreMet v path

-- values lie at exactly one leaf of a tree
abbrev pub OneLeafForEach : Type 0
OneLeafForEach = (v : Values) (t : TreeShape) → count_by (lies_at v) (leaf_paths [] t) ≡ 1

-- no whole range is empty
abbrev pub WholeAreOpen : Type 0
WholeAreOpen = (m : Problem) (total : ℕ → ℕ) → AreOpen m (whole_ranges total)

-- a split tree leaves no empty range at any leaf, where it starts from none
abbrev pub LeavesAreOpen : Type 0
LeavesAreOpen =
    (m : Problem) (ranges : Ranges) (t : TreeShape) → IsSplitTree m ranges [] t → AreOpen m ranges
    → EachLeaf (λ path leaf. AreOpen m (left_by ranges path)) [] t

-- a tree has one leaf more than it has branches, and one path to each leaf
abbrev pub TreesAreOdd : Type 0
TreesAreOdd = (t : TreeShape) → (node_count t + 1 ≡ 2 * leaf_count t) × ((path : List Bound) → length (leaf_paths path t) ≡ leaf_count t)

-- a feasible plan makes no more of an item in a period than its largest total, and no more than one setup
abbrev pub PlansAreWithin : Type 0
PlansAreWithin =
    (m : Problem) (rank total : ℕ → ℕ) → 1 ≤ m.periods → IsRanking m rank → AreLargestTotals m total
    → (p : Plan) → IsFeasible m p → IsWithin m (whole_ranges total) p

-- a plan within the ranges from which a split tree starts is within those of exactly one leaf
abbrev pub PlansLieAtOneLeaf : Type 0
PlansLieAtOneLeaf =
    (m : Problem) (ranges : Ranges) (t : TreeShape) → IsSplitTree m ranges [] t
    → (p : Plan) → IsWithin m ranges p → LiesAtOne m ranges (leaf_paths [] t) p

-- so is each feasible plan, where the tree starts from the whole ranges
abbrev pub FeasibleLieAtOneLeaf : Type 0
FeasibleLieAtOneLeaf =
    (m : Problem) (rank total : ℕ → ℕ) (t : TreeShape) → 1 ≤ m.periods → IsRanking m rank → AreLargestTotals m total
    → IsSplitTree m (whole_ranges total) [] t
    → (p : Plan) → IsFeasible m p → LiesAtOne m (whole_ranges total) (leaf_paths [] t) p

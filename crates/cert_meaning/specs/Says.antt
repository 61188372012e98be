-- What a leaf says of the feasible plans that lie in it.
use Rattle.std.specs.Prelude.{◌≡◌, ◌⊎◌, ℕ, ◌≤◌, ℤ, pos, ◌*ℤ◌, ◌≤ℤ◌, ◌<ℤ◌, List, map}
use Rattle.lot_sizing.specs.Problem.{Problem}
use Rattle.lot_sizing.specs.Plan.{Plan, Table, EachCell, IsFeasible, cost}
use Rattle.lot_sizing.specs.Least.{HasChoice}
use Rattle.lot_sizing.specs.Totals.{AreLargestTotals, IsRanking}
use Rattle.lin_rows.specs.declared.column.Column.{Column}
use Rattle.lin_rows.specs.declared.column.Column.TheVariants.{X, Y}
use Rattle.lin_rows.specs.Columns.{IsColumn, column_cost}
use Rattle.item_groups.specs.declared.group.Group.{Group}
use Rattle.reduced_groups.specs.Floors.{shape_of}
use Rattle.reduced_leaf.specs.Leaf.{IsReducedSum, LacksOneChoice}
use Rattle.cert_lines.specs.declared.parts.Part.{Part}
use Rattle.cert_lines.specs.Shapes.{LeafShape, LinearLeaf, FarkasLeaf, ListShape, PointLeaf, ReducedLeaf}
use Rattle.cert_trees.specs.Spans.{Span}
use Rattle.cert_trees.specs.Ranges.{Ranges}
use Rattle.cert_trees.specs.Paths.{left_by}
use Rattle.cert_meaning.specs.declared.says.LeafSays.{LeafSays}
use Rattle.cert_meaning.specs.declared.says.LeafSays.TheVariants.{NoPlan, AtLeast}
use Rattle.cert_meaning.specs.Named.{Named}
use Rattle.cert_meaning.specs.Parts.{AreParts, rows_of, sum_of_column, sum_of_right, times_of}
use Rattle.cert_meaning.specs.Lists.{AreListed, all_parts}

-- a over den, rounded up: the least whole number of at least 0 that isn't below it
pub record IsRoundedUp (den a : ℤ) (n : ℕ) : Type 0 where
  pub above : a ≤ℤ (den *ℤ pos n)
  pub least : (k : ℕ) → a ≤ℤ (den *ℤ pos k) → n ≤ k

-- by linear duality: the sum takes no column more often than den times its cost, so den times what a plan costs is at least the right side
pub record IsLinear (n : Named) (den : ℤ) (parts : List Part) (bound : ℕ) : Type 0 where
  pub positive : pos 1 ≤ℤ den
  pub parts_exist : AreParts n parts
  pub columns : (c : Column) → IsColumn n.problem c → sum_of_column n parts c ≤ℤ (den *ℤ pos (column_cost n.problem c))
  pub right : IsRoundedUp den (sum_of_right n parts) bound

-- by Farkas' lemma: the sum takes no column a positive number of times and has a positive right side, so the rows can't hold together
pub record IsFarkas (n : Named) (parts : List Part) : Type 0 where
  pub parts_exist : AreParts n parts
  pub columns : (c : Column) → IsColumn n.problem c → sum_of_column n parts c ≤ℤ pos 0
  pub right : pos 0 <ℤ sum_of_right n parts

-- what the right sides of parts and the numbers of groups add to, where no reduced cost is below 0
abbrev pub IsSumOf : Named → ℕ → List Part → List Group → ℤ → Type 0
IsSumOf n den parts groups sum =
    IsReducedSum n.problem n.total (rows_of n parts) (times_of parts) den (map shape_of groups) sum

-- one of the groups has no choice
abbrev pub GroupLacksChoice : Named → ℕ → List Part → List Group → Type 0
GroupLacksChoice n den parts groups =
    LacksOneChoice n.problem n.total (rows_of n parts) (times_of parts) den (map shape_of groups)

-- no item is its own component, and these are the largest totals: there groups have one number
pub record IsRanked (m : Problem) (total : ℕ → ℕ) : Type 0 where
  pub rank : ℕ → ℕ
  pub ranks : IsRanking m rank
  pub totals : AreLargestTotals m total

-- by reduced costs: what the sum leaves of den times the cost of a column is at least 0, and what groups take of it costs at least their numbers, so den times what a plan costs is at least the right side and these numbers
pub record IsReducedBound (n : Named) (den : ℕ) (parts : List Part) (lists : List ListShape) (groups : List Group) (bound : ℕ) : Type 0 where
  pub ranked : IsRanked n.problem n.total
  pub listed : AreListed n parts lists
  pub positive : 1 ≤ den
  pub sum : ℤ
  pub adds : IsSumOf n den (all_parts parts lists) groups sum
  pub right : IsRoundedUp (pos den) sum bound

-- there is no plan where one of the groups has no choice; nor where den is 0, and the right side and the numbers add to more than 0
pub record IsReducedRefuted (n : Named) (den : ℕ) (parts : List Part) (lists : List ListShape) (groups : List Group) : Type 0 where
  pub ranked : IsRanked n.problem n.total
  pub listed : AreListed n parts lists
  pub refuted : GroupLacksChoice n den (all_parts parts lists) groups ⊎ ((den ≡ 0) × (sum : ℤ) × IsSumOf n den (all_parts parts lists) groups sum × (pos 0 <ℤ sum))

-- a range has one value
abbrev pub HasOneValue : Span → Type 0
HasOneValue s = s.low ≡ s.high

-- the path leaves each quantity and each setup one value
abbrev pub IsPoint : Named → Ranges → Type 0
IsPoint n ranges =
    EachCell n.problem (λ i t. HasOneValue (left_by ranges n.path (X i t)) × HasOneValue (left_by ranges n.path (Y i t)))

-- these quantities and setups
abbrev pub point_make : Named → Ranges → Table
point_make n ranges i t = (left_by ranges n.path (X i t)).low

abbrev pub point_setup : Named → Ranges → Table
point_setup n ranges i t = (left_by ranges n.path (Y i t)).low

-- no feasible plan has these quantities and setups
abbrev pub HasNone : Problem → Table → Table → Type 0
HasNone m make setup = (p : Plan) → IsFeasible m p → HasChoice m make setup p → ⊥

-- the least cost of a feasible plan that has them
pub record IsLeastCost (m : Problem) (quantities setups : Table) (amount : ℕ) : Type 0 where
  pub plan : Plan
  pub feasible : IsFeasible m plan
  pub chosen : HasChoice m quantities setups plan
  pub costs : cost m plan ≡ amount
  pub least : (p : Plan) → IsFeasible m p → HasChoice m quantities setups p → amount ≤ cost m p

-- what a leaf says
abbrev pub Says : Named → Ranges → LeafShape → LeafSays → Type 0
Says n ranges (LinearLeaf den parts) NoPlan = ⊥
Says n ranges (LinearLeaf den parts) (AtLeast bound) = IsLinear n den parts bound
Says n ranges (FarkasLeaf parts) NoPlan = IsFarkas n parts
Says n ranges (FarkasLeaf parts) (AtLeast bound) = ⊥
Says n ranges PointLeaf NoPlan =
    IsPoint n ranges × HasNone n.problem (point_make n ranges) (point_setup n ranges)
Says n ranges PointLeaf (AtLeast bound) =
    IsPoint n ranges × IsLeastCost n.problem (point_make n ranges) (point_setup n ranges) bound
Says n ranges (ReducedLeaf den parts lists groups) NoPlan = IsReducedRefuted n den parts lists groups
Says n ranges (ReducedLeaf den parts lists groups) (AtLeast bound) = IsReducedBound n den parts lists groups bound

-- what is said is so of a plan
abbrev pub IsSoOf : Problem → LeafSays → Plan → Type 0
IsSoOf m NoPlan p = ⊥
IsSoOf m (AtLeast bound) p = bound ≤ cost m p

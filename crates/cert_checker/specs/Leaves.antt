-- Why a list of parts, or a leaf, is refused, and on which line.
use Rattle.std.specs.Prelude.{◌≡◌, ◌⊎◌, ℕ, ◌+◌, ◌^◌, ◌≤◌, ◌<◌, false, ℤ, pos, ◌*ℤ◌, ◌≤ℤ◌, ◌<ℤ◌, List, [], length, slice_index_or, take, ⊤}
use Rattle.std.specs.List.{All}
use Rattle.lot_sizing.specs.Plan.{Plan, IsFeasible, Table}
use Rattle.lot_sizing.specs.Problem.{Problem}
use Rattle.lin_rows.specs.declared.bound.Bound.{Bound}
use Rattle.lin_rows.specs.declared.column.Column.{Column}
use Rattle.lin_rows.specs.declared.column.Column.TheVariants.{X, Y, R}
use Rattle.lin_rows.specs.declared.base.RowName.TheVariants.{Balance}
use Rattle.lin_rows.specs.Columns.{IsColumn, column_cost, order_of, value_in}
use Rattle.lin_rows.specs.Rows.{LinRow}
use Rattle.item_groups.specs.declared.group.Group.{Group}
use Rattle.reduced_leaf.specs.declared.sums.ReducedFault.{ReducedFault}
use Rattle.reduced_leaf.specs.declared.sums.ReducedFault.TheVariants as reduced
use Rattle.reduced_leaf.specs.Leaf.{IsSmallSum}
use Rattle.reduced_leaf.specs.Faults.{IsReducedFaultOf}
use Rattle.cert_lines.specs.declared.parts.ListKind.TheVariants as kind
use Rattle.cert_lines.specs.declared.parts.Part.{Part}
use Rattle.cert_lines.specs.Shapes.{LeafShape, LinearLeaf, FarkasLeaf, ListShape, PointLeaf, ReducedLeaf}
use Rattle.cert_trees.specs.Paths.{AreMet, left_by}
use Rattle.cert_trees.specs.Ranges.{IsChoice, Ranges, WithTotals, whole_ranges}
use Rattle.cert_meaning.specs.declared.says.LeafSays.{LeafSays}
use Rattle.cert_meaning.specs.declared.says.LeafSays.TheVariants.{AtLeast, NoPlan}
use Rattle.cert_meaning.specs.Named.{IsNamed, Named, names, row_named}
use Rattle.cert_meaning.specs.Parts.{AreParts, AreSmall, rows_of, sum_of_column, sum_of_right, times_of}
use Rattle.cert_meaning.specs.Lists.{HasEach, all_parts, parts_of_list}
use Rattle.cert_meaning.specs.Says.{HasOneValue, IsPoint, IsRanked, IsRoundedUp, IsSoOf, IsSumOf, Says}
use Rattle.cert_meaning.specs.Accepts.{IsSmallLeaf}
use Rattle.cert_meaning.specs.Laws.{HoldAtPlans}
use Rattle.cert_checker.specs.declared.fault.Why.{Why}
use Rattle.cert_checker.specs.declared.fault.Why.TheVariants as why
use Rattle.cert_checker.specs.declared.fault.CheckFault.{CheckFault}
use Rattle.cert_checker.specs.declared.fault.CheckFault.TheVariants as fault

-- of a refusal, that its line and its cause are these; memory may always be wanting
abbrev pub IfRejected : CheckFault → (ℕ → Why → Type 0) → Type 0
IfRejected (fault.Rejected r) P = P r.line r.why
IfRejected fault.Memory P = ⊤

-- what is read past the end of a list of parts
abbrev pub no_part : Part
no_part = record { row = Balance 0 0; times = pos 0 }

-- a part may not be taken: there is no such row, or an inequality is taken a negative number of times
abbrev pub IsWrongPart : Named → Part → Why → Type 0
IsWrongPart n part why.Range = IsNamed n part.row → ⊥
IsWrongPart n part why.Sign = IsNamed n part.row × ((row_named n part.row).equal ≡ false) × (part.times <ℤ pos 0)
IsWrongPart n part _ = ⊥

-- the first such part, on its line: the lines of the parts follow this one
pub record IsFirstWrong (n : Named) (parts : List Part) (line at : ℕ) (w : Why) : Type 0 where
  pub place : ℕ
  pub exists : place < length parts
  pub before : AreParts n (take place parts)
  pub wrong : IsWrongPart n (slice_index_or parts place no_part) w
  pub number : at ≡ line + 1 + place

-- no column is taken more often than it may be
abbrev pub AreWithinMost : Named → (Column → ℤ) → List Part → Type 0
AreWithinMost n most parts = (c : Column) → IsColumn n.problem c → sum_of_column n parts c ≤ℤ most c

-- the first column, by kind, then by item, then by period, that is taken more often than it may be
pub record IsFirstColumn (n : Named) (most : Column → ℤ) (parts : List Part) (c : Column) : Type 0 where
  pub column : IsColumn n.problem c
  pub large : most c <ℤ sum_of_column n parts c
  pub before : (d : Column) → IsColumn n.problem d → order_of d < order_of c → sum_of_column n parts d ≤ℤ most d

-- why the sum of parts is refused, where `line` is that of the leaf: a part, then the amounts, then a column
abbrev pub IsSumFault : Named → (Column → ℤ) → List Part → (line at : ℕ) → Why → Type 0
IsSumFault n most parts line at why.Range = IsFirstWrong n parts line at why.Range
IsSumFault n most parts line at why.Sign = IsFirstWrong n parts line at why.Sign
IsSumFault n most parts line at why.TooLarge = (at ≡ line) × AreParts n parts × (AreSmall n parts → ⊥)
IsSumFault n most parts line at (why.Column c) = (at ≡ line) × AreParts n parts × AreSmall n parts × IsFirstColumn n most parts c
IsSumFault n most parts line at _ = ⊥

-- how often a leaf by linear duality may take a column, and one by Farkas' lemma
abbrev pub linear_most : Named → ℤ → Column → ℤ
linear_most n den c = den *ℤ pos (column_cost n.problem c)

abbrev pub farkas_most : Column → ℤ
farkas_most c = pos 0

-- parts that may be taken, whose amounts are small, and whose sum takes no column more often than it may
pub record IsGoodSum (n : Named) (most : Column → ℤ) (parts : List Part) : Type 0 where
  pub parts_exist : AreParts n parts
  pub small : AreSmall n parts
  pub columns : AreWithinMost n most parts

-- a sum with no column that refutes nothing, since its right side isn't positive
pub record IsShortSum (n : Named) (parts : List Part) : Type 0 where
  pub parts_exist : AreParts n parts
  pub small : AreSmall n parts
  pub columns : AreWithinMost n farkas_most parts
  pub right : sum_of_right n parts ≤ℤ pos 0

abbrev pub IsFarkasFault : Named → List Part → (line at : ℕ) → Why → Type 0
IsFarkasFault n parts line at (why.Short says) = (at ≡ line) × (says ≡ 0) × IsShortSum n parts
IsFarkasFault n parts line at w = IsSumFault n farkas_most parts line at w

-- the path leaves a quantity or a setup this value alone
pub record IsLeftOne (total : ℕ → ℕ) (path : List Bound) (c : Column) (number : ℕ) : Type 0 where
  pub one : HasOneValue (left_by (whole_ranges total) path c)
  pub value : number ≡ (left_by (whole_ranges total) path c).low

-- these are the quantity and the setup of an item and a period
abbrev pub IsPointAt : (ℕ → ℕ) → List Bound → Table → Table → ℕ → ℕ → Type 0
IsPointAt total path make setup i t = IsLeftOne total path (X i t) (make i t) × IsLeftOne total path (Y i t) (setup i t)

-- one of them has more values or fewer
abbrev pub HasOpenChoice : Problem → List Bound → Type 0
HasOpenChoice m path =
    (c : Column) × IsChoice m c × WithTotals m (λ total. HasOneValue (left_by (whole_ranges total) path c) → ⊥)

abbrev pub IsPointFault : Named → Ranges → (line at : ℕ) → Why → Type 0
IsPointFault n ranges line at why.NotPoint = (at ≡ line) × (IsPoint n ranges → ⊥)
IsPointFault n ranges line at _ = ⊥

-- what is read past the end of a list of lists
abbrev pub no_list : ListShape
no_list = record { kind = kind.Balance; index = 0; times = [] }

-- a list may be taken: it has an entry for each period, and each of its parts may be taken
pub record IsList (n : Named) (a : ListShape) : Type 0 where
  pub each : HasEach n a
  pub parts_exist : AreParts n (parts_of_list a)

-- it may not: it hasn't an entry for each period, or else the first of its parts that may not be taken is why
abbrev pub IsWrongList : Named → ListShape → Why → Type 0
IsWrongList n a w =
    ((w ≡ why.Range) × (HasEach n a → ⊥)) ⊎ (HasEach n a × (at : ℕ) × IsFirstWrong n (parts_of_list a) 0 at w)

-- the first such list, on its line: the lines of the lists follow this one
pub record IsFirstWrongList (n : Named) (lists : List ListShape) (line at : ℕ) (w : Why) : Type 0 where
  pub place : ℕ
  pub exists : place < length lists
  pub before : All (IsList n) (take place lists)
  pub wrong : IsWrongList n (slice_index_or lists place no_list) w
  pub number : at ≡ line + 1 + place

-- the line and the cause of a fault of groups, where the leaf is on `line` and its first group on `first`
abbrev pub IsRefusedAs : ReducedFault → (line first at : ℕ) → Why → Type 0
IsRefusedAs (reduced.Group k) line first at w = (at ≡ first + k) × (w ≡ why.Range)
IsRefusedAs (reduced.Twice i) line first at w = (at ≡ line) × (w ≡ why.Range)
IsRefusedAs (reduced.Charge i t) line first at w = (at ≡ line) × (w ≡ why.Column (R i t))
IsRefusedAs (reduced.Work k) line first at w = (at ≡ first + k) × (w ≡ why.Work)
IsRefusedAs reduced.TooLarge line first at w = (at ≡ line) × (w ≡ why.TooLarge)
IsRefusedAs reduced.Memory line first at w = ⊥

-- with a denominator of 0, right sides and numbers of groups that add to nothing positive refute nothing
pub record IsShortReduced (n : Named) (parts : List Part) (groups : List Group) : Type 0 where
  pub sum : ℤ
  pub adds : IsSumOf n 0 parts groups sum
  pub small : IsSmallSum (rows_of n parts) (times_of parts) sum
  pub none : sum ≤ℤ pos 0

-- why the groups of a leaf are refused, whose sum of parts is good; or the sum with their numbers refutes nothing
abbrev pub IsGroupsFault : Named → ℕ → List Part → List Group → (line first at : ℕ) → Why → Type 0
IsGroupsFault n den parts groups line first at w =
    IsRanked n.problem n.total
    × (((f : ReducedFault) × IsRefusedAs f line first at w
    × IsReducedFaultOf n.problem n.total (rows_of n parts) (times_of parts) den groups f)
    ⊎ ((at ≡ line) × (w ≡ why.Short 0) × (den ≡ 0) × IsShortReduced n parts groups))

-- why a leaf over reduced costs is refused: its parts, then its lists, then the sum of all of them as that of a leaf by linear duality, then its groups
abbrev pub IsReducedFault : Named → ℕ → List Part → List ListShape → List Group → (line at : ℕ) → Why → Type 0
IsReducedFault n den parts lists groups line at w =
    let all = all_parts parts lists in
    IsFirstWrong n parts line at w
    ⊎ (AreParts n parts
    × (IsFirstWrongList n lists (line + length parts) at w
    ⊎ (All (IsList n) lists
    × (IsSumFault n (linear_most n (pos den)) all line at w
    ⊎ (IsGoodSum n (linear_most n (pos den)) all
    × IsGroupsFault n den all groups line (line + 1 + length parts + length lists) at w)))))

-- why a leaf on this line says nothing
abbrev pub IsLeafFault : Named → Ranges → LeafShape → (line at : ℕ) → Why → Type 0
IsLeafFault n ranges (LinearLeaf den parts) line at w = IsSumFault n (linear_most n den) parts line at w
IsLeafFault n ranges (FarkasLeaf parts) line at w = IsFarkasFault n parts line at w
IsLeafFault n ranges PointLeaf line at w = IsPointFault n ranges line at w
IsLeafFault n ranges (ReducedLeaf den parts lists groups) line at w = IsReducedFault n den parts lists groups line at w

-- the denominator of a leaf by linear duality is at least 1
abbrev pub HasDenominator : LeafShape → Type 0
HasDenominator (LinearLeaf den parts) = pos 1 ≤ℤ den
HasDenominator (FarkasLeaf parts) = ⊤
HasDenominator PointLeaf = ⊤
HasDenominator (ReducedLeaf den parts lists groups) = ⊤

-- ---- what calls promise of a leaf, whatever the largest totals are
abbrev pub WithNames : Problem → List LinRow → List Bound → (Named → Ranges → Type 0) → Type 0
WithNames m cuts path P = WithTotals m (λ total. P (names m total cuts path) (whole_ranges total))

-- what right sides and numbers of groups say that add to this
abbrev pub IsSaidBy : (den : ℕ) → (sum : ℤ) → LeafSays → Type 0
IsSaidBy den sum NoPlan = (den ≡ 0) × (pos 0 <ℤ sum)
IsSaidBy den sum (AtLeast bound) = (1 ≤ den) × IsRoundedUp (pos den) sum bound

-- with a denominator of 0 they refute nothing
abbrev pub IsShortBy : (den : ℕ) → (sum : ℤ) → (line at : ℕ) → Why → Type 0
IsShortBy den sum line at w = (at ≡ line) × (w ≡ why.Short 0) × (den ≡ 0) × (sum ≤ℤ pos 0)

-- the line of a group at fault is a number of 64 bits
abbrev pub HasLine : ReducedFault → (first : ℕ) → Type 0
HasLine (reduced.Group k) first = first + k < 2 ^ 64
HasLine (reduced.Twice i) first = ⊤
HasLine (reduced.Charge i t) first = ⊤
HasLine (reduced.Work k) first = first + k < 2 ^ 64
HasLine reduced.TooLarge first = ⊤
HasLine reduced.Memory first = ⊤

-- it says this, and its sums are small
abbrev pub LeafSaysThis : Problem → List LinRow → List Bound → LeafShape → LeafSays → Type 0
LeafSaysThis m cuts path leaf says = WithNames m cuts path (λ n ranges. Says n ranges leaf says)

abbrev pub LeafIsSmall : Problem → List LinRow → List Bound → LeafShape → Type 0
LeafIsSmall m cuts path leaf = WithNames m cuts path (λ n ranges. IsSmallLeaf n leaf)

-- it is so of each feasible plan that meets the path, where the rows of the cuts hold at every feasible plan
abbrev pub IsSoOfPlans : Problem → List LinRow → List Bound → LeafSays → Type 0
IsSoOfPlans m cuts path says =
    HoldAtPlans m cuts → (p : Plan) → IsFeasible m p → AreMet (value_in p) path → IsSoOf m says p

-- why it says nothing
abbrev pub IsFaultOfLeaf : Problem → List LinRow → List Bound → LeafShape → (line : ℕ) → CheckFault → Type 0
IsFaultOfLeaf m cuts path leaf line f =
    IfRejected f (λ at w. WithNames m cuts path (λ n ranges. IsLeafFault n ranges leaf line at w))

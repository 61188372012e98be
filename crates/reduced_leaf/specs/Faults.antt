-- Why rows and groups have no sum, and which rows sums are of.
use Rattle.std.specs.Prelude.{◌≡◌, ◌⊎◌, ℕ, ◌<◌, ◌≤◌, ℤ, pos, ◌*ℤ◌, ◌≤ℤ◌, List, length, map, slice_index_or, take, ⊤}
use Rattle.std.specs.List.{All}
use Rattle.lot_sizing.specs.Problem.{Problem}
use Rattle.lot_sizing.specs.Plan.{Table}
use Rattle.lot_sizing.specs.Totals.{AreLargestTotals}
use Rattle.lin_rows.specs.declared.column.Column.{Column}
use Rattle.lin_rows.specs.declared.column.Column.TheVariants.{R}
use Rattle.lin_rows.specs.Columns.{IsColumn, column_cost}
use Rattle.lin_rows.specs.Combining.{column_sum, right_sum}
use Rattle.lin_rows.specs.Rows.{LinRow}
use Rattle.lin_rows.specs.Sums.{Summed, total_of}
use Rattle.late_starts.specs.Charges.{AreCharges}
use Rattle.item_groups.specs.declared.group.Group.{Group}
use Rattle.reduced_groups.specs.Groups.{AreKnown, GroupShape, ItemGroup, Known}
use Rattle.reduced_groups.specs.Apart.{AreApart, LieApart, share_in}
use Rattle.reduced_groups.specs.Rows.{AreReduced}
use Rattle.reduced_groups.specs.Floors.{AreGroupsOf, IsFirstOther, IsFirstTwice, IsWithinWork, shape_of}
use Rattle.reduced_leaf.specs.declared.sums.ReducedFault.{ReducedFault}
use Rattle.reduced_leaf.specs.declared.sums.ReducedFault.TheVariants as fault
use Rattle.reduced_leaf.specs.Leaf.{IsReducedSum, IsSmallSum}

-- the group at a place, counted from 0
abbrev pub shape_at : List GroupShape → ℕ → GroupShape
shape_at shapes k = slice_index_or shapes k (ItemGroup 0)

-- the first group past the limits of work, by what must have been started and what is on time, at these prices
pub record IsFirstPastAt (m : Problem) (start on_time : Table) (price : Column → ℕ) (shapes : List GroupShape) (k : ℕ) : Type 0 where
  pub place : k < length shapes
  pub before : All (IsWithinWork m start on_time price) (take k shapes)
  pub past : IsWithinWork m start on_time price (shape_at shapes k) → ⊥

-- at what is known of the problem and the reduced costs, of which none is below 0; and groups lie apart
pub record IsFirstPast (m : Problem) (total : ℕ → ℕ) (rows : List LinRow) (times : List ℤ) (den : ℕ) (shapes : List GroupShape) (k : ℕ) : Type 0 where
  pub known : Known
  pub is_known : AreKnown m total known
  pub price : Column → ℕ
  pub reduced : AreReduced m rows times den price
  pub apart : AreApart m known price shapes
  pub first : IsFirstPastAt m known.start known.on_time price shapes k

-- an item and a period come before others, by item and then by period
abbrev pub ComesBefore : (j t item period : ℕ) → Type 0
ComesBefore j t item period = (j < item) ⊎ ((j ≡ item) × (t < period))

-- the first backlog on which is charged more than its price
pub record IsFirstOver (m : Problem) (price : Column → ℕ) (charge : Table) (item period : ℕ) : Type 0 where
  pub column : IsColumn m (R item period)
  pub above : price (R item period) < charge item period
  pub before : (j t : ℕ) → IsColumn m (R j t) → ComesBefore j t item period → charge j t ≤ price (R j t)

-- at what is known of the problem and the reduced costs: groups lie apart, but what falls short at their shares charges more on this backlog than its reduced cost, and on none before it
pub record IsOvercharged (m : Problem) (total : ℕ → ℕ) (rows : List LinRow) (times : List ℤ) (den : ℕ) (shapes : List GroupShape) (item period : ℕ) : Type 0 where
  pub known : Known
  pub is_known : AreKnown m total known
  pub price : Column → ℕ
  pub reduced : AreReduced m rows times den price
  pub lie : LieApart m shapes
  pub charge : Table
  pub charges : AreCharges m known.on_time (share_in shapes) charge
  pub first : IsFirstOver m price charge item period

-- there is a sum, but it isn't small
abbrev pub IsTooLarge : Problem → (ℕ → ℕ) → List LinRow → List ℤ → ℕ → List GroupShape → Type 0
IsTooLarge m total rows times den shapes = (sum : ℤ) × IsReducedSum m total rows times den shapes sum × (IsSmallSum rows times sum → ⊥)

-- a group that is none of the model, an item in two places, shares that charge too much, a group past the limits, or a sum that is too large; memory may always run out
abbrev pub IsReducedFaultOf : Problem → (ℕ → ℕ) → List LinRow → List ℤ → ℕ → List Group → ReducedFault → Type 0
IsReducedFaultOf m total rows times den groups (fault.Group k) = IsFirstOther m groups k
IsReducedFaultOf m total rows times den groups (fault.Twice i) = AreGroupsOf m groups × IsFirstTwice m (map shape_of groups) i
IsReducedFaultOf m total rows times den groups (fault.Charge i t) = IsOvercharged m total rows times den (map shape_of groups) i t
IsReducedFaultOf m total rows times den groups (fault.Work k) = IsFirstPast m total rows times den (map shape_of groups) k
IsReducedFaultOf m total rows times den groups fault.TooLarge = IsTooLarge m total rows times den (map shape_of groups)
IsReducedFaultOf m total rows times den groups fault.Memory = ⊤

-- no column's sum is above den times its cost
abbrev pub AreSumsWithin : Problem → Summed → ℕ → Type 0
AreSumsWithin m summed den = (c : Column) → IsColumn m c → (total_of summed c).sum ≤ℤ (pos den *ℤ pos (column_cost m c))

-- sums of columns and right sides are those of multiples of rows
pub record AreSumsOf (m : Problem) (summed : Summed) (rows : List LinRow) (times : List ℤ) : Type 0 where
  pub columns : (c : Column) → IsColumn m c → (total_of summed c).sum ≡ column_sum rows times c
  pub right : summed.right.sum ≡ right_sum rows times

-- whatever rows they are of, and whatever largest totals are taken of the problem
abbrev pub OfSums : Problem → Summed → ((ℕ → ℕ) → List LinRow → List ℤ → Type 0) → Type 0
OfSums m summed P =
    (total : ℕ → ℕ) (rows : List LinRow) (times : List ℤ) → AreLargestTotals m total → AreSumsOf m summed rows times → P total rows times

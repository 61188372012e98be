-- Groups that lie apart, and take no backlog more often than its reduced cost.
use Rattle.std.specs.Prelude.{◌≡◌, ℕ, ◌+◌, ◌*◌, ◌≤◌, IsNone, List, [], ◌∷◌, length, ⊤}
use Rattle.std.specs.List.{All}
use Rattle.lot_sizing.specs.Problem.{Problem, entry, item_at, item_count, per_unit}
use Rattle.lot_sizing.specs.Bill.{one_if_same}
use Rattle.lot_sizing.specs.Plan.{Table}
use Rattle.lin_rows.specs.declared.column.Column.{Column}
use Rattle.lin_rows.specs.declared.column.Column.TheVariants.{R}
use Rattle.lin_rows.specs.Columns.{IsColumn}
use Rattle.late_starts.specs.Charges.{AreCharges}
use Rattle.item_groups.specs.declared.group.ChainLink.{ChainLink}
use Rattle.reduced_groups.specs.Groups.{ChainGroup, GroupShape, ItemGroup, Known, LateGroup, LateQuantityGroup, QuantityGroup}

-- the items of a chain
abbrev pub items_of : List ChainLink → List ℕ
items_of [] = []
items_of (link ∷ rest) = link.item ∷ items_of rest

-- the items of a group, all of whose setups and quantities it takes
abbrev pub items_in : GroupShape → List ℕ
items_in (ItemGroup i) = i ∷ []
items_in (LateGroup i shares) = i ∷ []
items_in (QuantityGroup i) = i ∷ []
items_in (LateQuantityGroup i shares) = i ∷ []
items_in (ChainGroup low rest) = low.item ∷ items_of rest

-- how often a list has an item
abbrev pub times_of : List ℕ → ℕ → ℕ
times_of [] i = 0
times_of (k ∷ items) i = one_if_same k i + times_of items i

-- in how many places of groups an item is
abbrev pub times_in : List GroupShape → ℕ → ℕ
times_in [] i = 0
times_in (s ∷ shapes) i = times_of (items_in s) i + times_in shapes i

-- an item of the problem
abbrev pub IsItem : Problem → ℕ → Type 0
IsItem m i = (1 ≤ i) × (i ≤ item_count m)

-- each item of a chain but the last is never late, and goes into the next one
abbrev pub AreLinked : Problem → ChainLink → List ChainLink → Type 0
AreLinked m link [] = ⊤
AreLinked m link (next ∷ rest) = IsNone (item_at m link.item).backlog_cost × (1 ≤ per_unit m link.item next.item) × AreLinked m next rest

-- the items of a chain go into each other
abbrev pub IsLinked : Problem → GroupShape → Type 0
IsLinked m (ItemGroup i) = ⊤
IsLinked m (LateGroup i shares) = ⊤
IsLinked m (QuantityGroup i) = ⊤
IsLinked m (LateQuantityGroup i shares) = ⊤
IsLinked m (ChainGroup low rest) = AreLinked m low rest

-- there is a share for each period
abbrev pub IsShared : Problem → GroupShape → Type 0
IsShared m (ItemGroup i) = ⊤
IsShared m (LateGroup i shares) = length shares ≡ m.periods
IsShared m (QuantityGroup i) = ⊤
IsShared m (LateQuantityGroup i shares) = length shares ≡ m.periods
IsShared m (ChainGroup low rest) = ⊤

-- a group of items of the problem
pub record IsGroupOf (m : Problem) (s : GroupShape) : Type 0 where
  pub items : All (IsItem m) (items_in s)
  pub linked : IsLinked m s
  pub shared : IsShared m s

-- groups of items of the problem, and no item is in two places
pub record LieApart (m : Problem) (shapes : List GroupShape) : Type 0 where
  pub groups : All (IsGroupOf m) shapes
  pub once : (i : ℕ) → times_in shapes i ≤ 1

-- what a unit of an item that falls short by the end of a period costs in a group
abbrev pub share_of : GroupShape → ℕ → ℕ → ℕ
share_of (ItemGroup k) i t = 0
share_of (LateGroup k shares) i t = one_if_same k i * entry shares t
share_of (QuantityGroup k) i t = 0
share_of (LateQuantityGroup k shares) i t = one_if_same k i * entry shares t
share_of (ChainGroup low rest) i t = 0

-- and in all groups, which is 0 for an item that may fall short in none
abbrev pub share_in : List GroupShape → ℕ → ℕ → ℕ
share_in [] i t = 0
share_in (s ∷ shapes) i t = share_of s i t + share_in shapes i t

-- what falls short at these shares charges no more on any backlog than its reduced cost
pub record AreCharged (m : Problem) (known : Known) (price : Column → ℕ) (shapes : List GroupShape) : Type 0 where
  pub charge : Table
  pub charges : AreCharges m known.on_time (share_in shapes) charge
  pub within : (j t : ℕ) → IsColumn m (R j t) → charge j t ≤ price (R j t)

-- groups that lie apart, and whose shares are paid for by the backlogs
pub record AreApart (m : Problem) (known : Known) (price : Column → ℕ) (shapes : List GroupShape) : Type 0 where
  pub lie : LieApart m shapes
  pub charged : AreCharged m known price shapes

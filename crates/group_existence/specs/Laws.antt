-- Groups have numbers, and each list of groups is judged.
use Rattle.std.specs.Prelude.{◌⊎◌, ℕ, ◌<◌, List, length, map, slice_index_or, take}
use Rattle.std.specs.List.{All}
use Rattle.lot_sizing.specs.Problem.{Problem}
use Rattle.lot_sizing.specs.Plan.{Table}
use Rattle.lin_rows.specs.declared.column.Column.{Column}
use Rattle.item_groups.specs.declared.group.Group.{Group}
use Rattle.reduced_groups.specs.declared.apart.GroupFault.{GroupFault}
use Rattle.reduced_groups.specs.Groups.{GroupShape, ItemGroup, Known}
use Rattle.reduced_groups.specs.Numbers.{AreNumbersOf, SomeLacksChoice}
use Rattle.reduced_groups.specs.Apart.{LieApart}
use Rattle.reduced_groups.specs.Floors.{IsGroupFaultOf, IsWithinWork, shape_of}

-- at any prices, and whatever is taken to be known of a problem, groups have numbers, or one of them has no choice
abbrev pub NumbersExist : Type 0
NumbersExist =
    (m : Problem) (known : Known) (price : Column → ℕ) (groups : List Group)
    → ((amounts : List ℕ) × AreNumbersOf m known price (map shape_of groups) amounts) ⊎ SomeLacksChoice m known price (map shape_of groups)

-- groups lie apart, or something is wrong with them first
abbrev pub GroupsAreJudged : Type 0
GroupsAreJudged =
    (m : Problem) (groups : List Group) → LieApart m (map shape_of groups) ⊎ ((fault : GroupFault) × IsGroupFaultOf m groups fault)

-- the first group whose work is past the limits
pub record IsPastFirst (m : Problem) (start on_time : Table) (price : Column → ℕ) (shapes : List GroupShape) (k : ℕ) : Type 0 where
  pub place : k < length shapes
  pub before : All (IsWithinWork m start on_time price) (take k shapes)
  pub past : IsWithinWork m start on_time price (slice_index_or shapes k (ItemGroup 0)) → ⊥

-- the work of all groups is within the limits, or that of a first one isn't
abbrev pub WorkIsJudged : Type 0
WorkIsJudged =
    (m : Problem) (start on_time : Table) (price : Column → ℕ) (groups : List Group)
    → All (IsWithinWork m start on_time price) (map shape_of groups) ⊎ ((k : ℕ) × IsPastFirst m start on_time price (map shape_of groups) k)

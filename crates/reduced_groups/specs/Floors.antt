-- What is found of a group.
use Rattle.std.specs.Prelude.{◌≡◌, ◌≢◌, ◌⊎◌, ℕ, ◌+◌, ◌-◌, ◌*◌, ◌≤◌, ◌<◌, IsNone, List, [], ◌∷◌, length, map, slice_index_or, take, if◌then◌else◌, nat_le, ⊤}
use Rattle.std.specs.List.{All}
use Rattle.lot_sizing.specs.Problem.{Problem, entry, item_at, item_count, per_unit}
use Rattle.lot_sizing.specs.Plan.{Table}
use Rattle.lot_sizing.specs.Totals.{AreLargestTotals}
use Rattle.lin_rows.specs.declared.column.Column.{Column}
use Rattle.lin_rows.specs.declared.column.Column.TheVariants.{X, Y}
use Rattle.must_start.specs.Lots.{IsLargestLotOf}
use Rattle.must_start.specs.Rows.{row_in}
use Rattle.late_starts.specs.declared.lots.LateLot.{LateLot}
use Rattle.late_starts.specs.Pricing as late
use Rattle.quantity_dp.specs.declared.lots.LotPeriod.{LotPeriod}
use Rattle.quantity_dp.specs.Lots.{HasNoChoice, IsLeastPrice, lot_at, lots_of}
use Rattle.quantity_dp.specs.Limits.{IsFaultOf}
use Rattle.quantity_dp.specs.declared.limits.LotsFault.{LotsFault}
use Rattle.quantity_dp.specs.declared.limits.TheConstants.{MAX_ENTRIES, MAX_PRICE}
use Rattle.chain_dp.specs.declared.error.ChainError.{ChainError}
use Rattle.chain_dp.specs.declared.error.ChainError.TheVariants as error
use Rattle.chain_dp.specs.Chains.{opening_cost}
use Rattle.chain_dp.specs.Numbers.{most}
use Rattle.item_groups.specs.declared.group.ChainLink.{ChainLink}
use Rattle.item_groups.specs.declared.group.Group.{Group}
use Rattle.item_groups.specs.declared.group.Group.TheVariants as group
use Rattle.reduced_groups.specs.declared.apart.GroupFault.{GroupFault}
use Rattle.reduced_groups.specs.declared.apart.GroupFault.TheVariants as fault
use Rattle.reduced_groups.specs.declared.floors.Floor.{Floor}
use Rattle.reduced_groups.specs.declared.floors.Floor.TheVariants.{Least, NoChoice}
use Rattle.reduced_groups.specs.declared.floors.FloorFault.{FloorFault}
use Rattle.reduced_groups.specs.declared.floors.FloorFault.TheVariants.{Entries, Horizon, Memory, Price, TooDear}
use Rattle.reduced_groups.specs.declared.floors.TheConstants.{MAX_HORIZON}
use Rattle.reduced_groups.specs.Groups.{AreKnown, ChainGroup, GroupShape, ItemGroup, Known, LateGroup, LateQuantityGroup, QuantityGroup, chain_levels}
use Rattle.reduced_groups.specs.Numbers.{IsNumberOf, LacksChoice}
use Rattle.reduced_groups.specs.Apart.{IsGroupOf, items_in, items_of, times_in, times_of}
use Rattle.reduced_groups.specs.Prices.{AreSmall, PriceLists, price_in}

-- the group that is meant
abbrev pub shape_of : Group → GroupShape
shape_of (group.Item i) = ItemGroup i
shape_of (group.Late i shares) = LateGroup i shares
shape_of (group.Quantities i) = QuantityGroup i
shape_of (group.LateQuantities i shares) = LateQuantityGroup i shares
shape_of (group.Pair low top) = ChainGroup low (top ∷ [])
shape_of (group.Triple low mid top) = ChainGroup low (mid ∷ (top ∷ []))

-- whatever starts and lots are taken of the problem
abbrev pub WhateverIsKnown : Problem → (Known → Type 0) → Type 0
WhateverIsKnown m P = (total : ℕ → ℕ) (known : Known) → AreLargestTotals m total → AreKnown m total known → P known

-- the number of the group at these prices; or it has no choice
abbrev pub IsFloorOf : Problem → PriceLists → GroupShape → Floor → Type 0
IsFloorOf m prices s (Least amount) = WhateverIsKnown m (λ known. IsNumberOf m known (price_in prices) s amount)
IsFloorOf m prices s NoChoice = WhateverIsKnown m (λ known. LacksChoice m known (price_in prices) s)

-- no price of an item is above the limit
abbrev pub HasSmallPrices : PriceLists → ℕ → Type 0
HasSmallPrices prices i = AreSmall (row_in prices.setups i) × AreSmall (row_in prices.units i)

-- the same of prices of columns, over all periods
abbrev pub HasSmallPricesOf : Problem → (Column → ℕ) → ℕ → Type 0
HasSmallPricesOf m price i = (t : ℕ) → 1 ≤ t → t ≤ m.periods → (price (Y i t) ≤ MAX_PRICE) × (price (X i t) ≤ MAX_PRICE)

-- of each of some items
abbrev pub HaveSmallPrices : Problem → (Column → ℕ) → List ℕ → Type 0
HaveSmallPrices m price [] = ⊤
HaveSmallPrices m price (i ∷ items) = HasSmallPricesOf m price i × HaveSmallPrices m price items

-- the table of whole quantities of an item is small enough for what is asked of it
abbrev pub HasFewEntries : Problem → Table → ℕ → Type 0
HasFewEntries m asked i = (t : ℕ) → 1 ≤ t → t ≤ m.periods → m.periods * (asked i t + 1) ≤ MAX_ENTRIES

-- of three items or more, with the lead time of the second there are few enough periods; these are the items after the lowest
abbrev pub HasFewPeriods : Problem → List ChainLink → Type 0
HasFewPeriods m [] = ⊤
HasFewPeriods m (top ∷ []) = ⊤
HasFewPeriods m (mid ∷ (top ∷ rest)) = m.periods + (item_at m mid.item).lead ≤ MAX_HORIZON

-- the work of finding the number of a group, and the numbers in it, stay within the limits, by what must have been started and what is on time
abbrev pub IsWithinWork : Problem → (start on_time : Table) → (Column → ℕ) → GroupShape → Type 0
IsWithinWork m start on_time price (ItemGroup i) = HasSmallPricesOf m price i
IsWithinWork m start on_time price (LateGroup i shares) = HasSmallPricesOf m price i
IsWithinWork m start on_time price (QuantityGroup i) = HasSmallPricesOf m price i × HasFewEntries m start i
IsWithinWork m start on_time price (LateQuantityGroup i shares) = HasSmallPricesOf m price i × HasFewEntries m on_time i
IsWithinWork m start on_time price (ChainGroup low rest) = HaveSmallPrices m price (low.item ∷ items_of rest) × HasFewPeriods m rest × (opening_cost m.periods (chain_levels m start price low rest) < most)

-- a price of the item is
abbrev pub HasLargePrice : Problem → PriceLists → ℕ → ℕ → Type 0
HasLargePrice m prices i t = (1 ≤ t) × (t ≤ m.periods) × ((MAX_PRICE < entry (row_in prices.setups i) t) ⊎ (MAX_PRICE < entry (row_in prices.units i) t))

-- the fault of a price above the limit
abbrev pub HasLargePriceAs : Problem → PriceLists → ℕ → FloorFault → Type 0
HasLargePriceAs m prices i (Price j t) = (j ≡ i) × HasLargePrice m prices i t
HasLargePriceAs m prices i Entries = ⊥
HasLargePriceAs m prices i Horizon = ⊥
HasLargePriceAs m prices i TooDear = ⊥
HasLargePriceAs m prices i Memory = ⊥

-- the table of whole quantities is too large
abbrev pub HasManyEntriesOf : Problem → Table → ℕ → Type 0
HasManyEntriesOf m asked i = (t : ℕ) × (1 ≤ t) × (t ≤ m.periods) × (MAX_ENTRIES < m.periods * (asked i t + 1))

abbrev pub HasManyEntries : Problem → (start on_time : Table) → GroupShape → Type 0
HasManyEntries m start on_time (ItemGroup i) = ⊥
HasManyEntries m start on_time (LateGroup i shares) = ⊥
HasManyEntries m start on_time (QuantityGroup i) = HasManyEntriesOf m start i
HasManyEntries m start on_time (LateQuantityGroup i shares) = HasManyEntriesOf m on_time i
HasManyEntries m start on_time (ChainGroup low rest) = ⊥

-- the second of three items comes so late that there are too many periods
abbrev pub IsTooLong : Problem → GroupShape → Type 0
IsTooLong m (ItemGroup i) = ⊥
IsTooLong m (LateGroup i shares) = ⊥
IsTooLong m (QuantityGroup i) = ⊥
IsTooLong m (LateQuantityGroup i shares) = ⊥
IsTooLong m (ChainGroup low []) = ⊥
IsTooLong m (ChainGroup low (top ∷ [])) = ⊥
IsTooLong m (ChainGroup low (mid ∷ (top ∷ rest))) = MAX_HORIZON < m.periods + (item_at m mid.item).lead

-- it costs too much to buy all that is asked of a chain before the first period
abbrev pub IsTooDear : Problem → Table → PriceLists → GroupShape → Type 0
IsTooDear m start prices (ItemGroup i) = ⊥
IsTooDear m start prices (LateGroup i shares) = ⊥
IsTooDear m start prices (QuantityGroup i) = ⊥
IsTooDear m start prices (LateQuantityGroup i shares) = ⊥
IsTooDear m start prices (ChainGroup low rest) = most ≤ opening_cost m.periods (chain_levels m start (price_in prices) low rest)

-- why nothing is found of a group: an item of it has a price above the limit, its table or its periods are too many, or its opening stocks are too dear. Memory may always run out
abbrev pub IsFloorFaultOf : Problem → (start on_time : Table) → PriceLists → GroupShape → FloorFault → Type 0
IsFloorFaultOf m start on_time prices s (Price i t) = (1 ≤ times_of (items_in s) i) × HasLargePrice m prices i t
IsFloorFaultOf m start on_time prices s Entries = HasManyEntries m start on_time s
IsFloorFaultOf m start on_time prices s Horizon = IsTooLong m s
IsFloorFaultOf m start on_time prices s TooDear = IsTooDear m start prices s
IsFloorFaultOf m start on_time prices s Memory = ⊤

-- then the group is past the limits, but where memory ran out
abbrev pub IsPastLimits : Problem → (start on_time : Table) → PriceLists → GroupShape → FloorFault → Type 0
IsPastLimits m start on_time prices s fault = fault ≢ Memory → IsWithinWork m start on_time (price_in prices) s → ⊥

-- the same fault
abbrev pub IsFaultFrom : ChainError → FloorFault → Type 0
IsFaultFrom error.TooDear fault = fault ≡ TooDear
IsFaultFrom error.Memory fault = fault ≡ Memory

-- what is found of lots: their least price, or that they have no choice
abbrev pub IsFoundOf : List LotPeriod → Floor → Type 0
IsFoundOf lots (Least amount) = IsLeastPrice (lots_of lots) amount
IsFoundOf lots NoChoice = HasNoChoice (lots_of lots)

-- why nothing is: they are past the limits. Memory may always run out
abbrev pub IsLotsFault : List LotPeriod → FloorFault → Type 0
IsLotsFault lots (Price i t) = ⊥
IsLotsFault lots Entries = (fault : LotsFault) × IsFaultOf lots fault
IsLotsFault lots Horizon = ⊥
IsLotsFault lots TooDear = ⊥
IsLotsFault lots Memory = ⊤

-- what must have been started of an item that may fall short: what is on time, where its lots arrive in the last period or later
abbrev pub settled_start : Problem → (start on_time : Table) → Table
settled_start m start on_time i t = if nat_le (m.periods - (item_at m i).lead) t then on_time i t else start i t

-- the lot of an item in a period, by what must have been started of it by the end, what is on time, and what a unit costs that falls short of it, which is no price above the limit
pub record IsLotFor (m : Problem) (start on_time cost : ℕ) (price : Column → ℕ) (i t : ℕ) (lot : LotPeriod) : Type 0 where
  pub setup : lot.setup ≡ price (Y i t)
  pub unit : lot.unit ≡ price (X i t)
  pub need : lot.need ≡ start
  pub asked : lot.asked ≡ on_time
  pub share : lot.share ≡ cost
  pub small : lot.share ≤ MAX_PRICE
  pub largest : IsLargestLotOf m i t lot.largest

-- the lots of the first periods of an item
pub record AreLotsFor (m : Problem) (start on_time cost : ℕ → ℕ) (price : Column → ℕ) (i n : ℕ) (lots : List LotPeriod) : Type 0 where
  pub size : length lots ≡ n
  pub each : (t : ℕ) → 1 ≤ t → t ≤ n → IsLotFor m (start t) (on_time t) (cost t) price i t (lot_at lots t)

-- the late lot of an item in a period: its prices, what a unit that falls short costs, and what is on time by its end
abbrev pub late_lot : Table → (Column → ℕ) → (item : ℕ) → (shares : List ℕ) → ℕ → LateLot
late_lot start price i shares t = record { setup = price (Y i t); unit = price (X i t); share = entry shares t; need = start i t }

-- the late lots of the first periods of an item
pub record AreLateLotsFor (start : Table) (price : Column → ℕ) (i : ℕ) (shares : List ℕ) (n : ℕ) (lots : List LateLot) : Type 0 where
  pub size : length lots ≡ n
  pub each : (t : ℕ) → 1 ≤ t → t ≤ n → late.lot_at lots t ≡ late_lot start price i shares t

-- an item of a chain is never late and goes into the next one
abbrev pub GoesInto : Problem → ℕ → ℕ → Type 0
GoesInto m i next = IsNone (item_at m i).backlog_cost × (1 ≤ per_unit m i next)

-- each group is one of the problem
abbrev pub AreGroupsOf : Problem → List Group → Type 0
AreGroupsOf m groups = All (λ g. IsGroupOf m (shape_of g)) groups

-- no item up to a number is in two places
abbrev pub AreOnceTo : ℕ → List GroupShape → Type 0
AreOnceTo n shapes = (i : ℕ) → 1 ≤ i → i ≤ n → times_in shapes i ≤ 1

-- read past the last group
abbrev pub no_group : Group
no_group = group.Item 0

-- the first group that isn't one of the problem
pub record IsFirstOther (m : Problem) (groups : List Group) (k : ℕ) : Type 0 where
  pub place : k < length groups
  pub before : AreGroupsOf m (take k groups)
  pub other : IsGroupOf m (shape_of (slice_index_or groups k no_group)) → ⊥

-- the first item that is in two places
pub record IsFirstTwice (m : Problem) (shapes : List GroupShape) (i : ℕ) : Type 0 where
  pub low : 1 ≤ i
  pub high : i ≤ item_count m
  pub before : AreOnceTo (i - 1) shapes
  pub twice : 1 < times_in shapes i

abbrev pub IsGroupFaultOf : Problem → List Group → GroupFault → Type 0
IsGroupFaultOf m groups (fault.Group k) = IsFirstOther m groups k
IsGroupFaultOf m groups (fault.Twice i) = AreGroupsOf m groups × IsFirstTwice m (map shape_of groups) i

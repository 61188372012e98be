-- The number of a group: no part of the reduced costs that it takes of a feasible plan is below it.
use Rattle.std.specs.Prelude.{◌≡◌, ◌⊎◌, ℕ, ◌+◌, ◌-◌, ◌≤◌, List, [], ◌∷◌, ⊤}
use Rattle.lot_sizing.specs.Problem.{Problem}
use Rattle.lot_sizing.specs.Plan.{Table}
use Rattle.lot_sizing.specs.Single.{NetPlan}
use Rattle.lin_rows.specs.declared.column.Column.{Column}
use Rattle.quantity_dp.specs.Lots.{HasNoChoice, IsLeastPrice}
use Rattle.chain_dp.specs.Chains.{IsLeastChainCost}
use Rattle.late_starts.specs.Choices.{IsLateChoice, IsLateFloor, LateLots, late_price}
use Rattle.item_groups.specs.declared.group.ChainLink.{ChainLink}
use Rattle.reduced_groups.specs.Groups.{ChainGroup, GroupShape, IsItemChoice, ItemGroup, Known, LateGroup, LateQuantityGroup, QuantityGroup, chain_levels, late_lots_in, lots_in, made_cost, short_lots_in, stocks_worth}

-- some setups and quantities of the item cost this, and none cost less
pub record IsLeastItem (m : Problem) (start : Table) (price : Column → ℕ) (i amount : ℕ) : Type 0 where
  pub some : (q : NetPlan) × IsItemChoice m start i q × (made_cost m price i q ≡ amount)
  pub least : (q : NetPlan) → IsItemChoice m start i q → amount ≤ made_cost m price i q

-- some setups, quantities and shortfalls of late lots cost this, and none cost less
pub record IsLeastLate (lots : LateLots) (amount : ℕ) : Type 0 where
  pub some : (q : NetPlan) × (short : ℕ → ℕ) × IsLateChoice lots q short × (late_price lots q short ≡ amount)
  pub least : IsLateFloor lots amount

-- the least cost of the chain, in which opening stocks of any size are bought at their prices, less what the stocks that are there are worth; and at least 0
pub record IsChainFloor (m : Problem) (start : Table) (price : Column → ℕ) (low : ChainLink) (rest : List ChainLink) (amount : ℕ) : Type 0 where
  pub cost : ℕ
  pub least : IsLeastChainCost m.periods (chain_levels m start price low rest) cost
  pub left : amount ≡ cost - stocks_worth m low rest

-- the number of a group at the prices of columns
abbrev pub IsNumberOf : Problem → Known → (Column → ℕ) → GroupShape → ℕ → Type 0
IsNumberOf m known price (ItemGroup i) amount = IsLeastItem m known.start price i amount
IsNumberOf m known price (LateGroup i shares) amount = IsLeastLate (late_lots_in m known price i shares) amount
IsNumberOf m known price (QuantityGroup i) amount = IsLeastPrice (lots_in m known price i) amount
IsNumberOf m known price (LateQuantityGroup i shares) amount = IsLeastPrice (short_lots_in m known price i shares) amount
IsNumberOf m known price (ChainGroup low rest) amount = IsChainFloor m known.start price low rest amount

-- the group has no choice: its largest lots are too small for what must have been started. Groups without bounds on lots always have one
abbrev pub LacksChoice : Problem → Known → (Column → ℕ) → GroupShape → Type 0
LacksChoice m known price (ItemGroup i) = ⊥
LacksChoice m known price (LateGroup i shares) = ⊥
LacksChoice m known price (QuantityGroup i) = HasNoChoice (lots_in m known price i)
LacksChoice m known price (LateQuantityGroup i shares) = HasNoChoice (short_lots_in m known price i shares)
LacksChoice m known price (ChainGroup low rest) = ⊥

-- a number of each group
abbrev pub AreNumbersOf : Problem → Known → (Column → ℕ) → List GroupShape → List ℕ → Type 0
AreNumbersOf m known price [] [] = ⊤
AreNumbersOf m known price [] (a ∷ amounts) = ⊥
AreNumbersOf m known price (s ∷ shapes) [] = ⊥
AreNumbersOf m known price (s ∷ shapes) (a ∷ amounts) = IsNumberOf m known price s a × AreNumbersOf m known price shapes amounts

-- what they add to
abbrev pub sum_of : List ℕ → ℕ
sum_of [] = 0
sum_of (a ∷ amounts) = a + sum_of amounts

-- one of the groups has no choice
abbrev pub SomeLacksChoice : Problem → Known → (Column → ℕ) → List GroupShape → Type 0
SomeLacksChoice m known price [] = ⊥
SomeLacksChoice m known price (s ∷ shapes) = LacksChoice m known price s ⊎ SomeLacksChoice m known price shapes

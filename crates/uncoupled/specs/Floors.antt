-- The items that are planned so far, and what shows that none can be made cheaper.
use Rattle.std.specs.Prelude.{◌≡◌, ℕ, suc, ◌+◌, List, [], ◌∷◌, length, ⊤}
use Rattle.lot_sizing.specs.Problem.{Problem, item_count}
use Rattle.lot_sizing.specs.Single.{IsLeastNetCost, position_count, potential}
use Rattle.plan_rules.specs.Cells.{Cells}
use Rattle.echelon.specs.Views.{single_in}
use Rattle.lin_rows.specs.declared.prices.Potentials.{Potentials}
use Rattle.uncoupled.specs.Items.{ProvesItem}
use Rattle.uncoupled.specs.Rows.{AreBestBefore}

-- the lists of an item prove it, and some net plan of it costs the last potential
pub record ProvesBest (m : Problem) (i : ℕ) (p : Potentials) : Type 0 where
  pub proves : ProvesItem m i p
  pub least : IsLeastNetCost (single_in m i) (potential p.steps.items (position_count (single_in m i)))

-- the lists of the items from this one on, in their order
abbrev pub ProveBestFrom : Problem → ℕ → List Potentials → Type 0
ProveBestFrom m i [] = ⊤
ProveBestFrom m i (p ∷ rest) = ProvesBest m i p × ProveBestFrom m (suc i) rest

-- the rows before an item are best, the others are empty, and each item before it has its lists
pub record ArePlannedBefore (m : Problem) (make setup : Cells) (lists : List Potentials) (item : ℕ) : Type 0 where
  pub rows : AreBestBefore m make setup item
  pub one_each : length lists + 1 ≡ item
  pub prove : ProveBestFrom m 1 lists

-- all rows are best, and each item has its lists
abbrev pub AreAllPlanned : Problem → Cells → Cells → List Potentials → Type 0
AreAllPlanned m make setup lists = ArePlannedBefore m make setup lists (item_count m + 1)

-- What a recursion finds for an item by itself.
use Rattle.std.specs.Prelude.{◌≡◌, ℕ, ◌*◌, ◌≤◌}
use Rattle.lot_sizing.specs.Problem.{AllAtMost}
use Rattle.lot_sizing.specs.Single.{Single, ArePotentials, Cover, IsLeastNetCost, blocks_cost, position_count, potential}
use Rattle.echelon.specs.declared.single.Blocks.{Blocks}
use Rattle.wagner_whitin.specs.Tables.{most_cost}

-- a cheapest way to serve an item, and potentials that show that no net plan costs less
pub record IsSolution (s : Single) (found : Blocks) : Type 0 where
  pub least : IsLeastNetCost s found.cost
  pub cover : Cover s found.blocks.items
  pub cost : blocks_cost s found.blocks.items ≡ found.cost
  pub potentials : ArePotentials s found.potentials.items
  pub last : potential found.potentials.items (position_count s) ≡ found.cost
  pub small : found.cost ≤ most_cost
  pub bounded : AllAtMost most_cost found.potentials.items

-- Plans with the least numbers of a list of ranges.
use Rattle.std.specs.Prelude.{ℕ, List}
use Rattle.lot_sizing.specs.Least.{HasChoice}
use Rattle.lot_sizing.specs.Problem.{Problem}
use Rattle.lot_sizing.specs.Plan.{Plan}
use Rattle.cert_meaning.specs.Says.{HasNone, IsLeastCost}
use Rattle.tree_search.specs.declared.node.Range.{Range}
use Rattle.node_domains.specs.Nodes.{least_make, least_setup}

-- the plan has them, its quantities and its setups
abbrev pub HasLeastNumbers : Problem → List Range → Plan → Type 0
HasLeastNumbers m rs p = HasChoice m (least_make m rs) (least_setup m rs) p

-- a cheapest feasible plan that has them costs this
abbrev pub IsLeastCostOfLeast : Problem → List Range → ℕ → Type 0
IsLeastCostOfLeast m rs n = IsLeastCost m (least_make m rs) (least_setup m rs) n

-- no feasible plan has them
abbrev pub NoneHasLeast : Problem → List Range → Type 0
NoneHasLeast m rs = HasNone m (least_make m rs) (least_setup m rs)

-- A chain of two levels over two periods.
use Rattle.std.specs.Prelude.{[], ◌∷◌}
use Rattle.chain_dp.specs.Chains.{IsLeastChainCost, Level}

-- a part: a setup costs 5, a unit 1; two go into a product
abbrev pub part : Level
part = record { setup_cost = λ t. 5; unit_cost = λ t. 1; need = λ t. 0; opening_price = 100; per_next = 2; lead = 0 }

-- a product: a setup costs 4, a unit 1; one is asked for in each period
abbrev pub product : Level
product = record { setup_cost = λ t. 4; unit_cost = λ t. 1; need = λ t. 1; opening_price = 100; per_next = 1; lead = 0 }

-- one setup of each is best: 5 and 4, four parts and two products
abbrev pub WorkedChain : Type 0
WorkedChain = IsLeastChainCost 2 (part ∷ product ∷ []) 15

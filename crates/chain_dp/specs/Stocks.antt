-- Chains whose opening stocks are never worth their prices.
use Rattle.std.specs.Prelude.{◌≡◌, ℕ, ◌+◌, ◌*◌, ◌≤◌, List, [], ◌∷◌}
use Rattle.chain_dp.specs.Chains.{IsChainMade, IsLeastChainCost, Level, Lots, chain_cost}

-- a unit of opening stock costs at least what the first one costs that is made in period 1, with all that goes into it: `fees` are the setups of the levels below, and `below` is the price of their units in one of this level
abbrev pub AreDear : (fees below : ℕ) → List Level → Type 0
AreDear fees below [] = Unit {0}
AreDear fees below (l ∷ ls) =
    (l.lead ≡ 0) × (fees + l.setup_cost 1 + (l.unit_cost 1 + below) ≤ l.opening_price)
    × AreDear (fees + l.setup_cost 1) (l.per_next * (l.unit_cost 1 + below)) ls

-- no units of lots 0
abbrev pub NoStocks : List Lots → Type 0
NoStocks [] = Unit {0}
NoStocks (w ∷ ws) = (w.make 0 ≡ 0) × NoStocks ws

-- then the least cost is that of a choice without opening stocks
abbrev pub StocksAreUnused : Type 0
StocksAreUnused =
    (periods : ℕ) (levels : List Level) (cost : ℕ) → AreDear 0 0 levels → IsLeastChainCost periods levels cost
    → (ws : List Lots) × IsChainMade periods levels ws × NoStocks ws × (chain_cost periods levels ws ≡ cost)

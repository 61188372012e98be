-- Chains of items, each of which goes into the next one, what may be made of them, and the least cost of it.
use Rattle.std.specs.Prelude.{◌≡◌, ℕ, ◌+◌, ◌-◌, ◌*◌, ◌≤◌, ◌<◌, List, [], ◌∷◌, length}
use Rattle.lot_sizing.specs.Sums.{sum_to}
use Rattle.lot_sizing.specs.Problem.{entry}
use Rattle.lot_sizing.specs.declared.limits.TheConstants.{MAX_PERIODS}
use Rattle.chain_dp.specs.declared.level.ChainLevel.{ChainLevel}

-- an item of a chain, by periods from 1 on
pub record Level : Type 0 where
  -- the cost of a setup
  pub setup_cost : ℕ → ℕ
  -- the cost of a unit
  pub unit_cost : ℕ → ℕ
  -- units that are asked for other than by the next level
  pub need : ℕ → ℕ
  -- the price of a unit that is there before period 1: of lot 0
  pub opening_price : ℕ
  -- units of it in a unit of the next level
  pub per_next : ℕ
  -- periods from the start of a lot until it arrives
  pub lead : ℕ

-- what is started of a level in each period, and its setups; the quantity of period 0 is lot 0
pub record Lots : Type 0 where
  pub make : ℕ → ℕ
  pub setup : ℕ → ℕ

-- units that have been started by the end of a period, and lot 0
abbrev pub made : Lots → ℕ → ℕ
made w t = w.make 0 + sum_to t w.make

-- units that a level takes of the one below it by the end of a period, as its lots are started: its lot 0 takes none
abbrev pub used_by : ℕ → Lots → ℕ → ℕ
used_by units w t = units * sum_to t w.make

-- the last level is used by no other
abbrev pub used_by_next : ℕ → List Lots → ℕ → ℕ
used_by_next units [] t = 0
used_by_next units (w ∷ ws) t = used_by units w t

-- lots are started where there is a setup, and arrive in time for what is asked of the level and what the next one takes
pub record IsMade (periods : ℕ) (l : Level) (used : ℕ → ℕ) (w : Lots) : Type 0 where
  pub once : (t : ℕ) → 1 ≤ t → t ≤ periods → w.setup t ≤ 1
  pub setup : (t : ℕ) → 1 ≤ t → t ≤ periods → 0 < w.make t → 1 ≤ w.setup t
  pub served : (t : ℕ) → t ≤ periods → used t + sum_to t l.need ≤ made w (t - l.lead)

-- what the lots of a level cost
abbrev pub lots_cost : ℕ → Level → Lots → ℕ
lots_cost periods l w = sum_to periods (λ t. l.setup_cost t * w.setup t + l.unit_cost t * w.make t) + l.opening_price * w.make 0

-- each level makes what is asked of it and what the next one takes; the lowest level comes first
abbrev pub IsChainMade : ℕ → List Level → List Lots → Type 0
IsChainMade periods [] [] = Unit {0}
IsChainMade periods [] (w ∷ ws) = ⊥
IsChainMade periods (l ∷ ls) [] = ⊥
IsChainMade periods (l ∷ ls) (w ∷ ws) = IsMade periods l (used_by_next l.per_next ws) w × IsChainMade periods ls ws

abbrev pub chain_cost : ℕ → List Level → List Lots → ℕ
chain_cost periods [] ws = 0
chain_cost periods (l ∷ ls) [] = 0
chain_cost periods (l ∷ ls) (w ∷ ws) = lots_cost periods l w + chain_cost periods ls ws

-- some choice of lots and setups costs this, and none costs less
pub record IsLeastChainCost (periods : ℕ) (levels : List Level) (cost : ℕ) : Type 0 where
  pub some : (ws : List Lots) × IsChainMade periods levels ws × (chain_cost periods levels ws ≡ cost)
  pub least : (ws : List Lots) → IsChainMade periods levels ws → cost ≤ chain_cost periods levels ws

-- what it costs to serve all that is asked for from lots 0
abbrev pub opening_cost : ℕ → List Level → ℕ
opening_cost periods [] = 0
opening_cost periods (l ∷ ls) = l.opening_price * sum_to periods l.need + opening_cost periods ls

-- the level that lists are of
abbrev pub level_of : ChainLevel → Level
level_of x = record {
  setup_cost = entry x.setup_cost.items;
  unit_cost = entry x.unit_cost.items;
  need = entry x.need.items;
  opening_price = x.opening_price;
  per_next = x.per_next;
  lead = x.lead;
}

abbrev pub levels_of : List ChainLevel → List Level
levels_of [] = []
levels_of (x ∷ xs) = level_of x ∷ levels_of xs

abbrev pub period_count : ChainLevel → ℕ
period_count x = length x.need.items

-- what it costs to serve a level from lot 0
abbrev pub opening_cost_of : ChainLevel → ℕ
opening_cost_of x = x.opening_price * sum_to (period_count x) (entry x.need.items)

-- each list has an entry for each period, of which there are no more than models may have
pub record HasPeriods (periods : ℕ) (x : ChainLevel) : Type 0 where
  pub few : periods ≤ MAX_PERIODS
  pub setup_cost : length x.setup_cost.items ≡ periods
  pub unit_cost : length x.unit_cost.items ≡ periods
  pub need : length x.need.items ≡ periods

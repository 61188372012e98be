-- One item by itself: its net demands and its costs, the plans that serve them, and what shows that none costs less.
use Rattle.std.specs.Prelude.{◌≡◌, ℕ, zero, suc, ◌+◌, ◌-◌, ◌*◌, ◌^◌, ◌≤◌, ◌<◌, List, [], ◌∷◌, ◌++◌, length, Option, IsNone, IfSome, if◌then◌else◌, ◌==◌}
use Rattle.std.specs.List.{sum_by, list_any}
use Rattle.lot_sizing.specs.Sums.{sum_to, sum_from}
use Rattle.lot_sizing.specs.Problem.{IsSeries, entry, backlog_price}
use Rattle.lot_sizing.specs.declared.Block.{Block}
use Rattle.lot_sizing.specs.declared.limits.TheConstants.{MAX_AMOUNT, MAX_PERIODS, MAX_TOTAL}

-- an entry of each list for each period
pub record Single : Type 0 where
  -- what remains to be made for the period once the opening stock is used up
  pub net : List ℕ
  pub setup : List ℕ
  pub unit : List ℕ
  pub hold : List ℕ
  -- none where no backlog is allowed
  pub back : Option (List ℕ)

abbrev pub period_count : Single → ℕ
period_count s = length s.net

abbrev pub net_demand : Single → ℕ → ℕ
net_demand s t = entry s.net t

-- the limits of a single item
pub record IsWithinBounds (s : Single) : Type 0 where
  pub periods : period_count s ≤ MAX_PERIODS
  pub setup : IsSeries (period_count s) MAX_AMOUNT s.setup
  pub unit : IsSeries (period_count s) MAX_AMOUNT s.unit
  pub hold : IsSeries (period_count s) MAX_AMOUNT s.hold
  pub back : IfSome s.back (IsSeries (period_count s) MAX_AMOUNT)
  pub net : sum_to (period_count s) (net_demand s) ≤ MAX_TOTAL

-- the quantity and the setup of each period
pub record NetPlan : Type 0 where
  pub make : ℕ → ℕ
  pub setup : ℕ → ℕ

-- what is left at the end of a period
abbrev pub excess : Single → NetPlan → ℕ → ℕ
excess s p t = sum_to t p.make - sum_to t (net_demand s)

-- what is owed at the end of a period
abbrev pub shortage : Single → NetPlan → ℕ → ℕ
shortage s p t = sum_to t (net_demand s) - sum_to t p.make

-- the net demands are served, each in time where no backlog is allowed
pub record IsNetPlan (s : Single) (p : NetPlan) : Type 0 where
  pub setup : (t : ℕ) → 1 ≤ t → t ≤ period_count s → p.setup t ≤ 1
  pub made : (t : ℕ) → 1 ≤ t → t ≤ period_count s → 0 < p.make t → p.setup t ≡ 1
  pub served : sum_to (period_count s) (net_demand s) ≤ sum_to (period_count s) p.make
  pub in_time : IsNone s.back → (t : ℕ) → 1 ≤ t → t ≤ period_count s → sum_to t (net_demand s) ≤ sum_to t p.make

abbrev pub net_cost_at : Single → NetPlan → ℕ → ℕ
net_cost_at s p t = entry s.setup t * p.setup t + entry s.unit t * p.make t + entry s.hold t * excess s p t + backlog_price s.back t * shortage s p t

abbrev pub net_cost : Single → NetPlan → ℕ
net_cost s p = sum_to (period_count s) (net_cost_at s p)

-- some net plan costs this, and none costs less
pub record IsLeastNetCost (s : Single) (c : ℕ) : Type 0 where
  pub some : (p : NetPlan) × IsNetPlan s p × (net_cost s p ≡ c)
  pub least : (p : NetPlan) → IsNetPlan s p → c ≤ net_cost s p

-- the periods up to t that have a net demand, in order
abbrev pub positions_to : Single → ℕ → List ℕ
positions_to s zero = []
positions_to s (suc t) = positions_to s t ++ (if net_demand s (suc t) == 0 then [] else suc t ∷ [])

abbrev pub positions : Single → List ℕ
positions s = positions_to s (period_count s)

abbrev pub position_count : Single → ℕ
position_count s = length (positions s)

-- the period of a position, counted from 1
abbrev pub period_of : Single → ℕ → ℕ
period_of s p = entry (positions s) p

-- the price of keeping a unit that is made in period u for period t, or of owing it from t to u
abbrev pub transport_price : Single → ℕ → ℕ → ℕ
transport_price s u t = sum_from u (t - u) (entry s.hold) + sum_from t (u - t) (backlog_price s.back)

-- the price of a unit that is made in period u and serves period t
abbrev pub unit_price : Single → ℕ → ℕ → ℕ
unit_price s u t = entry s.unit u + transport_price s u t

-- what it costs that period u serves a position, its setup aside
abbrev pub serving_cost : Single → ℕ → ℕ → ℕ
serving_cost s u p = net_demand s (period_of s p) * unit_price s u (period_of s p)

-- period u may serve period t: it is no later where no backlog is allowed
pub record IsServer (s : Single) (u t : ℕ) : Type 0 where
  pub low : 1 ≤ u
  pub high : u ≤ period_count s
  pub in_time : IsNone s.back → u ≤ t

-- a block of positions that one period may serve
pub record IsBlock (s : Single) (b : Block) : Type 0 where
  pub low : 1 ≤ b.first
  pub order : b.first ≤ b.last
  pub high : b.last ≤ position_count s
  pub server : IsServer s b.server (period_of s b.first)

-- a setup, and what it costs to serve the positions of the block
abbrev pub block_cost : Single → Block → ℕ
block_cost s b = entry s.setup b.server + sum_from b.first (suc b.last - b.first) (serving_cost s b.server)

-- the blocks cover the positions after p, in order
abbrev pub CoverFrom : Single → ℕ → List Block → Type 0
CoverFrom s p [] = p ≡ position_count s
CoverFrom s p (b ∷ rest) = (b.first ≡ p + 1) × IsBlock s b × CoverFrom s b.last rest

-- the blocks cover all positions, in order
abbrev pub Cover : Single → List Block → Type 0
Cover s blocks = CoverFrom s 0 blocks

abbrev pub blocks_cost : Single → List Block → ℕ
blocks_cost s blocks = sum_by (block_cost s) blocks

-- what a block makes
abbrev pub block_lot : Single → Block → ℕ
block_lot s b = sum_from b.first (suc b.last - b.first) (λ p. net_demand s (period_of s p))

-- what the blocks make in a period
abbrev pub lot_in : Single → List Block → ℕ → ℕ
lot_in s blocks u = sum_by (λ b. if b.server == u then block_lot s b else 0) blocks

-- whether the blocks set a period up
abbrev pub setup_in : List Block → ℕ → ℕ
setup_in blocks u = if list_any (λ b. b.server == u) blocks then 1 else 0

-- the net plan of the blocks
abbrev pub blocks_plan : Single → List Block → NetPlan
blocks_plan s blocks = record { make = lot_in s blocks; setup = setup_in blocks }

-- the potential of a position, and 0 before the first one
abbrev pub potential : List ℕ → ℕ → ℕ
potential g zero = 0
potential g (suc p) = entry g (suc p)

-- one number for each position, which rises over any block by no more than the block costs
pub record ArePotentials (s : Single) (g : List ℕ) : Type 0 where
  pub size : length g ≡ position_count s
  pub blocks : (b : Block) → IsBlock s b → potential g b.last ≤ potential g (b.first - 1) + block_cost s b

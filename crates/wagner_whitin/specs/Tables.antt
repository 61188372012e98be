-- What the tables of the recursion hold.
use Rattle.std.specs.Prelude.{◌≡◌, ℕ, ◌+◌, ◌-◌, ◌*◌, ◌≤◌, List, length, Option, None, Some, IfSome, slice_index_or}
use Rattle.lot_sizing.specs.Sums.{sum_to}
use Rattle.lot_sizing.specs.Problem.{entry}
use Rattle.lot_sizing.specs.declared.Block.{Block}
use Rattle.lot_sizing.specs.declared.limits.TheConstants.{MAX_AMOUNT, MAX_PERIODS, MAX_TOTAL}
use Rattle.lot_sizing.specs.Single.{Single, IsServer, IsBlock, period_count, period_of, block_cost, potential}
use Rattle.wagner_whitin.specs.declared.cost_sums.CostSums.{CostSums}
use Rattle.wagner_whitin.specs.declared.plain.Candidate.{Candidate}
use Rattle.wagner_whitin.specs.declared.server_blocks.ServerBlock.{ServerBlock}

-- the sums of the first numbers, that of none first
pub record AreSums (n : ℕ) (f : ℕ → ℕ) (sums : List ℕ) : Type 0 where
  pub size : length sums ≡ n + 1
  pub each : (k : ℕ) → k ≤ n → slice_index_or sums k 0 ≡ sum_to k f

pub record AreCostSums (s : Single) (cost_sums : CostSums) : Type 0 where
  pub held : AreSums (period_count s) (entry s.hold) cost_sums.held.items
  pub owed : IfSome s.back (λ costs. AreSums (period_count s) (entry costs) cost_sums.owed.items)

-- the highest price of a unit: it is made, and held or owed in every period
abbrev pub most_price : ℕ
most_price = (MAX_PERIODS + 1) * MAX_AMOUNT

-- all units at the highest price
abbrev pub most_serving : ℕ
most_serving = MAX_TOTAL * most_price

-- a setup and all units at the highest price
abbrev pub most_for_one : ℕ
most_for_one = MAX_AMOUNT + most_serving

-- no item within bounds costs more
abbrev pub most_cost : ℕ
most_cost = MAX_PERIODS * most_for_one

-- the cheapest last block of a server that ends with position p, and what all up to it costs
pub record IsServerBlock (s : Single) (g : List ℕ) (u p : ℕ) (block : ServerBlock) : Type 0 where
  pub own : block.server ≡ u
  pub low : 1 ≤ block.first
  pub high : block.first ≤ p
  pub server : IsServer s u (period_of s block.first)
  pub cost : block.cost ≡ potential g (block.first - 1) + block_cost s (record { first = block.first; last = p; server = u })
  pub least : (a : ℕ) → 1 ≤ a → a ≤ p → IsServer s u (period_of s a) → block.cost ≤ potential g (a - 1) + block_cost s (record { first = a; last = p; server = u })
  pub small : block.cost ≤ p * most_for_one

-- the server may serve no position up to p
abbrev pub IsClosed : Single → ℕ → ℕ → Type 0
IsClosed s u p = (a : ℕ) → 1 ≤ a → a ≤ p → IsServer s u (period_of s a) → ⊥

-- the server's block, and none where it may serve no position up to p
abbrev pub IsServerBlockOrNone : Single → List ℕ → ℕ → ℕ → Option ServerBlock → Type 0
IsServerBlockOrNone s g u p None = IsClosed s u p
IsServerBlockOrNone s g u p (Some block) = IsServerBlock s g u p block

abbrev pub block_at : List (Option ServerBlock) → ℕ → Option ServerBlock
block_at blocks u = slice_index_or blocks (u - 1) None

-- there is a block that costs at most so much
abbrev pub BlockCostsAtMost : Option ServerBlock → ℕ → Type 0
BlockCostsAtMost None x = ⊥
BlockCostsAtMost (Some block) x = block.cost ≤ x

-- each server has its block
pub record AreServerBlocks (s : Single) (g : List ℕ) (p : ℕ) (blocks : List (Option ServerBlock)) : Type 0 where
  pub size : length blocks ≡ period_count s
  pub each : (u : ℕ) → 1 ≤ u → u ≤ period_count s → IsServerBlockOrNone s g u p (block_at blocks u)

abbrev pub no_block : Block
no_block = record { first = 0; last = 0; server = 0 }

abbrev pub last_block : List Block → ℕ → Block
last_block lasts p = slice_index_or lasts (p - 1) no_block

-- the block ends with position p, and no other one makes its potential smaller
pub record IsLastBlock (s : Single) (g : List ℕ) (p : ℕ) (b : Block) : Type 0 where
  pub block : IsBlock s b
  pub ends : b.last ≡ p
  pub cost : potential g p ≡ potential g (b.first - 1) + block_cost s b

-- the least costs of the first p positions, and their last blocks
pub record IsTable (s : Single) (p : ℕ) (g : List ℕ) (lasts : List Block) : Type 0 where
  pub size : length g ≡ p
  pub blocks : length lasts ≡ p
  pub floor : (b : Block) → IsBlock s b → b.last ≤ p → potential g b.last ≤ potential g (b.first - 1) + block_cost s b
  pub last : (k : ℕ) → 1 ≤ k → k ≤ p → IsLastBlock s g k (last_block lasts k)
  pub small : (k : ℕ) → k ≤ p → potential g k ≤ k * most_for_one

-- a cheapest block of these positions, and what it costs after what was spent before
pub record IsCandidate (s : Single) (before first last : ℕ) (c : Candidate) : Type 0 where
  pub block : IsBlock s c.block
  pub begins : c.block.first ≡ first
  pub ends : c.block.last ≡ last
  pub cost : c.cost ≡ before + block_cost s c.block
  pub least : (u : ℕ) → IsServer s u (period_of s first) → c.cost ≤ before + block_cost s (record { first = first; last = last; server = u })
  pub small : c.cost ≤ before + (last + 1 - first) * most_for_one

-- a cheapest block that ends with position p, and what all up to it costs
pub record IsCheapestLast (s : Single) (g : List ℕ) (p : ℕ) (c : Candidate) : Type 0 where
  pub block : IsBlock s c.block
  pub ends : c.block.last ≡ p
  pub cost : c.cost ≡ potential g (c.block.first - 1) + block_cost s c.block
  pub least : (b : Block) → IsBlock s b → b.last ≡ p → c.cost ≤ potential g (b.first - 1) + block_cost s b
  pub small : c.cost ≤ p * most_for_one

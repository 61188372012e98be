-- The blocks over which potentials rise by more than the block costs, and the first one of them.
use Rattle.std.specs.Prelude.{◌≡◌, ◌⊎◌, ℕ, ◌+◌, ◌-◌, ◌≤◌, ◌<◌, Option, Some, None, List}
use Rattle.lot_sizing.specs.declared.Block.{Block}
use Rattle.lot_sizing.specs.Single.{IsBlock, Single, block_cost, potential}

-- the potentials rise over a block by no more than it costs
abbrev pub HoldsOver : Single → List ℕ → Block → Type 0
HoldsOver s g b = potential g b.last ≤ potential g (b.first - 1) + block_cost s b

-- by the first position, then by the last one, then by the server
abbrev pub IsEarlier : Block → Block → Type 0
IsEarlier a b = (a.first < b.first) ⊎ ((a.first ≡ b.first) × ((a.last < b.last) ⊎ ((a.last ≡ b.last) × (a.server < b.server))))

-- of all blocks the first one over which they rise by more
pub record IsFirstBroken (s : Single) (g : List ℕ) (b : Block) : Type 0 where
  pub block : IsBlock s b
  pub broken : HoldsOver s g b → ⊥
  pub before : (c : Block) → IsBlock s c → IsEarlier c b → HoldsOver s g c

-- there is such a block, or they rise over none by more
abbrev pub IsFirstBrokenOrNone : Single → List ℕ → Option Block → Type 0
IsFirstBrokenOrNone s g None = (b : Block) → IsBlock s b → HoldsOver s g b
IsFirstBrokenOrNone s g (Some b) = IsFirstBroken s g b

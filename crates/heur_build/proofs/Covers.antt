-- Blocks that cover positions.
use Rattle.std.proofs.Common.{◌<◌, List, [], ◌∷◌, length, slice_index_or, ℕ, zero, suc, arith}
use Rattle.lot_sizing.specs.declared.Block.{Block}
use Rattle.lot_sizing.specs.Single.{CoverFrom, IsBlock, Single}

-- each is a block
pub block_at : (s : Single) (p : ℕ) (blocks : List Block) (k : ℕ) (d : Block) → CoverFrom s p blocks → k < length blocks → IsBlock s (slice_index_or blocks k d)
block_at s p [] k d cover less = absurd (omega (arith, less))
block_at s p (b ∷ rest) zero d (first, block, cover) less = block
block_at s p (b ∷ rest) (suc k) d (first, block, cover) less = block_at s b.last rest k d cover (omega (arith, less))

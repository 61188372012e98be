use Rattle.lot_sizing.proofs.Blocks.{blocks_serve}
use Rattle.lot_sizing.proofs.laws.blocks_serve.Goals as goal

pub returns : goal.returns
returns c = λ s blocks cover. let all = blocks_serve s blocks cover in (all.plan, all.costs, all.even)

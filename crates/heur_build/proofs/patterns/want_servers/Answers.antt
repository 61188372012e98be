use Rattle.std.proofs.Common.{arith}
use Rattle.lot_sizing.specs.declared.Block.{Block}
use Rattle.echelon.specs.Views.{single_of_item}
use Rattle.heur_build.proofs.Covers.{block_at}
use Rattle.heur_build.proofs.patterns.want_servers.Goals as goal

abbrev no_block : Block
no_block = record { first = 0; last = 0; server = 0 }

pub set-requires-clause-period_low : goal.set-requires-clause-period_low
set-requires-clause-period_low c =
    (block_at (single_of_item c.args._single.now) 0 c.args.blocks.now c.loop-block.block-index no_block c.requires.blocks c.loop-block-test.true).server.low

pub set-requires-clause-period_high : goal.set-requires-clause-period_high
set-requires-clause-period_high c =
    let block = block_at (single_of_item c.args._single.now) 0 c.args.blocks.now c.loop-block.block-index no_block c.requires.blocks c.loop-block-test.true in
    omega (arith, block.server.high, c.requires.periods, c.loop-block.invariant.periods)

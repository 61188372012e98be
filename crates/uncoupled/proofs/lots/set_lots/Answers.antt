use Rattle.std.proofs.Common.{arith, slice_index_or}
use Rattle.lot_sizing.specs.declared.Block.{Block}
use Rattle.echelon.specs.Views.{single_of_item}
use Rattle.wagner_whitin.proofs.Serving.{positions_small}
use Rattle.uncoupled.proofs.NextBlocks.{IsNext, few_blocks, next_block, row_more, row_start}
use Rattle.uncoupled.proofs.lots.set_lots.Goals as goal

abbrev no_block : Block
no_block = record { first = 0; last = 0; server = 0 }

pub loop-block-init : goal.loop-block-init
loop-block-init c = row_start (single_of_item c.args.single.now) c.args.blocks.now c.args.item c.args.make.now c.args.setup.now c.requires.blocks c.requires.make c.requires.setup c.requires.no_make c.requires.no_setup

pub set_block-requires-clause-small : goal.set_block-requires-clause-small
set_block-requires-clause-small c =
    let s = single_of_item c.args.single.now in
    let row = c.loop-block.invariant in
    let next : IsNext s c.args.blocks.now c.loop-block.block-index (slice_index_or c.args.blocks.now c.loop-block.block-index no_block) = next_block s c.args.blocks.now c.loop-block.block-index row.cover.0 no_block c.loop-block-test.true row.cover.1 in
    omega (arith, row.small (slice_index_or c.args.blocks.now c.loop-block.block-index no_block).server next.block.server.low next.block.server.high, c.loop-block-test.true, few_blocks s c.args.blocks.now c.requires.blocks, positions_small s c.requires.within)

pub set_block-requires-clause-block : goal.set_block-requires-clause-block
set_block-requires-clause-block c =
    (next_block (single_of_item c.args.single.now) c.args.blocks.now c.loop-block.block-index c.loop-block.invariant.cover.0 no_block c.loop-block-test.true c.loop-block.invariant.cover.1).block

pub loop-block-preserved : goal.loop-block-preserved
loop-block-preserved c =
    let s = single_of_item c.args.single.now in
    let row = c.loop-block.invariant in
    let b = slice_index_or c.args.blocks.now c.loop-block.block-index no_block in
    let next : IsNext s c.args.blocks.now c.loop-block.block-index b = next_block s c.args.blocks.now c.loop-block.block-index row.cover.0 no_block c.loop-block-test.true row.cover.1 in
    row_more s c.args.blocks.now c.loop-block.block-index c.args.item b c.args.make.now c.args.setup.now c.loop-block.make c.loop-block.setup c.set_block.new.make c.set_block.new.setup row next c.set_block.ensures

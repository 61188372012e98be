use Rattle.echelon.specs.Views.{single_of_item}
use Rattle.uncoupled.specs.Rows.{IsRowSoFar}
use Rattle.uncoupled.proofs.lots.set_lots.Given as goal

abbrev pub invariant-loop-block : goal.invariant-loop-block
invariant-loop-block l = IsRowSoFar (single_of_item l.single) l.blocks l.block-index l.item l.fn.make l.fn.setup l.make l.setup

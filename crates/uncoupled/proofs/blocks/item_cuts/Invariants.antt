use Rattle.std.proofs.Common.{◌≡◌, ◌+◌, ◌++◌, length, map}
use Rattle.std.specs.Vec.Iter.{into_iter_items, into_iter_len}
use Rattle.cert_lines.specs.Shapes.{cut_shape}
use Rattle.uncoupled.specs.Blocks.{block_cuts}
use Rattle.uncoupled.proofs.blocks.item_cuts.Given as goal

abbrev pub invariant-loop-potentials : goal.invariant-loop-potentials
invariant-loop-potentials l = record {
  whole : map cut_shape l.cuts.items ++ block_cuts l.item (into_iter_items l.potentials-iterator) ≡ block_cuts 1 (into_iter_items l.initial.potentials-iterator);
  number : l.item + length (into_iter_items l.potentials-iterator) ≡ 1 + length (into_iter_items l.initial.potentials-iterator);
  left : into_iter_len l.potentials-iterator ≡ length (into_iter_items l.potentials-iterator);
}

use Rattle.std.proofs.Common.{◌≡◌, ◌+◌, ◌++◌, ◌≤◌, List, length}
use Rattle.std.specs.Prelude.{map}
use Rattle.cert_lines.specs.Shapes.{ListShape, list_shape}
use Rattle.certificate.specs.Values.{Values, list_values}
use Rattle.cert_stream.specs.Reader.{left_of}
use Rattle.stream_check.specs.Passes.{Awaits, IsOn}
use Rattle.stream_check.proofs.units.read_lists.Given as goal

abbrev pub invariant-loop : goal.invariant-loop
invariant-loop g l = record {
  on : IsOn l.text.name.now (g.S.Shelf.shown l.fn.shelf) (g.S.Shelf.shown l.shelf) l.fn.reader l.reader;
  count : length l.lists.items ≡ l.counter;
  number : l.reader.number ≡ l.fn.reader.number + l.counter;
  left : left_of l.reader ≤ left_of l.fn.reader;
  awaited : (lists : List ListShape) (ls : Values) → length lists ≡ l.count → Awaits (g.S.Shelf.shown l.fn.shelf) l.text.name.now l.fn.reader l.text.version (list_values lists ++ ls)
      → (more : List ListShape) × (lists ≡ map list_shape l.lists.items ++ more) × Awaits (g.S.Shelf.shown l.shelf) l.text.name.now l.reader l.text.version (list_values more ++ ls);
}

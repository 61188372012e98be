use Rattle.std.proofs.Common.{◌≡◌, ◌+◌, ◌++◌, ◌≤◌, List, length}
use Rattle.item_groups.specs.declared.group.Group.{Group}
use Rattle.certificate.specs.Values.{Values, group_values}
use Rattle.cert_stream.specs.Reader.{left_of}
use Rattle.stream_check.specs.Passes.{Awaits, IsOn}
use Rattle.stream_check.proofs.units.read_groups.Given as goal

abbrev pub invariant-loop : goal.invariant-loop
invariant-loop g l = record {
  on : IsOn l.text.name.now (g.S.Shelf.shown l.fn.shelf) (g.S.Shelf.shown l.shelf) l.fn.reader l.reader;
  count : length l.groups.items ≡ l.counter;
  number : l.reader.number ≡ l.fn.reader.number + l.counter;
  left : left_of l.reader ≤ left_of l.fn.reader;
  awaited : (groups : List Group) (ls : Values) → length groups ≡ l.count → Awaits (g.S.Shelf.shown l.fn.shelf) l.text.name.now l.fn.reader l.text.version (group_values groups ++ ls)
      → (more : List Group) × (groups ≡ l.groups.items ++ more) × Awaits (g.S.Shelf.shown l.shelf) l.text.name.now l.reader l.text.version (group_values more ++ ls);
}

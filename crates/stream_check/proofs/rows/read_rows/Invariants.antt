use Rattle.stream_check.proofs.Cuts.{IsReading}
use Rattle.stream_check.proofs.rows.read_rows.Given as goal

abbrev pub invariant-loop : goal.invariant-loop
invariant-loop g l = IsReading l.instance l.text.version l.text.name.now (g.S.Shelf.shown l.fn.shelf) (g.S.Shelf.shown l.shelf) l.fn.reader l.reader l.count l.counter l.rows.items

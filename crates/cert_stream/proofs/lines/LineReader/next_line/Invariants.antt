use Rattle.std.proofs.Common.{◌≡◌, ◌≤◌, ◌-◌, IsTrue, length}
use Rattle.cert_lines.specs.declared.limits.TheConstants.{MAX_LINE}
use Rattle.cert_stream.specs.Reader.{GoesOn, IsBegun, IsSound, left_of, rest_in, text_from}
use Rattle.cert_stream.proofs.lines.LineReader.next_line.Given as goal

-- the line so far, and what comes after it, are what was left
abbrev pub invariant-loop-next : goal.invariant-loop-next
invariant-loop-next g l = record {
  sound : IsSound l.self;
  begun : IsBegun l.self;
  text : IsTrue (g.S.Shelf.shown l.fn.shelf).told → text_from (g.S.Shelf.shown l.shelf) l.name l.self ≡ rest_in (g.S.Shelf.shown l.fn.shelf) l.name l.fn.self;
  number : l.self.number ≡ l.fn.self.number;
  left : left_of l.self ≤ left_of l.fn.self;
  goes : GoesOn l.name (g.S.Shelf.shown l.fn.shelf) (g.S.Shelf.shown l.shelf) l.fn.self l.self;
}

abbrev pub decreases-loop-next : goal.decreases-loop-next
decreases-loop-next g l = MAX_LINE - length l.self.line.items

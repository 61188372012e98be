use Rattle.std.proofs.Common.{IsTrue}
use Rattle.certificate.specs.Stacks.{dues_in}
use Rattle.cert_stream.specs.Claims.{AreTaken}
use Rattle.cert_stream.specs.Reader.{GoesOn, IsSound, left_of, rest_in}
use Rattle.cert_stream.proofs.claim.read_body.Given as goal

-- the lines so far are as needed
abbrev pub invariant-loop-fault : goal.invariant-loop-fault
invariant-loop-fault g l = record {
  sound : IsSound l.reader;
  taken : IsTrue (g.S.Shelf.shown l.fn.shelf).told → AreTaken l.version (dues_in l.fn.dues) (rest_in (g.S.Shelf.shown l.fn.shelf) l.name l.fn.reader) l.fn.reader.number (dues_in l.dues) (rest_in (g.S.Shelf.shown l.shelf) l.name l.reader) l.reader.number;
  goes : GoesOn l.name (g.S.Shelf.shown l.fn.shelf) (g.S.Shelf.shown l.shelf) l.fn.reader l.reader;
}

abbrev pub decreases-loop-fault : goal.decreases-loop-fault
decreases-loop-fault g l = left_of l.reader

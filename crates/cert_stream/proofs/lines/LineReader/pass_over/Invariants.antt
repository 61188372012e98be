use Rattle.std.proofs.Common.{◌≡◌, ◌-◌}
use Rattle.cert_stream.specs.declared.limits.TheConstants.{MAX_BYTES}
use Rattle.cert_stream.specs.Reader.{GoesOn, IsSound}
use Rattle.cert_stream.proofs.lines.LineReader.pass_over.Given as goal

-- the pieces so far were given
abbrev pub invariant-loop-self : goal.invariant-loop-self
invariant-loop-self g l = record {
  sound : IsSound l.self;
  given : l.self.start ≡ l.self.end;
  goes : GoesOn l.name (g.S.Shelf.shown l.fn.shelf) (g.S.Shelf.shown l.shelf) l.fn.self l.self;
}

abbrev pub decreases-loop-self : goal.decreases-loop-self
decreases-loop-self g l = MAX_BYTES - l.self.at

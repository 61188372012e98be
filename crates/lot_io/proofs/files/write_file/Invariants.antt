use Rattle.std.proofs.Common.{◌≡◌, ◌≤◌, ◌++◌, ◌+◌, List, ℕ, min, length, IsTrue, Some}
use Rattle.lot_io.specs.Outside.{Shelved, OnlyWrites, GrewBy, last_count, pieces_of}
use Rattle.lot_io.proofs.files.write_file.Given as goal

-- the file holds what was appended so far, and with the rest that is all
abbrev pub invariant-loop-rest : goal.invariant-loop-rest
invariant-loop-rest g l =
    let old : Shelved = g.S.Shelf.shown l.fn.shelf in
    let new : Shelved = g.S.Shelf.shown l.shelf in
    record {
      written : IsTrue old.told → (done : List ℕ) × (new.file l.name ≡ Some done) × (done ++ l.rest ≡ l.bytes);
      fine : new.write_faults ≡ old.write_faults;
      writes : OnlyWrites l.name old new;
      starts : GrewBy 1 old.starts new.starts;
      appends_rise : min (old.appends + pieces_of (length l.bytes)) last_count ≤ new.appends + pieces_of (length l.rest);
      appends_bound : new.appends + pieces_of (length l.rest) ≤ old.appends + pieces_of (length l.bytes);
    }

abbrev pub decreases-loop-rest : goal.decreases-loop-rest
decreases-loop-rest g l = length l.rest

use Rattle.std.proofs.Common.{◌≡◌, ◌≤◌, ◌-◌, List, ℕ, take, IsTrue, Some, vec_len}
use Rattle.lot_io.specs.Outside.{Shelved, Finds, GrewBy, OnlyReads, piece_size}
use Rattle.lot_io.proofs.files.read_file.Given as goal

-- what was read so far is the beginning of the file
abbrev pub invariant-loop-got : goal.invariant-loop-got
invariant-loop-got g l =
    let old : Shelved = g.S.Shelf.shown l.fn.shelf in
    let new : Shelved = g.S.Shelf.shown l.shelf in
    record {
      read : IsTrue old.told → (bytes : List ℕ) → old.file l.name ≡ Some bytes → l.bytes.items ≡ take (vec_len l.bytes) bytes;
      within : vec_len l.bytes ≤ l.most;
      room : vec_len l.room ≡ piece_size;
      given : GrewBy (vec_len l.bytes) old.given new.given;
      found : Finds old new;
      reads : OnlyReads old new;
    }

abbrev pub decreases-loop-got : goal.decreases-loop-got
decreases-loop-got g l = l.most - vec_len l.bytes

-- What a new shelf and a new sink in memory are, and what of them no call changes.
use Rattle.std.specs.Prelude.{◌≡◌, ℕ, List, [], ◌++◌, Some, unwrap_or}
use Rattle.lot_io.specs.declared.memory.MemoryShelf.{MemoryShelf}
use Rattle.lot_io.specs.declared.memory.MemorySink.{MemorySink}
use Rattle.lot_io.specs.Memory.{file_in, half_of}
use Rattle.lot_io.specs.Outside.{GrewBy}

-- no call was made yet
pub record IsNewShelf (s : MemoryShelf) : Type 0 where
  pub fetches : s.fetches ≡ 0
  pub starts : s.starts ≡ 0
  pub appends : s.appends ≡ 0
  pub faults : s.faults ≡ 0
  pub write_faults : s.write_faults ≡ 0
  pub misses : s.misses ≡ 0
  pub given : s.given ≡ 0
  pub wants : s.wants ≡ 0

-- nothing was put yet
pub record IsNewSink (s : MemorySink) : Type 0 where
  pub bytes : s.bytes.items ≡ []
  pub puts : s.puts ≡ 0
  pub faults : s.faults ≡ 0
  pub wants : s.wants ≡ 0

-- the calls that are to fail are the same
pub record KeepsLists (old new : MemoryShelf) : Type 0 where
  pub fetch : new.fail_fetch ≡ old.fail_fetch
  pub start : new.fail_start ≡ old.fail_start
  pub append : new.fail_append ≡ old.fail_append

-- half of a piece was added to a file, and no memory was lacking
pub record AddsHalf (piece name : List ℕ) (old new : MemoryShelf) : Type 0 where
  pub half : file_in new.files name ≡ Some (unwrap_or (file_in old.files name) [] ++ half_of piece)
  pub enough : new.wants ≡ old.wants

-- nothing was added, since memory ran out
pub record AddsNothing (name : List ℕ) (old new : MemoryShelf) : Type 0 where
  pub same : file_in new.files name ≡ file_in old.files name
  pub lacked : GrewBy 1 old.wants new.wants

-- half of a piece was put, and no memory was lacking
pub record PutsHalf (piece : List ℕ) (old new : MemorySink) : Type 0 where
  pub half : new.bytes.items ≡ old.bytes.items ++ half_of piece
  pub enough : new.wants ≡ old.wants

-- nothing was put, since memory ran out
pub record PutsNothing (old new : MemorySink) : Type 0 where
  pub same : new.bytes.items ≡ old.bytes.items
  pub lacked : GrewBy 1 old.wants new.wants

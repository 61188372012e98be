-- What shelves and sinks show, what their calls do to it, and what stays.
use Rattle.std.specs.Prelude.{◌≡◌, ◌≢◌, ◌⊎◌, ◌<◌, ◌≤◌, ◌+◌, ◌-◌, ◌^◌, ◌/◌, ℕ, min, Bool, List, ◌++◌, length, take, drop, Option, IsTrue}
use Rattle.lot_io.specs.declared.files.TheConstants.{PIECE}

-- ---- counts
-- the value at which a count stands still
abbrev pub last_count : ℕ
last_count = 2 ^ 64 - 1

-- a count has risen by at least n, or stands at its last value
abbrev pub RoseBy : ℕ → ℕ → ℕ → Type 0
RoseBy n before now = min (before + n) last_count ≤ now

-- a count has risen, or stands at its last value
abbrev pub Rose : ℕ → ℕ → Type 0
Rose before now = RoseBy 1 before now

-- a count has grown by n, or stands at its last value
abbrev pub GrewBy : ℕ → ℕ → ℕ → Type 0
GrewBy n before now = RoseBy n before now × (now ≤ before + n)

-- ---- files
-- files, by their names
abbrev pub Files : Type 0
Files = List ℕ → Option (List ℕ)

-- what a shelf shows at a moment
pub record Shelved : Type 0 where
  -- whether it tells what its files hold
  pub told : Bool
  -- the bytes of each file
  pub file : Files
  -- how many fetches have failed
  pub faults : ℕ
  -- how many starts and appends have failed
  pub write_faults : ℕ
  -- how many names were not found
  pub misses : ℕ
  -- how many bytes fetches have given
  pub given : ℕ
  -- how many starts and appends were made
  pub starts : ℕ
  pub appends : ℕ

-- all files but the one of this name are the same
abbrev pub SameElsewhere : List ℕ → Files → Files → Type 0
SameElsewhere name old new = (other : List ℕ) → other ≢ name → new other ≡ old other

-- nothing was written, or asked to be, and no count fell
pub record OnlyReads (old new : Shelved) : Type 0 where
  pub told : new.told ≡ old.told
  pub files : new.file ≡ old.file
  pub starts : new.starts ≡ old.starts
  pub appends : new.appends ≡ old.appends
  pub write_faults : new.write_faults ≡ old.write_faults
  pub faults : old.faults ≤ new.faults
  pub misses : old.misses ≤ new.misses
  pub given : old.given ≤ new.given

-- only the file of this name was written, nothing was read, and no count fell
pub record OnlyWrites (name : List ℕ) (old new : Shelved) : Type 0 where
  pub told : new.told ≡ old.told
  pub others : IsTrue old.told → SameElsewhere name old.file new.file
  pub starts : old.starts ≤ new.starts
  pub appends : old.appends ≤ new.appends
  pub write_faults : old.write_faults ≤ new.write_faults
  pub faults : new.faults ≡ old.faults
  pub misses : new.misses ≡ old.misses
  pub given : new.given ≡ old.given

-- every name was found, and no fetch failed
pub record Finds (old new : Shelved) : Type 0 where
  pub misses : new.misses ≡ old.misses
  pub faults : new.faults ≡ old.faults

-- one name was not found, and no fetch failed
pub record Misses (old new : Shelved) : Type 0 where
  pub misses : GrewBy 1 old.misses new.misses
  pub faults : new.faults ≡ old.faults

-- one fetch failed, and every name was found
pub record Fails (old new : Shelved) : Type 0 where
  pub misses : new.misses ≡ old.misses
  pub faults : GrewBy 1 old.faults new.faults

-- the first n bytes of the room are those of the file from a place on, and there are none exactly where the room is empty or the file ends
pub record Fetched (file : List ℕ) (at n : ℕ) (room : List ℕ) : Type 0 where
  pub bytes : take n room ≡ take n (drop at file)
  pub none : n ≡ 0 → (length room ≡ 0) ⊎ (length file ≤ at)
  pub some : 0 < n → at + n ≤ length file

-- how many bytes of a file go over in one call
abbrev pub piece_size : ℕ
piece_size = PIECE

-- how many pieces so many bytes make
abbrev pub pieces_of : ℕ → ℕ
pieces_of n = (n + (piece_size - 1)) / piece_size

-- ---- output
-- what a sink shows at a moment
pub record Printed : Type 0 where
  -- whether it tells what was put
  pub told : Bool
  -- what was put
  pub bytes : List ℕ
  -- how many puts were made, and how many have failed
  pub puts : ℕ
  pub faults : ℕ

-- some of the first of these bytes are added, or all, or none
abbrev pub AppendsSome : List ℕ → List ℕ → List ℕ → Type 0
AppendsSome piece old new = (n : ℕ) × (new ≡ old ++ take n piece)

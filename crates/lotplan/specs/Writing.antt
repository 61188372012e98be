-- How files are written, and the lines that name them.
use Rattle.std.specs.Prelude.{◌≡◌, ◌≢◌, ◌≤◌, ◌+◌, ℕ, zero, suc, List, [], ◌∷◌, ◌++◌, length, codes, IsTrue, Option, Some, None, ⊤}
use Rattle.lot_io.specs.Outside.{Files, GrewBy, Printed, Rose, Shelved, pieces_of}
use Rattle.lotplan.specs.Saying.{Gains}
use Rattle.lotplan.specs.declared.status.Status.{Status}
use Rattle.lotplan.specs.declared.status.Status.TheVariants as status
use Rattle.lotplan.specs.declared.writing.Output.{Output}

-- it was written, or could not be
abbrev pub written_line : List ℕ → List ℕ
written_line file = codes "written " ++ (file ++ codes "\n")

abbrev pub unwritten_line : List ℕ → List ℕ
unwritten_line file = codes "refused write " ++ (file ++ codes "\n")

-- a name is none of these
abbrev pub IsNoneOf : List (List ℕ) → List ℕ → Type 0
IsNoneOf [] other = ⊤
IsNoneOf (name ∷ names) other = (other ≢ name) × IsNoneOf names other

-- all files but those of these names are the same
abbrev pub SameBesides : List (List ℕ) → Files → Files → Type 0
SameBesides names old new = (other : List ℕ) → IsNoneOf names other → new other ≡ old other

-- so many starts were made; where told, all files but those of these names stay
pub record StartsAmong (names : List (List ℕ)) (count : ℕ) (old new : Shelved) : Type 0 where
  pub told : new.told ≡ old.told
  pub others : IsTrue old.told → SameBesides names old.file new.file
  pub starts : GrewBy count old.starts new.starts

-- at most one start a name was made; where told, all files but those of these names stay
pub record StartsAtMost (names : List (List ℕ)) (old new : Shelved) : Type 0 where
  pub others : IsTrue old.told → SameBesides names old.file new.file
  pub starts : new.starts ≤ old.starts + length names

-- no write failed, one start was made, and one append a piece; where told, the file has these bytes, and all others stay
pub record IsWritten (name bytes : List ℕ) (old new : Shelved) : Type 0 where
  pub written : IsTrue old.told → new.file name ≡ Some bytes
  pub fine : new.write_faults ≡ old.write_faults
  pub touches : StartsAmong (name ∷ []) 1 old new
  pub appends : GrewBy (pieces_of (length bytes)) old.appends new.appends

-- a write failed, and one start was made; where told, all files but the one of this name stay
pub record IsUnwritten (name : List ℕ) (old new : Shelved) : Type 0 where
  pub failed : Rose old.write_faults new.write_faults
  pub touches : StartsAmong (name ∷ []) 1 old new

-- a name and bytes
abbrev pub output_of : Output → List ℕ × List ℕ
output_of output = (output.name.now, output.bytes.now)

-- files were written one after the other
abbrev pub WritesAll : List (List ℕ × List ℕ) → Shelved → Shelved → Type 0
WritesAll [] old new = new ≡ old
WritesAll (output ∷ outputs) old new = (mid : Shelved) × IsWritten output.0 output.1 old mid × WritesAll outputs mid new

-- those before a place were, the one at the place could not be, and none after it was started
abbrev pub StopsAt : ℕ → List (List ℕ × List ℕ) → Shelved → Shelved → Type 0
StopsAt place [] old new = ⊥
StopsAt zero (output ∷ outputs) old new = IsUnwritten output.0 old new
StopsAt (suc place) (output ∷ outputs) old new = (mid : Shelved) × IsWritten output.0 output.1 old mid × StopsAt place outputs mid new

-- this holds where told, a write failed, and the line names the file
pub record NamesUnwritten (Holds : Type 0) (file : List ℕ) (old new : Shelved) (out_old out_new : Printed) : Type 0 where
  pub holds : IsTrue old.told → Holds
  pub failed : Rose old.write_faults new.write_faults
  pub line : Gains (unwritten_line file) out_old out_new

-- ---- in how many pieces
-- the length of a file, and 0 of one that is absent
abbrev pub size_of : Option (List ℕ) → ℕ
size_of None = 0
size_of (Some bytes) = length bytes

-- how many pieces the files of these names make
abbrev pub pieces_in : List (List ℕ) → Files → ℕ
pieces_in [] files = 0
pieces_in (name ∷ names) files = pieces_of (size_of (files name)) + pieces_in names files

-- where told, no more appends were made than the files of these names make pieces; of a file that could not be written nothing is said
abbrev pub AppendsAs : List (List ℕ) → Status → Shelved → Shelved → Type 0
AppendsAs names status.Unwritten old new = ⊤
AppendsAs names _ old new = IsTrue old.told → new.appends ≤ old.appends + pieces_in names new.file

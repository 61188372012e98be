-- How a pass over a file stands, and what its calls do.
use Rattle.std.specs.Prelude.{◌≡◌, ◌≢◌, ◌≤◌, ◌<◌, ◌+◌, ◌-◌, ℕ, List, [], ◌++◌, length, drop, slice_range, Option, None, Some, unwrap_or, IsTrue}
use Rattle.lot_io.specs.Outside.{Finds, Fails, GrewBy, Misses, OnlyReads, RoseBy, Shelved, piece_size}
use Rattle.lot_io.specs.declared.files.ReadFault.{ReadFault}
use Rattle.lot_io.specs.declared.files.ReadFault.TheVariants as fault
use Rattle.cert_lines.specs.declared.limits.TheConstants.{MAX_LINE}
use Rattle.cert_lines.specs.Text.{HasNoFeed, line_text}
use Rattle.cert_stream.specs.declared.limits.TheConstants.{MAX_BYTES}
use Rattle.cert_stream.specs.declared.lines.LineReader.{LineReader}
use Rattle.cert_stream.specs.declared.lines.Next.{Next}
use Rattle.cert_stream.specs.declared.lines.Next.TheVariants as next
use Rattle.cert_stream.specs.declared.lines.Found.{Found}
use Rattle.cert_stream.specs.declared.lines.Found.TheVariants as found

-- the bytes of a file, and none where there is none
abbrev pub bytes_of : Shelved → List ℕ → List ℕ
bytes_of shelf name = unwrap_or (shelf.file name) []

-- the bytes of the last piece that weren't given yet
abbrev pub unread : LineReader → List ℕ
unread r = slice_range r.room.items r.start r.end

-- what a pass hasn't given yet of a file
abbrev pub rest_in : Shelved → List ℕ → LineReader → List ℕ
rest_in shelf name r = unread r ++ drop r.at (bytes_of shelf name)

-- how many bytes it may still give
abbrev pub left_of : LineReader → ℕ
left_of r = (MAX_BYTES - r.at) + (r.end - r.start)

-- its numbers fit together
pub record IsSound (r : LineReader) : Type 0 where
  pub room : length r.room.items ≡ piece_size
  pub start : r.start ≤ r.end
  pub end : r.end ≤ piece_size
  pub high : r.at ≤ MAX_BYTES
  pub number : r.number + left_of r ≤ MAX_BYTES + 1

-- from one moment of a pass to a later one: as many bytes more were given as the pass stands further on, and no more than the file has; no fetch failed, and nothing was written
pub record GoesOn (name : List ℕ) (old new : Shelved) (a b : LineReader) : Type 0 where
  pub at : a.at ≤ b.at
  pub given : GrewBy (b.at - a.at) old.given new.given
  pub within : IsTrue old.told → a.at ≤ length (bytes_of old name) → b.at ≤ length (bytes_of old name)
  pub found : Finds old new
  pub reads : OnlyReads old new

-- a pass has come to the end of the file: it has no more than so many bytes
pub record IsWhole (file : Option (List ℕ)) (count : ℕ) : Type 0 where
  pub bytes : List ℕ
  pub is : file ≡ Some bytes
  pub high : length bytes ≤ count

-- the file has more bytes than it may have
pub record IsTooLong (file : Option (List ℕ)) : Type 0 where
  pub bytes : List ℕ
  pub is : file ≡ Some bytes
  pub more : MAX_BYTES < length bytes

-- why a pass, which stands at this place, comes to no end
abbrev pub IsCause : List ℕ → ℕ → Shelved → Shelved → ReadFault → Type 0
IsCause name at old new fault.Missing = Misses old new × (IsTrue old.told → old.file name ≡ None)
IsCause name at old new fault.Failed = Fails old new
IsCause name at old new fault.TooLong = Finds old new × RoseBy (MAX_BYTES + 1 - at) old.given new.given × (IsTrue old.told → IsTooLong (old.file name))
IsCause name at old new fault.Memory = Finds old new

-- it has its cause, and no more than one piece past the most bytes was given
pub record IsBroken (name : List ℕ) (at : ℕ) (old new : Shelved) (f : ReadFault) : Type 0 where
  pub cause : IsCause name at old new f
  pub bound : new.given + at ≤ old.given + MAX_BYTES + piece_size

-- more bytes than a line may have, and no line feed among them
pub record IsLong (text : List ℕ) : Type 0 where
  pub first : List ℕ
  pub rest : List ℕ
  pub is : text ≡ first ++ rest
  pub plain : HasNoFeed first
  pub long : MAX_LINE < length first

-- what comes next of a text, and what is left of it then
abbrev pub IsNext : Next → List ℕ → List ℕ → List ℕ → Type 0
IsNext next.Line line old new = (old ≡ line_text line ++ new) × HasNoFeed line × (length line ≤ MAX_LINE)
IsNext next.Unended line old new = (old ≢ []) × HasNoFeed old
IsNext next.TooLong line old new = IsLong old
IsNext next.End line old new = old ≡ []

-- a line more was given: it is counted, and less may still come
pub record IsLineFurther (a b : LineReader) : Type 0 where
  pub number : b.number ≡ a.number + 1
  pub less : left_of b < left_of a

abbrev pub IsCounted : Next → LineReader → LineReader → Type 0
IsCounted next.Line a b = IsLineFurther a b
IsCounted _ a b = b.number ≡ a.number

-- the line so far, and what comes after it
abbrev pub text_from : Shelved → List ℕ → LineReader → List ℕ
text_from shelf name r = r.line.items ++ rest_in shelf name r

-- the line so far is one that can go on
pub record IsBegun (r : LineReader) : Type 0 where
  pub plain : HasNoFeed r.line.items
  pub short : length r.line.items ≤ MAX_LINE

-- bytes of the piece were moved to the line
pub record IsMoved (a b : LineReader) (w : List ℕ) : Type 0 where
  pub line : b.line.items ≡ a.line.items ++ w
  pub short : length b.line.items ≤ MAX_LINE
  pub plain : HasNoFeed w

-- what a piece had for the line
abbrev pub IsFound : Found → LineReader → LineReader → Type 0
IsFound found.Feed a b = (w : List ℕ) × IsMoved a b w × (unread a ≡ line_text w ++ unread b) × (a.start < b.start)
IsFound found.NoFeed a b = IsMoved a b (unread a) × (b.start ≡ b.end)
IsFound found.TooMany a b = (w : List ℕ) × (rest : List ℕ) × (unread a ≡ w ++ rest) × HasNoFeed w × (MAX_LINE < length a.line.items + length w)

-- the piece is the same
pub record KeepsPiece (a b : LineReader) : Type 0 where
  pub room : b.room ≡ a.room
  pub end : b.end ≡ a.end
  pub at : b.at ≡ a.at
  pub number : b.number ≡ a.number

-- What the reading of files leaves, and why it stops.
use Rattle.std.proofs.Common.{◌≡◌, ◌≢◌, ◌⊎◌, ◌≤◌, ℕ, List, IsTrue, None, refl, sym, subst, arith}
use Rattle.lot_io.specs.Outside.{Files, OnlyReads, Shelved}
use Rattle.lotplan.specs.Meaning.{Meaning, long_page_line}
use Rattle.lotplan.specs.Status.{code_of}
use Rattle.lotplan.specs.Reading.{FileExplains, FirstExplains, IsTooLong, ModelExplains, ReadAnswer, refused, missing, unread, too_long, read_line, read_status, ExplainsStop, read_meant}
use Rattle.lotplan.specs.declared.model_file.Stop.{Stop}
use Rattle.lotplan.specs.declared.model_file.Stop.TheVariants.{Answered, Memory}
use Rattle.lotplan.specs.declared.status.Status.{Status}
use Rattle.lotplan.specs.declared.status.Status.TheVariants.{TooLong}
use Rattle.lotplan.specs.declared.status.TheConstants.{REFUSED, UNWRITTEN, TOO_LONG}

-- what shows the same was only read
pub same_reads : (old new : Shelved) → new ≡ old → OnlyReads old new
same_reads old new same = subst (λ s. OnlyReads old s) (sym same) (record {
  told = refl;
  files = refl;
  starts = refl;
  appends = refl;
  write_faults = refl;
  faults = omega arith;
  misses = omega arith;
  given = omega arith;
})

-- a model file is a file
pub model_stops : (m : List ℕ) (old new : Shelved) (why : ReadAnswer) → FileExplains m old new why → ModelExplains m old new why
model_stops m old new (refused fault) x = absurd x
model_stops m old new (missing file) x = x
model_stops m old new (unread file) x = x
model_stops m old new (too_long file) x = x

pub stop_of_model : (m : List ℕ) (old new : Shelved) (stop : Stop) → ExplainsStop (FileExplains m old new) stop → ExplainsStop (ModelExplains m old new) stop
stop_of_model m old new (Answered why) x = model_stops m old new (read_meant why) x
stop_of_model m old new Memory x = tt

-- and so is a model file of the first version
first_stops : (m : List ℕ) (old new : Shelved) (why : ReadAnswer) → FileExplains m old new why → FirstExplains m old new why
first_stops m old new (refused fault) x = absurd x
first_stops m old new (missing file) x = x
first_stops m old new (unread file) x = x
first_stops m old new (too_long file) x = x

pub stop_of_first : (m : List ℕ) (old new : Shelved) (stop : Stop) → ExplainsStop (FileExplains m old new) stop → ExplainsStop (FirstExplains m old new) stop
stop_of_first m old new (Answered why) x = first_stops m old new (read_meant why) x
stop_of_first m old new Memory x = tt

-- a file that is read after others
pub stops_after : (p : List ℕ) (old mid new : Shelved) (why : ReadAnswer) → OnlyReads old mid → FileExplains p mid new why → FileExplains p old new why
stops_after p old mid new (refused fault) reads x = absurd x
stops_after p old mid new (missing file) reads x = (x.0, omega (arith, x.1, reads.misses), λ t. subst (λ (f : Files). f p ≡ None) reads.files (x.2 (subst IsTrue (sym reads.told) t)))
stops_after p old mid new (unread file) reads x = (x.0, omega (arith, x.1, reads.faults))
stops_after p old mid new (too_long file) reads x = (x.0, omega (arith, x.1, reads.given), λ t. subst (λ (f : Files). IsTooLong f p) reads.files (x.2 (subst IsTrue (sym reads.told) t)))

-- the numbers of these stops
pub record IsReading (code : ℕ) : Type 0 where
  pub low : REFUSED ≤ code
  pub high : code ≤ TOO_LONG
  pub other : code ≢ UNWRITTEN

pub reading : (why : ReadAnswer) (code : ℕ) → code ≡ code_of (read_status why) → IsReading code
reading (refused fault) code is = record { low = omega (arith, is); high = omega (arith, is); other = λ e. omega (arith, is, e) }
reading (missing file) code is = record { low = omega (arith, is); high = omega (arith, is); other = λ e. omega (arith, is, e) }
reading (unread file) code is = record { low = omega (arith, is); high = omega (arith, is); other = λ e. omega (arith, is, e) }
reading (too_long file) code is = record { low = omega (arith, is); high = omega (arith, is); other = λ e. omega (arith, is, e) }

-- the files that are asked for gave nothing to go on with, for some cause, which the line and the status name
pub record SomeStop (means : Meaning) (old new : Shelved) (line : List ℕ) (status : Status) : Type 0 where
  pub why : ReadAnswer
  pub cause : means.stops old new why
  pub says : line ≡ read_line why
  pub ends : status ≡ read_status why

-- a page would be too long, and the line and the status say so
pub record SomeLongPage (means : Meaning) (old : Shelved) (line : List ℕ) (status : Status) : Type 0 where
  pub cause : means.overlong old
  pub says : line ≡ long_page_line
  pub ends : status ≡ TooLong

-- one of the two
abbrev pub Stopped : Meaning → Shelved → Shelved → List ℕ → Status → Type 0
Stopped means old new line status = SomeStop means old new line status ⊎ SomeLongPage means old line status

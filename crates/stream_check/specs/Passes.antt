-- A pass over a certificate's file goes on, or stops.
use Rattle.std.specs.Prelude.{◌≡◌, ◌≢◌, ◌≤◌, ◌+◌, ℕ, List, Result, Ok, Err, IsTrue, IfErr, OnOk, ⊤}
use Rattle.lot_io.specs.Outside.{Finds, OnlyReads, Shelved, piece_size}
use Rattle.lot_io.specs.declared.files.ReadFault.TheVariants as file
use Rattle.certificate.specs.declared.fault.CertTextFault.TheVariants as text
use Rattle.certificate.specs.Values.{AreLines, Values, values_text}
use Rattle.cert_checker.specs.declared.fault.Why.{Why}
use Rattle.cert_stream.specs.declared.lines.LineReader.{LineReader}
use Rattle.cert_stream.specs.declared.limits.TheConstants.{MAX_BYTES}
use Rattle.cert_stream.specs.Reader.{GoesOn, IsCause, IsSound, rest_in}
use Rattle.stream_check.specs.declared.fault.StreamFault.{StreamFault}
use Rattle.stream_check.specs.declared.fault.StreamFault.TheVariants as stream
use Rattle.stream_check.specs.declared.units.CertText.{CertText}

-- from one moment of a pass to a later one, after which it may go on
pub record IsOn (name : List ℕ) (old new : Shelved) (a b : LineReader) : Type 0 where
  pub sound : IsSound b
  pub goes_on : GoesOn name old new a b

-- why a pass, which stood at this place, stops: the file can't be read on; or what was read isn't taken, and then no fetch has failed
abbrev pub IsStopCause : List ℕ → ℕ → Shelved → Shelved → StreamFault → Type 0
IsStopCause name at old new stream.Missing = IsCause name at old new file.Missing
IsStopCause name at old new stream.Failed = IsCause name at old new file.Failed
IsStopCause name at old new stream.TooLong = IsCause name at old new file.TooLong
IsStopCause name at old new (stream.Text f) = (f ≢ text.Memory) × Finds old new
IsStopCause name at old new (stream.Rejected r) = Finds old new
IsStopCause name at old new stream.Memory = IsCause name at old new file.Memory

-- it has its cause, no more than one piece past the most bytes was given, and nothing was written
pub record IsStopped (name : List ℕ) (at : ℕ) (old new : Shelved) (f : StreamFault) : Type 0 where
  pub cause : IsStopCause name at old new f
  pub bound : new.given + at ≤ old.given + MAX_BYTES + piece_size
  pub reads : OnlyReads old new

-- a step of a pass: after an answer the pass may go on, and after a fault it has stopped
pub record IsStep {A : Type 0} (name : List ℕ) (old new : Shelved) (a b : LineReader) (result : Result A StreamFault) : Type 0 where
  pub on : OnOk result (IsOn name old new a b)
  pub stopped : IfErr result (IsStopped name a.at old new)

-- the shelf tells that just these lines are left
pub record Awaits (shelf : Shelved) (name : List ℕ) (r : LineReader) (version : ℕ) (ls : Values) : Type 0 where
  pub told : IsTrue shelf.told
  pub lines : AreLines version ls
  pub text : rest_in shelf name r ≡ values_text ls

-- just these lines of the text are left
abbrev pub HasLeft : CertText → Shelved → LineReader → Values → Type 0
HasLeft t shelf r ls = Awaits shelf t.name.now r t.version ls

-- no line is wrong, and what is refused has its cause
abbrev pub IsRefusal : (ℕ → Why → Type 0) → StreamFault → Type 0
IsRefusal Q stream.Missing = ⊤
IsRefusal Q stream.Failed = ⊤
IsRefusal Q stream.TooLong = ⊤
IsRefusal Q (stream.Text f) = ⊥
IsRefusal Q (stream.Rejected r) = Q r.line r.why
IsRefusal Q stream.Memory = ⊤

-- this holds of what was read, or that of a refusal
abbrev pub Gives : {A : Type 0} → (A → Type 0) → (ℕ → Why → Type 0) → Result A StreamFault → Type 0
Gives P Q (Ok a) = P a
Gives P Q (Err f) = IsRefusal Q f

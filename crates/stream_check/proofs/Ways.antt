-- One part of a pass after the other.
use Rattle.std.proofs.Common.{◌≡◌, ℕ, refl, ap, subst, arith, List, ◌∷◌}
use Rattle.std.specs.Prelude.{Result, Ok, Err, IsErrAnd}
use Rattle.lot_io.specs.Outside.{OnlyReads, Shelved}
use Rattle.lot_io.specs.declared.files.ReadFault.{ReadFault}
use Rattle.lot_io.specs.declared.files.ReadFault.TheVariants as file
use Rattle.lot_io.proofs.Frames.{finds_on, reads_on}
use Rattle.cert_lines.specs.Shapes.{LineShape}
use Rattle.cert_lines.specs.Line.{HasLine}
use Rattle.certificate.specs.Values.{Values, values_text}
use Rattle.cert_checker.specs.declared.fault.Why.{Why}
use Rattle.cert_stream.specs.declared.lines.LineReader.{LineReader}
use Rattle.cert_stream.specs.Reader.{GoesOn, IsBroken, IsSound, rest_in}
use Rattle.cert_stream.proofs.Steps.{broken_on, goes_on, stays, told_on}
use Rattle.stream_check.specs.declared.fault.StreamFault.{StreamFault}
use Rattle.stream_check.specs.declared.fault.StreamFault.TheVariants as stream
use Rattle.stream_check.specs.Faults.{of_file}
use Rattle.stream_check.specs.Passes.{Awaits, IsOn, IsRefusal, IsStopCause, IsStopped}
use Rattle.stream_check.specs.Streams.{never_refused}

pub on_none : (name : List ℕ) (shelf : Shelved) (a : LineReader) → IsSound a → IsOn name shelf shelf a a
on_none name shelf a sound = record { sound = sound; goes_on = stays name shelf a a refl }

pub on_on : {name : List ℕ} {o m n : Shelved} {a b d : LineReader} → IsOn name o m a b → IsOn name m n b d → IsOn name o n a d
on_on first later = record { sound = later.sound; goes_on = goes_on first.goes_on later.goes_on }

cause_on : {name : List ℕ} {o m n : Shelved} {a b : LineReader} → GoesOn name o m a b → (f : StreamFault) → IsStopped name b.at m n f → IsStopCause name a.at o n f
cause_on on stream.Missing stopped = (broken_on on file.Missing (record { cause = stopped.cause; bound = stopped.bound })).cause
cause_on on stream.Failed stopped = (broken_on on file.Failed (record { cause = stopped.cause; bound = stopped.bound })).cause
cause_on on stream.TooLong stopped = (broken_on on file.TooLong (record { cause = stopped.cause; bound = stopped.bound })).cause
cause_on on (stream.Text f) stopped = (stopped.cause.0, finds_on on.found stopped.cause.1)
cause_on on (stream.Rejected r) stopped = finds_on on.found stopped.cause
cause_on on stream.Memory stopped = finds_on on.found stopped.cause

-- what stops a later part stops the whole
pub stopped_on : {name : List ℕ} {o m n : Shelved} {a b : LineReader} → IsOn name o m a b → (f : StreamFault) → IsStopped name b.at m n f → IsStopped name a.at o n f
stopped_on on f stopped = record {
  cause = cause_on on.goes_on f stopped;
  bound = omega (arith, on.goes_on.given, on.goes_on.at, stopped.bound);
  reads = reads_on on.goes_on.reads stopped.reads;
}

-- a fetch that breaks it stops it
pub broken_stops : {name : List ℕ} {at : ℕ} {old new : Shelved} (f : ReadFault) → IsBroken name at old new f → OnlyReads old new → IsStopped name at old new (of_file f)
broken_stops file.Missing broken reads = record { cause = broken.cause; bound = broken.bound; reads = reads }
broken_stops file.Failed broken reads = record { cause = broken.cause; bound = broken.bound; reads = reads }
broken_stops file.TooLong broken reads = record { cause = broken.cause; bound = broken.bound; reads = reads }
broken_stops file.Memory broken reads = record { cause = broken.cause; bound = broken.bound; reads = reads }

-- so does what was read
pub on_stops : {name : List ℕ} {o m : Shelved} {a b : LineReader} → IsOn name o m a b → (f : StreamFault) → IsStopCause name a.at o m f → IsStopped name a.at o m f
on_stops on f cause = record {
  cause = cause;
  bound = omega (arith, on.goes_on.given, on.goes_on.at, on.sound.high);
  reads = on.goes_on.reads;
}

-- ---- what is left of a text
pub awaits_line : {shelf : Shelved} {name : List ℕ} {r : LineReader} {version : ℕ} {l : LineShape} {ls : Values} → Awaits shelf name r version (l ∷ ls) → HasLine version l
awaits_line w = w.lines.0

pub awaits_next : {old new : Shelved} {name : List ℕ} {a b : LineReader} {version : ℕ} {l : LineShape} {ls : Values} → OnlyReads old new → Awaits old name a version (l ∷ ls) → rest_in new name b ≡ values_text ls → Awaits new name b version ls
awaits_next reads w text = record { told = told_on reads w.told; lines = w.lines.1; text = text }

pub awaits_same : {shelf : Shelved} {name : List ℕ} {r : LineReader} {version : ℕ} {ls ms : Values} → ls ≡ ms → Awaits shelf name r version ls → Awaits shelf name r version ms
awaits_same {shelf = shelf} {name = name} {r = r} {version = version} is w = subst (Awaits shelf name r version) is w

-- ---- refusals
pub refusal_weaker : (Q R : ℕ → Why → Type 0) → ((at : ℕ) (w : Why) → Q at w → R at w) → (f : StreamFault) → IsRefusal Q f → IsRefusal R f
refusal_weaker Q R more stream.Missing is = tt
refusal_weaker Q R more stream.Failed is = tt
refusal_weaker Q R more stream.TooLong is = tt
refusal_weaker Q R more (stream.Text f) is = is
refusal_weaker Q R more (stream.Rejected r) is = more r.line r.why is
refusal_weaker Q R more stream.Memory is = tt

pub refusal_never : (R : ℕ → Why → Type 0) (f : StreamFault) → IsRefusal never_refused f → IsRefusal R f
refusal_never R f is = refusal_weaker never_refused R (λ at w no. absurd no) f is

-- the error that a `?` hands on
pub err_is : {A : Type 0} (r : Result A StreamFault) (f : StreamFault) → IsErrAnd r (λ e. e ≡ f) → r ≡ Err f
err_is (Ok x) f is = absurd is
err_is (Err e) f is = ap (λ x. Err x) is

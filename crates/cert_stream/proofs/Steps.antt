-- One part of a pass after the other.
use Rattle.std.proofs.Common.{◌≡◌, ◌≤◌, ◌∙◌, ℕ, refl, sym, ap, subst, arith, List, length, IsTrue}
use Rattle.std.specs.Prelude.{unwrap_or, []}
use Rattle.lot_io.specs.Outside.{OnlyReads, Shelved}
use Rattle.lot_io.proofs.Frames.{finds_on, reads_on}
use Rattle.lot_io.specs.declared.files.ReadFault.{ReadFault}
use Rattle.lot_io.specs.declared.files.ReadFault.TheVariants as fault
use Rattle.cert_stream.specs.declared.lines.LineReader.{LineReader}
use Rattle.cert_stream.specs.Reader.{GoesOn, IsBroken, IsCause, IsTooLong, bytes_of}

reads_none : (shelf : Shelved) → OnlyReads shelf shelf
reads_none shelf = record {
  told = refl;
  files = refl;
  starts = refl;
  appends = refl;
  write_faults = refl;
  faults = omega arith;
  misses = omega arith;
  given = omega arith;
}

-- nothing is fetched
pub stays : (name : List ℕ) (shelf : Shelved) (a b : LineReader) → b.at ≡ a.at → GoesOn name shelf shelf a b
stays name shelf a b at = record {
  at = omega (arith, at);
  given = (omega (arith, at), omega (arith, at));
  within = λ told high. omega (arith, at, high);
  found = record { misses = refl; faults = refl };
  reads = reads_none shelf;
}

-- contents that are told stay
pub told_on : {old new : Shelved} → OnlyReads old new → IsTrue old.told → IsTrue new.told
told_on reads told = subst IsTrue (sym reads.told) told

pub same_file : {old new : Shelved} → OnlyReads old new → (name : List ℕ) → new.file name ≡ old.file name
same_file reads name = ap (λ files. files name) reads.files

pub same_bytes : {old new : Shelved} → OnlyReads old new → (name : List ℕ) → bytes_of new name ≡ bytes_of old name
same_bytes reads name = ap (λ file. unwrap_or file []) (same_file reads name)

within_on : {name : List ℕ} {o m n : Shelved} {a b d : LineReader} → GoesOn name o m a b → GoesOn name m n b d → IsTrue o.told → a.at ≤ length (bytes_of o name) → d.at ≤ length (bytes_of o name)
within_on {name = name} {b = b} {d = d} first later told high =
    let same = same_bytes first.reads name in
    let mid = later.within (told_on first.reads told) (subst (λ bytes. b.at ≤ length bytes) (sym same) (first.within told high)) in
    subst (λ bytes. d.at ≤ length bytes) same mid

pub goes_on : {name : List ℕ} {o m n : Shelved} {a b d : LineReader} → GoesOn name o m a b → GoesOn name m n b d → GoesOn name o n a d
goes_on first later = record {
  at = omega (arith, first.at, later.at);
  given = (omega (arith, first.given, later.given, first.at, later.at), omega (arith, first.given, later.given, first.at, later.at));
  within = λ told high. within_on first later told high;
  found = finds_on first.found later.found;
  reads = reads_on first.reads later.reads;
}

-- what breaks a later part breaks the whole
cause_on : {name : List ℕ} {o m : Shelved} {a b : LineReader} → GoesOn name o m a b → (n : Shelved) (f : ReadFault) → IsCause name b.at m n f → IsCause name a.at o n f
cause_on {name = name} first n fault.Missing cause = (
  record { misses = (omega (arith, first.found.misses, cause.0.misses), omega (arith, first.found.misses, cause.0.misses)); faults = cause.0.faults ∙ first.found.faults },
  λ told. sym (same_file first.reads name) ∙ cause.1 (told_on first.reads told),
)
cause_on first n fault.Failed cause = record {
  misses = cause.misses ∙ first.found.misses;
  faults = (omega (arith, first.found.faults, cause.faults), omega (arith, first.found.faults, cause.faults));
}
cause_on {name = name} first n fault.TooLong cause = (
  finds_on first.found cause.0,
  omega (arith, first.given, first.at, cause.1),
  λ told. subst IsTooLong (same_file first.reads name) (cause.2 (told_on first.reads told)),
)
cause_on first n fault.Memory cause = finds_on first.found cause

pub broken_on : {name : List ℕ} {o m n : Shelved} {a b : LineReader} → GoesOn name o m a b → (f : ReadFault) → IsBroken name b.at m n f → IsBroken name a.at o n f
broken_on {n = n} first f broken = record { cause = cause_on first n f broken.cause; bound = omega (arith, first.given, first.at, broken.bound) }

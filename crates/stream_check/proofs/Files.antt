-- What a pass says of a file, as a fault of its certificate.
use Rattle.std.proofs.Common.{◌≡◌, ◌≤◌, ◌<◌, ◌+◌, ℕ, refl, ap, subst, arith, List, [], length, drop, IsTrue, Option, Some, None}
use Rattle.std.specs.Prelude.{Result, Err, IsErrOf, unwrap_or}
use Rattle.std.proofs.lemmas.List.{length-append, length-drop}
use Rattle.lot_io.specs.Outside.{Fails, GrewBy, Misses, OnlyReads, RoseBy, Shelved}
use Rattle.cert_lines.specs.declared.parts.Claim.{Claim}
use Rattle.certificate.specs.declared.fault.CertTextFault.{CertTextFault}
use Rattle.certificate.specs.declared.fault.CertTextFault.TheVariants as fault
use Rattle.cert_stream.specs.declared.fault.ClaimFault.{ClaimFault}
use Rattle.cert_stream.specs.declared.fault.ClaimFault.TheVariants as claim
use Rattle.cert_stream.specs.Claims.{IsFileFault, WhenWhole}
use Rattle.cert_stream.specs.declared.limits.TheConstants.{MAX_BYTES}
use Rattle.cert_stream.specs.Reader.{GoesOn, IsTooLong as IsLong, bytes_of, rest_in, unread}
use Rattle.stream_check.specs.declared.fault.StreamFault.{StreamFault}
use Rattle.stream_check.specs.declared.fault.StreamFault.TheVariants as stream
use Rattle.cert_stream.specs.declared.lines.LineReader.{LineReader}
use Rattle.cert_stream.proofs.Steps.{same_bytes, told_on}
use Rattle.stream_check.specs.Faults.{of_claim}
use Rattle.stream_check.specs.Streams.{IsStreamFault, IsTooLong, OfBytes, WhenRead, never_refused, too_many}

-- the bytes of a file that is there
pub bytes_are : (shelf : Shelved) (name bytes : List ℕ) → shelf.file name ≡ Some bytes → bytes_of shelf name ≡ bytes
bytes_are shelf name bytes is = ap (λ file. unwrap_or file []) is

short_enough : (shelf : Shelved) (name bytes : List ℕ) → shelf.file name ≡ Some bytes → length (bytes_of shelf name) ≤ MAX_BYTES → length bytes < too_many
short_enough shelf name bytes is short = omega (arith, short, ap length (bytes_are shelf name bytes is))

long_file : (file : Option (List ℕ)) → IsLong file → IsTooLong file
long_file file is = (is.bytes, is.is, omega (arith, is.more))

-- the causes of a pass that reads a claim
pub record AreCauses (name : List ℕ) (old new : Shelved) (result : Result Claim ClaimFault) : Type 0 where
  pub text : (f : CertTextFault) → IsErrOf result (claim.Text f) → IsTrue old.told → IsFileFault (old.file name) f
  pub plain : IsErrOf result (claim.Text fault.Memory) → ⊥
  pub within : WhenWhole result (IsTrue old.told → length (bytes_of old name) ≤ MAX_BYTES)
  pub given : WhenWhole result (IsTrue old.told → GrewBy (length (bytes_of old name)) old.given new.given)
  pub missing : IsErrOf result claim.Missing → Misses old new
  pub absent : IsErrOf result claim.Missing → IsTrue old.told → old.file name ≡ None
  pub failed : IsErrOf result claim.Failed → Fails old new
  pub too_much : IsErrOf result claim.TooLong → RoseBy (MAX_BYTES + 1) old.given new.given
  pub too_long : IsErrOf result claim.TooLong → IsTrue old.told → IsLong (old.file name)

text_fault : (name : List ℕ) (old new : Shelved) (f : CertTextFault) → AreCauses name old new (Err (claim.Text f)) → IsStreamFault name old new never_refused (stream.Text f)
text_fault name old new f causes = (
  λ memory. causes.plain (ap (λ x. Err (claim.Text x)) memory),
  λ told.
      let is = causes.text f refl told in
      (is.bytes, is.is, short_enough old name is.bytes is.is (causes.within told), is.text),
)

pub claim_fault : (name : List ℕ) (old new : Shelved) (f : ClaimFault) → AreCauses name old new (Err f) → IsStreamFault name old new never_refused (of_claim f)
claim_fault name old new claim.Missing causes = ((causes.missing refl).misses.0, causes.absent refl)
claim_fault name old new claim.Failed causes = (causes.failed refl).faults.0
claim_fault name old new claim.TooLong causes = (causes.too_much refl, λ told. long_file (old.file name) (causes.too_long refl told))
claim_fault name old new (claim.Text f) causes = text_fault name old new f causes
claim_fault name old new claim.Memory causes = tt

-- the whole file was given
text_whole : (name : List ℕ) (old new : Shelved) (f : CertTextFault) → AreCauses name old new (Err (claim.Text f)) → IsTrue old.told → OfBytes (old.file name) (λ bytes. GrewBy (length bytes) old.given new.given)
text_whole name old new f causes told =
    let is = causes.text f refl told in
    (is.bytes, is.is, short_enough old name is.bytes is.is (causes.within told), subst (λ bs. GrewBy (length bs) old.given new.given) (bytes_are old name is.bytes is.is) (causes.given told))

pub claim_whole : (name : List ℕ) (old new : Shelved) (r : Result Claim StreamFault) (f : ClaimFault) → r ≡ Err (of_claim f) → AreCauses name old new (Err f) → WhenRead r (IsTrue old.told → OfBytes (old.file name) (λ bytes. GrewBy (length bytes) old.given new.given))
claim_whole name old new r claim.Missing is causes = rw is tt
claim_whole name old new r claim.Failed is causes = rw is tt
claim_whole name old new r claim.TooLong is causes = rw is tt
claim_whole name old new r (claim.Text f) is causes = rw is (text_whole name old new f causes)
claim_whole name old new r claim.Memory is causes = rw is tt

-- ---- the end of the file
-- a pass that has nothing left has come to the end of the file
rest_none : (shelf : Shelved) (name : List ℕ) (r : LineReader) → rest_in shelf name r ≡ [] → length (bytes_of shelf name) ≤ r.at
rest_none shelf name r none =
    let bytes = bytes_of shelf name in
    omega (arith, ap length none, length-append (unread r) (drop r.at bytes), length-drop r.at bytes)

pub end_on : {o m : Shelved} → OnlyReads o m → (name : List ℕ) (at : ℕ) → (IsTrue m.told → length (bytes_of m name) ≤ at) → IsTrue o.told → length (bytes_of o name) ≤ at
end_on reads name at ends told = omega (arith, ends (told_on reads told), ap length (same_bytes reads name))

pub at_end : {name : List ℕ} {o m n : Shelved} {a b d : LineReader} → GoesOn name o m a b → GoesOn name m n b d → (IsTrue m.told → rest_in m name b ≡ []) → IsTrue o.told → length (bytes_of o name) ≤ d.at
at_end {name = name} {m = m} {b = b} {d = d} first later none told =
    end_on first.reads name d.at (λ tells. omega (arith, rest_none m name b (none tells), later.at)) told

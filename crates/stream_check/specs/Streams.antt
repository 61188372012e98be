-- What the file of a certificate holds, and why it may give nothing to go on with.
use Rattle.std.specs.Prelude.{◌≡◌, ◌≢◌, ◌+◌, ◌*◌, ◌<◌, ℕ, List, length, IsTrue, Option, Some, None, Result, Ok, Err, ⊤}
use Rattle.lot_io.specs.Outside.{Fails, Finds, GrewBy, Misses, Rose, RoseBy, Shelved, piece_size}
use Rattle.certificate.specs.declared.fault.CertTextFault.TheVariants as text
use Rattle.certificate.specs.Faults.{IsCertTextFault}
use Rattle.certificate.specs.Limits.{IsTextOf}
use Rattle.certificate.specs.Shapes.{Shape}
use Rattle.lot_sizing.specs.Problem.{Problem}
use Rattle.plan_rules.specs.declared.plan.Plan.{Plan}
use Rattle.cert_checker.specs.declared.fault.Why.{Why}
use Rattle.cert_checker.specs.Cuts.{OfProblem}
use Rattle.cert_checker.specs.Checks.{IsCheckFault}
use Rattle.cert_stream.specs.declared.limits.TheConstants.{MAX_BYTES}
use Rattle.stream_check.specs.declared.fault.StreamFault.{StreamFault}
use Rattle.stream_check.specs.declared.fault.StreamFault.TheVariants as stream

-- the first length, in bytes, at which a file is too long
abbrev pub too_many : ℕ
too_many = MAX_BYTES + 1

-- the most bytes that a pass over a file is given
abbrev pub pass_size : ℕ
pass_size = too_many + piece_size

-- a file has bytes of which this holds, and not too many
abbrev pub OfBytes : Option (List ℕ) → (List ℕ → Type 0) → Type 0
OfBytes file P = (bytes : List ℕ) × (file ≡ Some bytes) × (length bytes < too_many) × P bytes

-- it has more bytes than it may have
abbrev pub IsTooLong : Option (List ℕ) → Type 0
IsTooLong file = (bytes : List ℕ) × (file ≡ Some bytes) × (MAX_BYTES < length bytes)

-- they are the text of a certificate of which this holds
abbrev pub OfCertificate : Option (List ℕ) → (Shape → Type 0) → Type 0
OfCertificate file P = OfBytes file (λ bytes. (c : Shape) × IsTextOf bytes c × P c)

-- why the file of this name gave no answer: it is absent, a fetch failed, it is too long, its text is no certificate's, or the certificate is refused; memory may always be wanting
abbrev pub IsStreamFault : List ℕ → Shelved → Shelved → (ℕ → Why → Type 0) → StreamFault → Type 0
IsStreamFault name old new P stream.Missing = Rose old.misses new.misses × (IsTrue old.told → old.file name ≡ None)
IsStreamFault name old new P stream.Failed = Rose old.faults new.faults
IsStreamFault name old new P stream.TooLong =
    RoseBy too_many old.given new.given × (IsTrue old.told → IsTooLong (old.file name))
IsStreamFault name old new P (stream.Text fault) =
    (fault ≢ text.Memory) × (IsTrue old.told → OfBytes (old.file name) (λ bytes. IsCertTextFault bytes fault))
IsStreamFault name old new P (stream.Rejected r) = P r.line r.why
IsStreamFault name old new P stream.Memory = ⊤

-- why a certificate is refused with the plan that was given, and on which line, as the checker would say
abbrev pub IsRefusedWith : Problem → Option Plan → Shape → (at : ℕ) → Why → Type 0
IsRefusedWith m given c at w = OfProblem m (λ total weight. IsCheckFault m total weight c given at w)

-- how the shelf's counts of failures went: an answer raises none, and of the refusals only an absent file and a failed fetch do, each its own count alone, by one
abbrev pub CountsOf : {A : Type 0} → Result A StreamFault → Shelved → Shelved → Type 0
CountsOf (Ok a) old new = Finds old new
CountsOf (Err stream.Missing) old new = Misses old new
CountsOf (Err stream.Failed) old new = Fails old new
CountsOf (Err _) old new = Finds old new

-- what comes where the whole text decides: an answer, or a fault of the text
abbrev pub WhenRead : {A : Type 0} → Result A StreamFault → Type 0 → Type 0
WhenRead (Ok a) P = P
WhenRead (Err (stream.Text f)) P = P
WhenRead _ P = ⊤

-- how often two passes were given the whole file where its text decides: twice for an answer, and once for a fault of the text; and a refusal comes only after once
abbrev pub GaveWhole : {A : Type 0} → Result A StreamFault → Option (List ℕ) → (before now : ℕ) → Type 0
GaveWhole (Ok a) file before now = OfBytes file (λ bytes. GrewBy (2 * length bytes) before now)
GaveWhole (Err (stream.Text f)) file before now = OfBytes file (λ bytes. GrewBy (length bytes) before now)
GaveWhole (Err (stream.Rejected r)) file before now = OfBytes file (λ bytes. RoseBy (length bytes) before now)
GaveWhole (Err _) file before now = ⊤

-- no certificate is refused where its claim alone is read
abbrev pub never_refused : ℕ → Why → Type 0
never_refused at w = ⊥

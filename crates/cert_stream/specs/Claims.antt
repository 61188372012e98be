-- What a pass over a certificate's file finds.
use Rattle.std.specs.Prelude.{◌≡◌, ◌≢◌, ◌+◌, ◌++◌, ℕ, List, [], length, Option, Some, Result, Ok, Err, ⊤}
use Rattle.cert_lines.specs.declared.parts.Claim.{Claim}
use Rattle.certificate.specs.declared.fault.CertTextFault.{CertTextFault}
use Rattle.certificate.specs.declared.fault.CertTextFault.TheVariants.{Memory}
use Rattle.certificate.specs.Shapes.{Shape}
use Rattle.certificate.specs.Limits.{IsTextOf}
use Rattle.certificate.specs.Values.{AreLines, Values, values_text}
use Rattle.certificate.specs.Dues.{IsStop, Due, TakesAll}
use Rattle.certificate.specs.Faults.{IsCertTextFault}
use Rattle.cert_stream.specs.declared.fault.ClaimFault.{ClaimFault}
use Rattle.cert_stream.specs.declared.fault.ClaimFault.TheVariants as stream
use Rattle.cert_stream.specs.declared.claim.Step.{Step}
use Rattle.cert_stream.specs.declared.claim.Step.TheVariants as step
use Rattle.cert_stream.specs.declared.lines.LineReader.{LineReader}
use Rattle.cert_stream.specs.Reader.{IsLineFurther}

-- the bytes are the text of a certificate of this claim
pub record IsTextOfClaim (bytes : List ℕ) (claim : Claim) : Type 0 where
  pub certificate : Shape
  pub text : IsTextOf bytes certificate
  pub claim_is : certificate.claim ≡ claim

-- the file is the text of a certificate of this claim
pub record IsFileOfClaim (file : Option (List ℕ)) (claim : Claim) : Type 0 where
  pub bytes : List ℕ
  pub is : file ≡ Some bytes
  pub text : IsTextOfClaim bytes claim

-- the file is no certificate's text, for this reason
pub record IsFileFault (file : Option (List ℕ)) (f : CertTextFault) : Type 0 where
  pub bytes : List ℕ
  pub is : file ≡ Some bytes
  pub text : IsCertTextFault bytes f

-- what the text of a file decides comes only where the file was read to its end
abbrev pub WhenWhole : Result Claim ClaimFault → Type 0 → Type 0
WhenWhole (Ok claim) P = P
WhenWhole (Err (stream.Text f)) P = P
WhenWhole _ P = ⊤

-- ---- on the way
-- lines of a text are as needed, and then this is needed and this is left
pub record AreTaken (version : ℕ) (dues : List Due) (text : List ℕ) (n : ℕ) (left : List Due) (rest : List ℕ) (m : ℕ) : Type 0 where
  pub read : Values
  pub lines : AreLines version read
  pub is : text ≡ values_text read ++ rest
  pub taken : TakesAll dues read left
  pub number : m ≡ n + length read

-- what a line of a text, which has this number, was in place of what is needed, and what is needed then
abbrev pub IsStep : ℕ → List Due → List ℕ → ℕ → Step → List Due → List ℕ → ℕ → Type 0
IsStep version dues text n step.Taken left rest m = AreTaken version dues text n left rest m
IsStep version dues text n step.Ended left rest m = (text ≡ []) × (dues ≡ [])
IsStep version dues text n (step.Faulty f) left rest m = IsStop version dues text n f

-- a line that is needed is counted, and out of memory is no fault of a text
abbrev pub IsStepGiven : Step → LineReader → LineReader → Type 0
IsStepGiven step.Taken a b = IsLineFurther a b
IsStepGiven step.Ended a b = ⊤
IsStepGiven (step.Faulty f) a b = f ≢ Memory

-- the text is lines that are as needed, and then nothing is needed
pub record AreAll (version : ℕ) (dues : List Due) (text : List ℕ) : Type 0 where
  pub read : Values
  pub lines : AreLines version read
  pub is : text ≡ values_text read
  pub taken : TakesAll dues read []

-- What is said is what is printed.
use Rattle.std.proofs.Common.{◌≡◌, ◌≢◌, ◌∙◌, ⊎_elim, ℕ, List, ap, subst, arith}
use Rattle.lot_io.specs.Outside.{Printed}
use Rattle.lotplan.specs.Status.{code_of}
use Rattle.lotplan.specs.Reading.{ReadAnswer, refused, missing, unread, too_long, read_status}
use Rattle.lotplan.specs.Saying.{Answered, Gains, IsSaid, Prints}
use Rattle.lotplan.specs.declared.said.Said.{Said}
use Rattle.lotplan.specs.declared.status.TheConstants.{NO_COMMAND, UNPRINTED, NO_MEMORY}
use Rattle.lotplan.specs.declared.status.Status.{Status}

pub prints_as : (text : List ℕ) (ending : Status) (said : Said) (code : ℕ) (old new : Printed) → IsSaid text ending said → Prints said.line.items said.status code old new → Prints text ending code old new
prints_as text ending said code old new is done = subst (λ e. Prints text e code old new) is.status (subst (λ t. Prints t said.status code old new) is.line done)

-- where printing didn't fail, the number is that of the status, and the line is there
pub printed : (text : List ℕ) (ending : Status) (code : ℕ) (old new : Printed) → Prints text ending code old new → code ≢ UNPRINTED → (code ≡ code_of ending) × Gains text old new
printed text ending code old new done other = ⊎_elim (λ whole. whole) (λ part. absurd (other part.0)) done

-- the number and the line are those of the answer
pub number_is : (A : Type 0) (Why : A → Type 0) (line_of : A → List ℕ) (status_of : A → Status) (line : List ℕ) (status : Status) (code : ℕ) (d : Answered A Why line_of status_of line status) → code ≡ code_of status → code ≡ code_of (status_of d.answer)
number_is A Why line_of status_of line status code d is = is ∙ ap code_of d.ends

pub line_is : (A : Type 0) (Why : A → Type 0) (line_of : A → List ℕ) (status_of : A → Status) (line : List ℕ) (status : Status) (old new : Printed) (d : Answered A Why line_of status_of line status) → Gains line old new → Gains (line_of d.answer) old new
line_is A Why line_of status_of line status old new d gains = subst (λ l. Gains l old new) d.says gains

-- what is said of an answer that has its cause
pub answered : (A : Type 0) (Why : A → Type 0) (line_of : A → List ℕ) (status_of : A → Status) (answer : A) (said : Said) → Why answer → IsSaid (line_of answer) (status_of answer) said → Answered A Why line_of status_of said.line.items said.status
answered A Why line_of status_of answer said why says = record { answer = answer; why = why; says = says.line; ends = says.status }

-- the number of an answer is neither that of a failed print nor that of memory
pub record IsAnswerNumber (code : ℕ) : Type 0 where
  pub unprinted : code ≢ UNPRINTED
  pub no_memory : code ≢ NO_MEMORY

-- nor is that of a command's answer the one of words that are none
pub record IsCommandNumber (code : ℕ) : Type 0 where
  pub answers : IsAnswerNumber code
  pub command : code ≢ NO_COMMAND

pub read_number : (why : ReadAnswer) → IsCommandNumber (code_of (read_status why))
read_number (refused fault) = record { answers = record { unprinted = λ e. omega (arith, e); no_memory = λ e. omega (arith, e) }; command = λ e. omega (arith, e) }
read_number (missing file) = record { answers = record { unprinted = λ e. omega (arith, e); no_memory = λ e. omega (arith, e) }; command = λ e. omega (arith, e) }
read_number (unread file) = record { answers = record { unprinted = λ e. omega (arith, e); no_memory = λ e. omega (arith, e) }; command = λ e. omega (arith, e) }
read_number (too_long file) = record { answers = record { unprinted = λ e. omega (arith, e); no_memory = λ e. omega (arith, e) }; command = λ e. omega (arith, e) }

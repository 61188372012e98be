-- What a run is says what each number of a status says, of any command.
use Rattle.std.proofs.Common.{◌≡◌, ◌≢◌, ◌∙◌, ◌⊎◌, ⊎_elim, ℕ, List, [], ◌∷◌, length, Option, Some, None, IsTrue, inl, inr, refl, sym, ap, subst, arith}
use Rattle.std.specs.Prelude.{Result, Ok, Err, IfOk, OnErr}
use Rattle.std.specs.declared.alloc.AllocError.{AllocError}
use Rattle.lot_draft.specs.declared.fault.ModelFault.{ModelFault}
use Rattle.lot_io.specs.Outside.{GrewBy, OnlyReads, OnlyWrites, Printed, Rose, Shelved}
use Rattle.command_line.specs.Words.{AreTaken, Request, generating}
use Rattle.lotplan.specs.Status.{code_of}
use Rattle.lotplan.specs.Saying.{Ends, Gains, IsSaid, Prints}
use Rattle.lotplan.specs.Reading.{ReadAnswer, refused, missing, unread, too_long, read_status}
use Rattle.lotplan.specs.Writing.{StartsAtMost}
use Rattle.lotplan.specs.Run.{AnswersAs, CallFor, Does, EndsAs, HadNoFault, IsIdle, IsNoCommand, IsOverlong, IsProgramRun, Leaves, SaysFor, Stops, meaning_of, ran_out, reads_of, refused_line, runs, writes_of}
use Rattle.lotplan.specs.declared.said.Said.{Said}
use Rattle.lotplan.specs.declared.status.Status.{Status}
use Rattle.lotplan.specs.declared.status.Status.TheVariants.{NoCommand}
use Rattle.lotplan.specs.declared.status.TheConstants.{DONE, NO_PLAN, UNDECIDED, NO_COMMAND, REFUSED, MISSING, UNREAD, UNWRITTEN, UNPRINTED, NO_MEMORY, TOO_LONG}
use Rattle.lotplan.proofs.EachKept.{command_kept, kept_of}
use Rattle.lotplan.proofs.Generated.{only_writes_at, same_writes}
use Rattle.lotplan.proofs.Kept.{IsAfter}
use Rattle.lotplan.proofs.Outputs.{IsAnswerNumber, printed, prints_as}
use Rattle.lotplan.proofs.Readings.{IsReading, same_reads}
use Rattle.lotplan.proofs.Writings.{reads_at_most}

-- ---- what is left where memory ran out
-- nothing is left changed, whatever is read
pub leaves_same : (files : List (List ℕ)) (old : Shelved) → Leaves files old old
leaves_same [] old = refl
leaves_same (file ∷ files) old = same_reads old old refl

pub leaves_reads : (files : List (List ℕ)) (old new : Shelved) → Leaves files old new → OnlyReads old new
leaves_reads [] old new same = same_reads old new same
leaves_reads (file ∷ files) old new reads = reads

-- after words, where memory ran out
pub left_reads : (files : List (List ℕ)) (old new : Shelved) (r : Result Said AllocError) → OnErr r (Leaves files old new) → OnErr r (OnlyReads old new)
left_reads files old new (Ok said) left = tt
left_reads files old new (Err e) left = leaves_reads files old new left

leaves_idle : (files : List (List ℕ)) (old new : Shelved) → files ≡ [] → Leaves files old new → new ≡ old
leaves_idle files old new none left = subst (λ f. Leaves f old new) none left

-- ---- from what is said and printed to the run
pub is_run : (request : Option Request) (code : ℕ) (old new : Shelved) (out_old out_new : Printed) (r : Result Said AllocError) → IfOk r (SaysFor request old new) → OnErr r (Leaves (reads_of request) old new) → Ends r code out_old out_new → IsProgramRun request code old new out_old out_new
is_run request code old new out_old out_new (Ok said) says left done = runs (record { line = said.line.items; status = said.status; does = says; prints = done })
is_run request code old new out_old out_new (Err e) says left done = ran_out (record { is = done.0; left = left; silent = done.1 })

-- words that the parse takes and that are no command are refused by this line
pub refused_words : (request : Option Request) (words : List (List ℕ)) (code : ℕ) (out_old out_new : Printed) (r : Result Said AllocError) → (request ≡ None → AreTaken words → IfOk r (IsSaid refused_line NoCommand)) → Ends r code out_old out_new → request ≡ None → AreTaken words → (code ≡ NO_MEMORY) ⊎ Prints refused_line NoCommand code out_old out_new
refused_words request words code out_old out_new (Ok said) says done none taken = inr (prints_as refused_line NoCommand said code out_old out_new (says none taken) done)
refused_words request words code out_old out_new (Err e) says done none taken = inl done.0

-- ---- a run whose number is neither that of a failed print nor that of memory
ends_by : (request : Option Request) (code : ℕ) (old new : Shelved) (out_old out_new : Printed) → AnswersAs request code old new out_old out_new → code ≢ UNPRINTED → EndsAs request code old new out_old out_new
ends_by request code old new out_old out_new a other =
    let p = printed a.line a.status code out_old out_new a.prints other in
    record { line = a.line; status = a.status; does = a.does; number = p.0; gains = p.1 }

pub ended : (request : Option Request) (code : ℕ) (old new : Shelved) (out_old out_new : Printed) → IsProgramRun request code old new out_old out_new → code ≢ NO_MEMORY → code ≢ UNPRINTED → EndsAs request code old new out_old out_new
ended request code old new out_old out_new (ran_out x) some other = absurd (some x.is)
ended request code old new out_old out_new (runs x) some other = ends_by request code old new out_old out_new x other

after_of : (request : Option Request) (old new : Shelved) (line : List ℕ) (status : Status) → Does request old new line status → IsAfter (meaning_of request) old new line status
after_of request old new line status does = (kept_of request).after old new line status does

-- ---- words that are no command
none_by : (request : Option Request) (code : ℕ) (old new : Shelved) (out_old out_new : Printed) → EndsAs request code old new out_old out_new → code ≡ NO_COMMAND → IsNoCommand request out_old out_new
none_by None code old new out_old out_new e four = record { is = refl; text = e.line; line = e.gains }
none_by (Some request) code old new out_old out_new e four = absurd ((command_kept request).command old new e.line e.status e.does (sym e.number ∙ four))

pub no_command : (request : Option Request) (code : ℕ) (old new : Shelved) (out_old out_new : Printed) → IsProgramRun request code old new out_old out_new → code ≡ NO_COMMAND → IsNoCommand request out_old out_new
no_command request code old new out_old out_new run is = none_by request code old new out_old out_new (ended request code old new out_old out_new run (λ e. omega (arith, e, is)) (λ e. omega (arith, e, is))) is

-- ---- files that give nothing to go on with, or a page that would be too long
abbrev SomeCause : Option Request → ℕ → Shelved → Shelved → Printed → Printed → Type 0
SomeCause request code old new out_old out_new =
    ((why : ReadAnswer) × Stops request old new out_old out_new why × (code ≡ code_of (read_status why))) ⊎ (IsOverlong request old out_old out_new × (code ≡ TOO_LONG))

stop : (request : Option Request) (code : ℕ) (old new : Shelved) (out_old out_new : Printed) → IsProgramRun request code old new out_old out_new → IsReading code → code ≢ UNPRINTED → code ≢ NO_MEMORY → SomeCause request code old new out_old out_new
stop request code old new out_old out_new run r nine ten =
    let e = ended request code old new out_old out_new run ten nine in
    ⊎_elim
    (λ s. inl (s.why, record { cause = s.cause; line = subst (λ l. Gains l out_old out_new) s.says e.gains }, e.number ∙ ap code_of s.ends))
    (λ l. inr (record { cause = l.cause; line = subst (λ l. Gains l out_old out_new) l.says e.gains }, e.number ∙ ap code_of l.ends))
    ((after_of request old new e.line e.status e.does).stops (subst IsReading e.number r))

pub refuses : (request : Option Request) (code : ℕ) (old new : Shelved) (out_old out_new : Printed) → IsProgramRun request code old new out_old out_new → code ≡ REFUSED → (fault : ModelFault) × Stops request old new out_old out_new (refused fault)
refuses request code old new out_old out_new run is = pick (stop request code old new out_old out_new run (record { low = omega (arith, is); high = omega (arith, is); other = λ e. omega (arith, is, e) }) (λ e. omega (arith, is, e)) (λ e. omega (arith, is, e)))
  where
    pick : SomeCause request code old new out_old out_new → (fault : ModelFault) × Stops request old new out_old out_new (refused fault)
    pick (inl (refused fault, x, number)) = (fault, x)
    pick (inl (missing file, x, number)) = absurd (omega (arith, is, number))
    pick (inl (unread file, x, number)) = absurd (omega (arith, is, number))
    pick (inl (too_long file, x, number)) = absurd (omega (arith, is, number))
    pick (inr (x, number)) = absurd (omega (arith, is, number))

pub misses : (request : Option Request) (code : ℕ) (old new : Shelved) (out_old out_new : Printed) → IsProgramRun request code old new out_old out_new → code ≡ MISSING → (file : List ℕ) × Stops request old new out_old out_new (missing file)
misses request code old new out_old out_new run is = pick (stop request code old new out_old out_new run (record { low = omega (arith, is); high = omega (arith, is); other = λ e. omega (arith, is, e) }) (λ e. omega (arith, is, e)) (λ e. omega (arith, is, e)))
  where
    pick : SomeCause request code old new out_old out_new → (file : List ℕ) × Stops request old new out_old out_new (missing file)
    pick (inl (refused fault, x, number)) = absurd (omega (arith, is, number))
    pick (inl (missing file, x, number)) = (file, x)
    pick (inl (unread file, x, number)) = absurd (omega (arith, is, number))
    pick (inl (too_long file, x, number)) = absurd (omega (arith, is, number))
    pick (inr (x, number)) = absurd (omega (arith, is, number))

pub fails_to_read : (request : Option Request) (code : ℕ) (old new : Shelved) (out_old out_new : Printed) → IsProgramRun request code old new out_old out_new → code ≡ UNREAD → (file : List ℕ) × Stops request old new out_old out_new (unread file)
fails_to_read request code old new out_old out_new run is = pick (stop request code old new out_old out_new run (record { low = omega (arith, is); high = omega (arith, is); other = λ e. omega (arith, is, e) }) (λ e. omega (arith, is, e)) (λ e. omega (arith, is, e)))
  where
    pick : SomeCause request code old new out_old out_new → (file : List ℕ) × Stops request old new out_old out_new (unread file)
    pick (inl (refused fault, x, number)) = absurd (omega (arith, is, number))
    pick (inl (missing file, x, number)) = absurd (omega (arith, is, number))
    pick (inl (unread file, x, number)) = (file, x)
    pick (inl (too_long file, x, number)) = absurd (omega (arith, is, number))
    pick (inr (x, number)) = absurd (omega (arith, is, number))

pub is_long : (request : Option Request) (code : ℕ) (old new : Shelved) (out_old out_new : Printed) → IsProgramRun request code old new out_old out_new → code ≡ TOO_LONG → ((file : List ℕ) × Stops request old new out_old out_new (too_long file)) ⊎ IsOverlong request old out_old out_new
is_long request code old new out_old out_new run is = pick (stop request code old new out_old out_new run (record { low = omega (arith, is); high = omega (arith, is); other = λ e. omega (arith, is, e) }) (λ e. omega (arith, is, e)) (λ e. omega (arith, is, e)))
  where
    pick : SomeCause request code old new out_old out_new → ((file : List ℕ) × Stops request old new out_old out_new (too_long file)) ⊎ IsOverlong request old out_old out_new
    pick (inl (refused fault, x, number)) = absurd (omega (arith, is, number))
    pick (inl (missing file, x, number)) = absurd (omega (arith, is, number))
    pick (inl (unread file, x, number)) = absurd (omega (arith, is, number))
    pick (inl (too_long file, x, number)) = inl (file, x)
    pick (inr (x, number)) = inr x

-- ---- printing that failed, and none
-- a failed print raised its count, and no print ends with the number of memory
pub record IsPrint (code : ℕ) (old new : Printed) : Type 0 where
  pub failed : code ≡ UNPRINTED → Rose old.faults new.faults
  pub no_memory : code ≢ NO_MEMORY

print_of : (text : List ℕ) (ending : Status) (code : ℕ) (old new : Printed) → IsAnswerNumber (code_of ending) → Prints text ending code old new → IsPrint code old new
print_of text ending code old new shown done = ⊎_elim
    (λ whole. record { failed = λ nine. absurd (shown.unprinted (sym whole.0 ∙ nine)); no_memory = λ e. shown.no_memory (sym whole.0 ∙ e) })
    (λ part. record { failed = λ _. part.1; no_memory = λ e. omega (arith, part.0, e) })
    done

print_by : (request : Option Request) (code : ℕ) (old new : Shelved) (out_old out_new : Printed) → AnswersAs request code old new out_old out_new → IsPrint code out_old out_new
print_by request code old new out_old out_new a = print_of a.line a.status code out_old out_new (after_of request old new a.line a.status a.does).number a.prints

pub unprinted : (request : Option Request) (code : ℕ) (old new : Shelved) (out_old out_new : Printed) → IsProgramRun request code old new out_old out_new → code ≡ UNPRINTED → Rose out_old.faults out_new.faults
unprinted request code old new out_old out_new (ran_out x) nine = absurd (omega (arith, x.is, nine))
unprinted request code old new out_old out_new (runs x) nine = (print_by request code old new out_old out_new x).failed nine

pub silent : (request : Option Request) (code : ℕ) (old new : Shelved) (out_old out_new : Printed) → IsProgramRun request code old new out_old out_new → code ≡ NO_MEMORY → out_new ≡ out_old
silent request code old new out_old out_new (ran_out x) ten = x.silent
silent request code old new out_old out_new (runs x) ten = absurd ((print_by request code old new out_old out_new x).no_memory ten)

-- ---- what is written and read
pub quiet : (request : Option Request) (code : ℕ) (old new : Shelved) (out_old out_new : Printed) → IsProgramRun request code old new out_old out_new → code ≢ DONE → code ≢ NO_PLAN → code ≢ UNDECIDED → code ≢ UNWRITTEN → code ≢ UNPRINTED → OnlyReads old new
quiet request code old new out_old out_new (ran_out x) some one two eight nine = leaves_reads (reads_of request) old new x.left
quiet request code old new out_old out_new (runs x) some one two eight nine =
    let e = ends_by request code old new out_old out_new x nine in
    (after_of request old new e.line e.status e.does).quiet (λ is. some (e.number ∙ is)) (λ is. one (e.number ∙ is)) (λ is. two (e.number ∙ is)) (λ is. eight (e.number ∙ is))

pub writes : (request : Option Request) (code : ℕ) (old new : Shelved) (out_old out_new : Printed) → IsProgramRun request code old new out_old out_new → StartsAtMost (writes_of request) old new
writes request code old new out_old out_new (ran_out x) = reads_at_most (writes_of request) old new (leaves_reads (reads_of request) old new x.left)
writes request code old new out_old out_new (runs x) = (after_of request old new x.line x.status x.does).writes

pub wrote : (request : Option Request) (code : ℕ) (old new : Shelved) (out_old out_new : Printed) → IsProgramRun request code old new out_old out_new → code ≡ DONE → GrewBy (length (writes_of request)) old.starts new.starts
wrote request code old new out_old out_new run is =
    let e = ended request code old new out_old out_new run (λ e. omega (arith, e, is)) (λ e. omega (arith, e, is)) in
    (after_of request old new e.line e.status e.does).wrote (sym e.number ∙ is)

pub only_reads : (request : Option Request) (code : ℕ) (old new : Shelved) (out_old out_new : Printed) → IsProgramRun request code old new out_old out_new → writes_of request ≡ [] → OnlyReads old new
only_reads request code old new out_old out_new (ran_out x) none = leaves_reads (reads_of request) old new x.left
only_reads request code old new out_old out_new (runs x) none = (after_of request old new x.line x.status x.does).reads none

pub idle : (request : Option Request) (code : ℕ) (old new : Shelved) (out_old out_new : Printed) → IsProgramRun request code old new out_old out_new → IsIdle request → new ≡ old
idle request code old new out_old out_new (ran_out x) is = leaves_idle (reads_of request) old new is.reads x.left
idle request code old new out_old out_new (runs x) is = (after_of request old new x.line x.status x.does).idle is.reads is.writes

pub tells : (request : Option Request) (code : ℕ) (old new : Shelved) (out_old out_new : Printed) → IsProgramRun request code old new out_old out_new → new.told ≡ old.told
tells request code old new out_old out_new (ran_out x) = (leaves_reads (reads_of request) old new x.left).told
tells request code old new out_old out_new (runs x) = (after_of request old new x.line x.status x.does).tells

-- `gen` reads nothing
made_only_by : (code : ℕ) (old new : Shelved) (out_old out_new : Printed) (seed items periods : ℕ) (m : List ℕ) → IsProgramRun (Some (generating seed items periods m)) code old new out_old out_new → OnlyWrites m old new
made_only_by code old new out_old out_new seed items periods m (ran_out x) = same_writes m old new x.left
made_only_by code old new out_old out_new seed items periods m (runs x) = only_writes_at seed items periods m code old new x.does.answer x.does.why

pub generate_only : (request : Option Request) (code : ℕ) (old new : Shelved) (out_old out_new : Printed) → IsProgramRun request code old new out_old out_new → (seed items periods : ℕ) (m : List ℕ) → request ≡ Some (generating seed items periods m) → OnlyWrites m old new
generate_only request code old new out_old out_new run seed items periods m is = made_only_by code old new out_old out_new seed items periods m (subst (λ a. IsProgramRun a code old new out_old out_new) is run)

-- ---- what is called for
pub called : (request : Option Request) (code : ℕ) (old new : Shelved) (out_old out_new : Printed) → IsProgramRun request code old new out_old out_new → IsTrue old.told → HadNoFault old new out_old out_new → (code ≡ NO_MEMORY) ⊎ CallFor request old.file code
called request code old new out_old out_new (ran_out x) t fine = inl x.is
called request code old new out_old out_new (runs x) t fine =
    let e = ends_by request code old new out_old out_new x (λ nine. fine.put ((print_by request code old new out_old out_new x).failed nine)) in
    inr (subst (CallFor request old.file) (sym e.number) ((after_of request old new e.line e.status e.does).calls out_old out_new fine t))

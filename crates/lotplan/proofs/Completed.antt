-- What `complete` leaves, by its answer.
use Rattle.std.proofs.Common.{◌≡◌, ◌≢◌, ◌⊎◌, ⊎_elim, ℕ, List, [], ◌∷◌, Option, Some, IsTrue, inl, inr, refl, sym, ap, subst, arith}
use Rattle.std.specs.Prelude.{Result, Ok, Err, IfOk}
use Rattle.std.specs.declared.alloc.AllocError.{AllocError}
use Rattle.lot_io.specs.Outside.{Files, GrewBy, OnlyReads, Printed, Shelved}
use Rattle.lot_io.proofs.Frames.{reads_on}
use Rattle.lot_sizing.specs.Problem.{Problem}
use Rattle.lot_sizing.specs.Plan.{IsFeasible, Table, cost}
use Rattle.lot_sizing.specs.Least.{HasChoice}
use Rattle.plan_rules.specs.Cells.{Cells, table_of}
use Rattle.plan_rules.specs.Held.{plan_of}
use Rattle.plan_rules.specs.Rows.{HasChosen, HasNoPlan, IsLeastWith}
use Rattle.plan_rules.specs.declared.broken.Broken.{Broken}
use Rattle.plan_rules.specs.declared.plan.Plan.{Plan as Grids}
use Rattle.lot_quantities.specs.Completed.{IsRefused}
use Rattle.lot_quantities.specs.declared.quantities.Quantities.{Quantities}
use Rattle.lotplan.specs.Meaning.{Says}
use Rattle.lotplan.specs.declared.said.Said.{Said}
use Rattle.lotplan.specs.declared.commands.complete.NoTable.{NoTable}
use Rattle.lotplan.specs.declared.commands.complete.NoTable.TheVariants.{Answered, Memory}
use Rattle.lotplan.specs.Status.{code_of}
use Rattle.lotplan.specs.Reading.{FileExplains, HoldsProblem, ModelExplains, OfFile, ReadAnswer, refused, missing, unread, too_long, read_status}
use Rattle.lotplan.specs.Completing.{AreIncomplete, AreNoTable, AreQuantities, CompleteAnswer, CompleteCallsFor, CompleteExplains, Completes, ExplainsNoTable, FailsToComplete, FindsIncomplete, FindsNoTable, GridsExplain, GridsSay, HasPlan, HoldsTables, OfTable, PutsAndSays, TableAnswer, TableCallsFor, TableExplains, TablesExplain, WritesCompleted, broken, completed, no_input, no_table, none, unwritten, complete_line, complete_meaning, complete_status, table_line, table_meant, table_status}
use Rattle.lotplan.specs.Saying.{Gains, IsSaid}
use Rattle.lotplan.specs.Writing.{StartsAtMost, unwritten_line}
use Rattle.lotplan.specs.Run.{HadNoFault}
use Rattle.lotplan.specs.declared.status.Status.{Status}
use Rattle.lotplan.specs.declared.status.TheConstants.{DONE, FAULTY, NO_COMMAND, UNWRITTEN}
use Rattle.lotplan.proofs.CompleteCalls.{complete_call, complete_some}
use Rattle.lotplan.proofs.Kept.{IsCommand}
use Rattle.lotplan.proofs.Outputs.{IsAnswerNumber, IsCommandNumber, answered, read_number}
use Rattle.lotplan.proofs.Readings.{IsReading, SomeStop, reading, same_reads, stops_after}
use Rattle.lotplan.proofs.Writings.{one_at_most, reads_at_most, starts_after, told_before}

-- ---- from the table to both files
table_after : (m p : List ℕ) (problem : Problem) (old mid new : Shelved) (answer : TableAnswer) → (IsTrue old.told → HoldsProblem old.file m problem) → OnlyReads old mid → TableExplains problem p mid new answer → TablesExplain m p old new answer
table_after m p problem old mid new (no_table fault) holds reads x = λ t. (problem, holds t, subst (λ (f : Files). OfFile f p (λ bytes. AreNoTable problem bytes fault)) reads.files (x (told_before reads t)))
table_after m p problem old mid new (no_input why) holds reads x = inr (problem, holds, stops_after p old mid new why reads x)

pub no_table_after : (m p : List ℕ) (problem : Problem) (old mid new : Shelved) (stop : NoTable) → (IsTrue old.told → HoldsProblem old.file m problem) → OnlyReads old mid → ExplainsNoTable (TableExplains problem p mid new) stop → ExplainsNoTable (TablesExplain m p old new) stop
no_table_after m p problem old mid new (Answered answer) holds reads x = table_after m p problem old mid new (table_meant answer) holds reads x
no_table_after m p problem old mid new Memory holds reads x = tt

-- ---- from grids to what is written
has_choice : (problem : Problem) (make setup : Cells) (plan : Grids) → HasChosen make setup plan → HasChoice problem (table_of make) (table_of setup) (plan_of plan)
has_choice problem make setup plan is = record {
  make = λ i t low high t_low t_high. ap (λ g. table_of g i t) is.make;
  setup = λ i t low high t_low t_high. ap (λ g. table_of g i t) is.setup;
}

-- a feasible plan with the quantities and setups of two grids, the least with them, and its cost
pub record IsCompleted (problem : Problem) (quantities setups : Cells) (grids : Grids) (amount : ℕ) : Type 0 where
  pub chosen : HasChosen quantities setups grids
  pub feasible : IsFeasible problem (plan_of grids)
  pub least : IsLeastWith problem (table_of quantities) (table_of setups) (plan_of grids)
  pub costs : amount ≡ cost problem (plan_of grids)

pub says_put : (problem : Problem) (make setup : Cells) (plan : Grids) (amount : ℕ) (q : List ℕ) (old new : Shelved) (r : Result Said AllocError) → IsCompleted problem make setup plan amount → IfOk r (PutsAndSays problem plan amount q old new) → IfOk r (GridsSay problem (table_of make) (table_of setup) q old new)
says_put problem make setup plan amount q old new (Ok said) is x =
    let choice = has_choice problem make setup plan is.chosen in
    ⊎_elim
    (λ done.
    let (says, bytes, short, reads, written) = done in (
      completed amount,
      (
        λ t. record {
          plan = plan_of plan;
          bytes = bytes;
          written = written.written t;
          short = short;
          is = reads;
          feasible = is.feasible;
          choice = choice;
          least = is.least;
          costs = sym is.costs;
        },
        written.touches,
      ),
      says,
    ))
    (λ lost. (unwritten q, (refl, (plan_of plan, is.feasible, choice), lost.1.failed, lost.1.touches), lost.0))
    x
says_put problem make setup plan amount q old new (Err e) is x = tt

pub says_broken : (problem : Problem) (make setup : Table) (rule : Broken) (q : List ℕ) (old : Shelved) (r : Result Said AllocError) → HasNoPlan problem make setup → IsRefused problem make setup rule → IfOk r (IsSaid (complete_line (broken rule)) (complete_status (broken rule))) → IfOk r (GridsSay problem make setup q old old)
says_broken problem make setup rule q old (Ok said) unplanned breaks says = (broken rule, (record { none = unplanned; breaks = breaks }, same_reads old old refl), says)
says_broken problem make setup rule q old (Err e) unplanned breaks says = tt

-- ---- from grids to files
of_table : (before : Files) (m p : List ℕ) (problem : Problem) (grids : Quantities) (P : Problem → Table → Table → Type 0) → HoldsTables before m p problem grids → P problem (table_of grids.make) (table_of grids.setup) → OfTable before m p P
of_table before m p problem grids P h holds = (problem, h.model, (h.table.bytes, h.table.read, h.table.short, record { make = table_of grids.make; setup = table_of grids.setup; is = h.table.is; holds = holds }))

module _ (m p q : List ℕ) where
  complete_after : (problem : Problem) (grids : Quantities) (old mid new : Shelved) (answer : CompleteAnswer) → (IsTrue old.told → HoldsTables old.file m p problem grids) → OnlyReads old mid → GridsExplain problem (table_of grids.make) (table_of grids.setup) q mid new answer → CompleteExplains m p q old new answer
  complete_after problem grids old mid new (completed amount) holds reads x = (
    λ t. of_table old.file m p problem grids (WritesCompleted new.file q amount) (holds t) (x.0 (told_before reads t)),
    starts_after (q ∷ []) 1 old mid new reads x.1,
  )
  complete_after problem grids old mid new (unwritten file) holds reads x = (
    x.0,
    λ t. of_table old.file m p problem grids HasPlan (holds t) x.1,
    omega (arith, x.2, reads.write_faults),
    starts_after (q ∷ []) 1 old mid new reads x.3,
  )
  complete_after problem grids old mid new (broken rule) holds reads x = (λ t. of_table old.file m p problem grids (AreIncomplete rule) (holds t) x.0, reads_on reads x.1)
  complete_after problem grids old mid new (none answer) holds reads x = absurd x

  pub says_grids : (problem : Problem) (grids : Quantities) (old mid new : Shelved) (r : Result Said AllocError) → (IsTrue old.told → HoldsTables old.file m p problem grids) → OnlyReads old mid → IfOk r (GridsSay problem (table_of grids.make) (table_of grids.setup) q mid new) → IfOk r (Says (complete_meaning m p q) old new)
  says_grids problem grids old mid new (Ok said) holds reads (answer, x, says) = answered CompleteAnswer (CompleteExplains m p q old new) complete_line complete_status answer said (complete_after problem grids old mid new answer holds reads x) says
  says_grids problem grids old mid new (Err e) holds reads x = tt

  pub says_no_table : (old new : Shelved) (answer : TableAnswer) (r : Result Said AllocError) → TablesExplain m p old new answer → OnlyReads old new → IfOk r (IsSaid (table_line answer) (table_status answer)) → IfOk r (Says (complete_meaning m p q) old new)
  says_no_table old new answer (Ok said) x reads says = answered CompleteAnswer (CompleteExplains m p q old new) complete_line complete_status (none answer) said (x, reads) says
  says_no_table old new answer (Err e) x reads says = tt

  -- ---- what each number says
  module _ (code : ℕ) (old new : Shelved) (out_old out_new : Printed) where
    pub completed_at : (answer : CompleteAnswer) → CompleteExplains m p q old new answer → code ≡ code_of (complete_status answer) → Gains (complete_line answer) out_old out_new → code ≡ DONE → IsTrue old.told → Completes old.file new.file m p q out_old out_new
    completed_at (completed amount) x is line done t = record { what = amount; holds = x.0 t; line = line }
    completed_at (unwritten file) x is line done t = absurd (omega (arith, is, done))
    completed_at (broken rule) x is line done t = absurd (omega (arith, is, done))
    completed_at (none (no_table fault)) x is line done t = absurd (omega (arith, is, done))
    completed_at (none (no_input why)) x is line done t = absurd (omega (arith, (reading why code is).low, done))

    pub faulty_at : (answer : CompleteAnswer) → CompleteExplains m p q old new answer → code ≡ code_of (complete_status answer) → Gains (complete_line answer) out_old out_new → code ≡ FAULTY → IsTrue old.told → FindsIncomplete old.file m p out_old out_new ⊎ FindsNoTable old.file m p out_old out_new
    faulty_at (completed amount) x is line three t = absurd (omega (arith, is, three))
    faulty_at (unwritten file) x is line three t = absurd (omega (arith, is, three))
    faulty_at (broken rule) x is line three t = inl (record { what = rule; holds = x.0 t; line = line })
    faulty_at (none (no_table fault)) x is line three t = inr (record { what = fault; holds = x.0 t; line = line })
    faulty_at (none (no_input why)) x is line three t = absurd (omega (arith, (reading why code is).low, three))

    pub unwritten_at : (answer : CompleteAnswer) → CompleteExplains m p q old new answer → code ≡ code_of (complete_status answer) → Gains (complete_line answer) out_old out_new → code ≡ UNWRITTEN → FailsToComplete old new m p q out_old out_new
    unwritten_at (completed amount) x is line eight = absurd (omega (arith, is, eight))
    unwritten_at (unwritten file) x is line eight = record { holds = x.1; failed = x.2; line = subst (λ f. Gains (unwritten_line f) out_old out_new) x.0 line }
    unwritten_at (broken rule) x is line eight = absurd (omega (arith, is, eight))
    unwritten_at (none (no_table fault)) x is line eight = absurd (omega (arith, is, eight))
    unwritten_at (none (no_input why)) x is line eight = absurd ((reading why code is).other eight)

  -- ---- what is written
  quiet_at : (code : ℕ) (old new : Shelved) (answer : CompleteAnswer) → CompleteExplains m p q old new answer → code ≡ code_of (complete_status answer) → code ≢ DONE → code ≢ UNWRITTEN → OnlyReads old new
  quiet_at code old new (completed amount) x is some other = absurd (some is)
  quiet_at code old new (unwritten file) x is some other = absurd (other is)
  quiet_at code old new (broken rule) x is some other = x.1
  quiet_at code old new (none answer) x is some other = x.1

  wrote_at : (code : ℕ) (old new : Shelved) (answer : CompleteAnswer) → CompleteExplains m p q old new answer → code ≡ code_of (complete_status answer) → code ≡ DONE → GrewBy 1 old.starts new.starts
  wrote_at code old new (completed amount) x is done = x.1.starts
  wrote_at code old new (unwritten file) x is done = absurd (omega (arith, is, done))
  wrote_at code old new (broken rule) x is done = absurd (omega (arith, is, done))
  wrote_at code old new (none (no_table fault)) x is done = absurd (omega (arith, is, done))
  wrote_at code old new (none (no_input why)) x is done = absurd (omega (arith, (reading why code is).low, done))

  others_at : (old new : Shelved) (answer : CompleteAnswer) → CompleteExplains m p q old new answer → StartsAtMost (q ∷ []) old new × (new.told ≡ old.told)
  others_at old new (completed amount) x = (one_at_most q old new x.1, x.1.told)
  others_at old new (unwritten file) x = (one_at_most q old new x.3, x.3.told)
  others_at old new (broken rule) x = (reads_at_most (q ∷ []) old new x.1, x.1.told)
  others_at old new (none answer) x = (reads_at_most (q ∷ []) old new x.1, x.1.told)

-- ---- what the two files call for
by_model : (found table : Option (List ℕ)) (bytes : List ℕ) (code : ℕ) → found ≡ Some bytes → CompleteCallsFor (Some bytes) table code → CompleteCallsFor found table code
by_model found table bytes code same calls = subst (λ f. CompleteCallsFor f table code) (sym same) calls

by_bytes : (problem : Problem) (found : Option (List ℕ)) (bytes : List ℕ) (code : ℕ) → found ≡ Some bytes → TableCallsFor problem (Some bytes) code → TableCallsFor problem found code
by_bytes problem found bytes code same calls = subst (λ f. TableCallsFor problem f code) (sym same) calls

-- by the table, once the model means a problem
by_table : (m p : List ℕ) (code : ℕ) (old : Shelved) (problem : Problem) → HoldsProblem old.file m problem → TableCallsFor problem (old.file p) code → CompleteCallsFor (old.file m) (old.file p) code
by_table m p code old problem holds calls = by_model (old.file m) (old.file p) holds.bytes code holds.read (inr (holds.short, inr (problem, holds.means, calls)))

has_plan : (after : Files) (q : List ℕ) (amount : ℕ) (problem : Problem) (bytes : List ℕ) → AreQuantities problem bytes (WritesCompleted after q amount problem) → AreQuantities problem bytes (HasPlan problem)
has_plan after q amount problem bytes a = record { make = a.make; setup = a.setup; is = a.is; holds = (a.holds.plan, a.holds.feasible, a.holds.choice) }

module _ (m p : List ℕ) (code : ℕ) (old new : Shelved) (out_old out_new : Printed) (fine : HadNoFault old new out_old out_new) (t : IsTrue old.told) where
  model_called : (why : ReadAnswer) → ModelExplains m old new why → code ≡ code_of (read_status why) → CompleteCallsFor (old.file m) (old.file p) code
  model_called (refused fault) x is = let h = x t in by_model (old.file m) (old.file p) h.bytes code h.read (inr (h.short, inl (fault, h.means, is)))
  model_called (missing file) x is = subst (λ f. CompleteCallsFor f (old.file p) code) (sym (x.2 t)) is
  model_called (unread file) x is = absurd (fine.read x.1)
  model_called (too_long file) x is = let h = x.2 t in by_model (old.file m) (old.file p) h.bytes code h.read (inl (h.long, is))

  table_called : (problem : Problem) (why : ReadAnswer) → FileExplains p old new why → code ≡ code_of (read_status why) → TableCallsFor problem (old.file p) code
  table_called problem (refused fault) x is = absurd x
  table_called problem (missing file) x is = subst (λ f. TableCallsFor problem f code) (sym (x.2 t)) is
  table_called problem (unread file) x is = absurd (fine.read x.1)
  table_called problem (too_long file) x is = let h = x.2 t in by_bytes problem (old.file p) h.bytes code h.read (inl (h.long, is))

  called_at : (q : List ℕ) (answer : CompleteAnswer) → CompleteExplains m p q old new answer → code ≡ code_of (complete_status answer) → CompleteCallsFor (old.file m) (old.file p) code
  called_at q (completed amount) x is =
      let (problem, model, (bytes, read, short, are)) = x.0 t in
      by_table m p code old problem model (by_bytes problem (old.file p) bytes code read (inr (short, inl (has_plan new.file q amount problem bytes are, is))))
  called_at q (unwritten file) x is = absurd (fine.written x.2)
  called_at q (broken rule) x is =
      let (problem, model, (bytes, read, short, are)) = x.0 t in
      by_table m p code old problem model (by_bytes problem (old.file p) bytes code read (inr (short, inr (inl (record { make = are.make; setup = are.setup; is = are.is; holds = are.holds.none }, is)))))
  called_at q (none (no_table fault)) x is =
      let (problem, model, (bytes, read, short, are)) = x.0 t in
      by_table m p code old problem model (by_bytes problem (old.file p) bytes code read (inr (short, inr (inr (fault, are, is)))))
  called_at q (none (no_input why)) x is =
      ⊎_elim
      (λ model. model_called why model is)
      (λ table. by_table m p code old table.0 (table.1 t) (table_called table.0 why table.2 is))
      x.0

-- ---- files that give nothing to go on with, and the number of an answer
stop_at : (m p q : List ℕ) (old new : Shelved) (line : List ℕ) (status : Status) (answer : CompleteAnswer) → CompleteExplains m p q old new answer → line ≡ complete_line answer → status ≡ complete_status answer → IsReading (code_of status) → SomeStop (complete_meaning m p q) old new line status
stop_at m p q old new line status (completed amount) x says ends r = absurd (omega (arith, ap code_of ends, r.low))
stop_at m p q old new line status (unwritten file) x says ends r = absurd (r.other (ap code_of ends))
stop_at m p q old new line status (broken rule) x says ends r = absurd (omega (arith, ap code_of ends, r.low))
stop_at m p q old new line status (none (no_table fault)) x says ends r = absurd (omega (arith, ap code_of ends, r.low))
stop_at m p q old new line status (none (no_input why)) x says ends r = record { why = why; cause = x.0; says = says; ends = ends }

answer_number : (answer : CompleteAnswer) → IsCommandNumber (code_of (complete_status answer))
answer_number (completed amount) = record { answers = record { unprinted = λ e. omega (arith, e); no_memory = λ e. omega (arith, e) }; command = λ e. omega (arith, e) }
answer_number (unwritten file) = record { answers = record { unprinted = λ e. omega (arith, e); no_memory = λ e. omega (arith, e) }; command = λ e. omega (arith, e) }
answer_number (broken rule) = record { answers = record { unprinted = λ e. omega (arith, e); no_memory = λ e. omega (arith, e) }; command = λ e. omega (arith, e) }
answer_number (none (no_table fault)) = record { answers = record { unprinted = λ e. omega (arith, e); no_memory = λ e. omega (arith, e) }; command = λ e. omega (arith, e) }
answer_number (none (no_input why)) = read_number why

-- ---- the command
pub complete_kept : (m p q : List ℕ) → IsCommand (complete_meaning m p q)
complete_kept m p q = record {
  kept = record {
    after = λ old new line status d. record {
      number = subst (λ e. IsAnswerNumber (code_of e)) (sym d.ends) (answer_number d.answer).answers;
      quiet = λ some one two other. quiet_at m p q (code_of status) old new d.answer d.why (ap code_of d.ends) some other;
      writes = (others_at m p q old new d.answer d.why).0;
      tells = (others_at m p q old new d.answer d.why).1;
      wrote = λ done. wrote_at m p q (code_of status) old new d.answer d.why (ap code_of d.ends) done;
      reads = λ e. absurd (cc e);
      idle = λ e. absurd (cc e);
      stops = λ r. inl (stop_at m p q old new line status d.answer d.why d.says d.ends r);
      calls = λ out_old out_new fine t. called_at m p (code_of status) old new out_old out_new fine t q d.answer d.why (ap code_of d.ends);
    };
    one = λ laws file s t a b. inl (complete_call (file m) (file p) s t a b);
    some = λ by file. complete_some by (file m) (file p);
  };
  command = λ old new line status d. subst (λ e. code_of e ≢ NO_COMMAND) (sym d.ends) (answer_number d.answer).command;
}

-- What `upgrade` leaves, by its answer.
use Rattle.std.proofs.Common.{◌≡◌, ◌≢◌, ◌∙◌, ⊎_elim, ℕ, List, [], ◌∷◌, Option, Some, IsTrue, inl, inr, refl, sym, ap, subst, arith}
use Rattle.std.specs.Prelude.{Bool, true, false, if◌then◌else◌, ℤ, pos, Result, Ok, Err, IfOk}
use Rattle.std.specs.declared.alloc.AllocError.{AllocError}
use Rattle.lot_io.specs.Outside.{GrewBy, OnlyReads, Printed, Shelved}
use Rattle.lot_sizing.specs.Problem.{Problem}
use Rattle.lot_draft.specs.declared.fault.Key.TheVariants as key
use Rattle.lot_draft.specs.declared.fault.Place.TheVariants as place
use Rattle.lot_draft.specs.Raw.{RawModel}
use Rattle.lot_draft.specs.Meaning.{natural}
use Rattle.lot_draft.specs.Refusals.{is_from}
use Rattle.lot_draft.specs.declared.fault.ModelCode.TheVariants as code
use Rattle.lot_draft.proofs.Limits.{whole}
use Rattle.instance_reader.specs.Model.{BytesMean, FirstVersionMeans}
use Rattle.instance_reader.specs.Document.{has_only}
use Rattle.instance_reader.specs.Reading.{Read, fault_at, needed_number, then_read, unknown_key}
use Rattle.instance_reader.specs.Tables.{body_read, root_keys, version_in}
use Rattle.lotplan.specs.Meaning.{Says}
use Rattle.lotplan.specs.declared.said.Said.{Said}
use Rattle.lotplan.specs.Status.{code_of}
use Rattle.lotplan.specs.Reading.{FirstExplains, HoldsFirst, HoldsProblem, ReadAnswer, refused, missing, unread, too_long, read_line, read_status}
use Rattle.lotplan.specs.Writing.{StartsAtMost, unwritten_line, written_line}
use Rattle.lotplan.specs.Upgrading.{UpgradeAnswer, written, unwritten, no_input, upgrade_line, upgrade_status, FailsToUpgrade, RewriteExplains, RewriteSays, UpgradeCallsFor, UpgradeExplains, Upgrades, upgrade_meaning}
use Rattle.lotplan.specs.Saying.{Gains, IsSaid}
use Rattle.lotplan.specs.Run.{HadNoFault}
use Rattle.lotplan.specs.declared.status.Status.{Status}
use Rattle.lotplan.specs.declared.status.TheConstants.{DONE, NO_COMMAND, UNWRITTEN}
use Rattle.lotplan.proofs.Kept.{IsCommand}
use Rattle.lotplan.proofs.Outputs.{IsAnswerNumber, IsCommandNumber, answered, read_number}
use Rattle.lotplan.proofs.Readings.{IsReading, SomeStop, reading}
use Rattle.lotplan.proofs.UpgradeCalls.{upgrade_some}
use Rattle.lotplan.proofs.UpgradeCalls.{upgrade_call as upgrade_call_one}
use Rattle.lotplan.proofs.Writings.{one_at_most, reads_at_most, starts_after}

-- ---- a model of the first version is a model
first_only : (x : ℤ) (b : Bool) (next : ℕ → Read RawModel) (m : RawModel) → is_from (pos 1) (pos 1) x ≡ b → then_read (if b then Ok (natural x) else Err (fault_at code.Version place.Root key.Version)) next ≡ Ok m → then_read (version_in 2 x) next ≡ Ok m
first_only x true next m from is =
    let w = whole 1 1 x from in
    let one : natural x ≡ 1 = omega (arith, w.high, w.low) in
    subst (λ y. then_read (version_in 2 y) next ≡ Ok m) (sym (w.is ∙ ap (λ (n : ℕ). pos n) one)) (subst (λ n. next n ≡ Ok m) one is)
first_only x false next m from is = absurd (cc is)

read_up : (r : Read ℤ) (next : ℕ → Read RawModel) (m : RawModel) → then_read (then_read r (version_in 1)) next ≡ Ok m → then_read (then_read r (version_in 2)) next ≡ Ok m
read_up (Ok x) next m is = first_only x (is_from (pos 1) (pos 1) x) next m refl is
read_up (Err f) next m is = absurd (cc is)

pub first_is_model : (bytes : List ℕ) (p : Problem) → FirstVersionMeans bytes (Ok p) → BytesMean bytes (Ok p)
first_is_model bytes p means = ⊎_elim
    (λ none. absurd (let is = none.1 in cc is))
    (λ some.
    let (t, is, problem) = some in
    inr (t, is, record { model = problem.model; is_read = read_up (needed_number place.Root key.Version t) (λ version. if has_only root_keys t then body_read version t else Err (unknown_key place.Root)) problem.model problem.is_read; means = problem.means }))
    means

holds_model : (m : List ℕ) (old : Shelved) (problem : Problem) → HoldsFirst old.file m problem → HoldsProblem old.file m problem
holds_model m old problem h = record { bytes = h.bytes; read = h.read; short = h.short; means = first_is_model h.bytes problem h.means }

-- ---- from the problem to the model file
upgrade_after : (m n : List ℕ) (problem : Problem) (old mid new : Shelved) (answer : UpgradeAnswer) → (IsTrue old.told → HoldsFirst old.file m problem) → OnlyReads old mid → RewriteExplains problem n mid new answer → UpgradeExplains m n old new answer
upgrade_after m n problem old mid new (written file) holds reads x = (
  x.0,
  λ t. record { problem = problem; first = holds t; holds = holds_model m old problem (holds t); writes = x.1 (subst IsTrue (sym reads.told) t) },
  starts_after (n ∷ []) 1 old mid new reads x.2,
)
upgrade_after m n problem old mid new (unwritten file) holds reads x =
    (x.0, λ t. (problem, holds t), omega (arith, x.1, reads.write_faults), starts_after (n ∷ []) 1 old mid new reads x.2)
upgrade_after m n problem old mid new (no_input why) holds reads x = absurd x

pub says_upgraded : (m n : List ℕ) (problem : Problem) (old mid new : Shelved) (r : Result Said AllocError) → (IsTrue old.told → HoldsFirst old.file m problem) → OnlyReads old mid → IfOk r (RewriteSays problem n mid new) → IfOk r (Says (upgrade_meaning m n) old new)
says_upgraded m n problem old mid new (Ok said) holds reads (answer, x, says) = answered UpgradeAnswer (UpgradeExplains m n old new) upgrade_line upgrade_status answer said (upgrade_after m n problem old mid new answer holds reads x) says
says_upgraded m n problem old mid new (Err e) holds reads some = tt

pub says_stop : (m n : List ℕ) (old new : Shelved) (why : ReadAnswer) (r : Result Said AllocError) → FirstExplains m old new why → OnlyReads old new → IfOk r (IsSaid (read_line why) (read_status why)) → IfOk r (Says (upgrade_meaning m n) old new)
says_stop m n old new why (Ok said) x reads says = answered UpgradeAnswer (UpgradeExplains m n old new) upgrade_line upgrade_status (no_input why) said (x, reads) says
says_stop m n old new why (Err e) x reads says = tt

-- ---- what each number says
pub upgraded_at : (m n : List ℕ) (code : ℕ) (old new : Shelved) (out_old out_new : Printed) (answer : UpgradeAnswer) → UpgradeExplains m n old new answer → code ≡ code_of (upgrade_status answer) → Gains (upgrade_line answer) out_old out_new → code ≡ DONE → IsTrue old.told → Upgrades old.file new.file m n out_old out_new
upgraded_at m n code old new out_old out_new (written file) x is line none t = record { holds = x.1 t; line = subst (λ f. Gains (written_line f) out_old out_new) x.0 line }
upgraded_at m n code old new out_old out_new (unwritten file) x is line none t = absurd (omega (arith, is, none))
upgraded_at m n code old new out_old out_new (no_input why) x is line none t = absurd (omega (arith, (reading why code is).low, none))

pub unwritten_at : (m n : List ℕ) (code : ℕ) (old new : Shelved) (out_old out_new : Printed) (answer : UpgradeAnswer) → UpgradeExplains m n old new answer → code ≡ code_of (upgrade_status answer) → Gains (upgrade_line answer) out_old out_new → code ≡ UNWRITTEN → FailsToUpgrade old new m n out_old out_new
unwritten_at m n code old new out_old out_new (written file) x is line eight = absurd (omega (arith, is, eight))
unwritten_at m n code old new out_old out_new (unwritten file) x is line eight = record {
  holds = x.1;
  failed = x.2;
  line = subst (λ f. Gains (unwritten_line f) out_old out_new) x.0 line;
}
unwritten_at m n code old new out_old out_new (no_input why) x is line eight = absurd ((reading why code is).other eight)

-- ---- what is written
pub quiet_at : (m n : List ℕ) (code : ℕ) (old new : Shelved) (answer : UpgradeAnswer) → UpgradeExplains m n old new answer → code ≡ code_of (upgrade_status answer) → code ≢ DONE → code ≢ UNWRITTEN → OnlyReads old new
quiet_at m n code old new (written file) x is some other = absurd (some is)
quiet_at m n code old new (unwritten file) x is some other = absurd (other is)
quiet_at m n code old new (no_input why) x is some other = x.1

wrote_at : (m n : List ℕ) (code : ℕ) (old new : Shelved) (answer : UpgradeAnswer) → UpgradeExplains m n old new answer → code ≡ code_of (upgrade_status answer) → code ≡ DONE → GrewBy 1 old.starts new.starts
wrote_at m n code old new (written file) x is none = x.2.starts
wrote_at m n code old new (unwritten file) x is none = absurd (omega (arith, is, none))
wrote_at m n code old new (no_input why) x is none = absurd (omega (arith, (reading why code is).low, none))

others_at : (m n : List ℕ) (old new : Shelved) (answer : UpgradeAnswer) → UpgradeExplains m n old new answer → StartsAtMost (n ∷ []) old new × (new.told ≡ old.told)
others_at m n old new (written file) x = (one_at_most n old new x.2, x.2.told)
others_at m n old new (unwritten file) x = (one_at_most n old new x.3, x.3.told)
others_at m n old new (no_input why) x = (reads_at_most (n ∷ []) old new x.1, x.1.told)

-- ---- what the model file calls for
upgrade_call : (found : Option (List ℕ)) (bytes : List ℕ) (code : ℕ) → found ≡ Some bytes → UpgradeCallsFor (Some bytes) code → UpgradeCallsFor found code
upgrade_call found bytes code same calls = subst (λ f. UpgradeCallsFor f code) (sym same) calls

stop_called : (m : List ℕ) (code : ℕ) (old new : Shelved) (out_old out_new : Printed) → HadNoFault old new out_old out_new → IsTrue old.told → (why : ReadAnswer) → FirstExplains m old new why → code ≡ code_of (read_status why) → UpgradeCallsFor (old.file m) code
stop_called m code old new out_old out_new fine t (refused fault) x is =
    let h = x t in
    upgrade_call (old.file m) h.bytes code h.read (inr (h.short, inl (fault, h.means, is)))
stop_called m code old new out_old out_new fine t (missing file) x is = subst (λ f. UpgradeCallsFor f code) (sym (x.2 t)) is
stop_called m code old new out_old out_new fine t (unread file) x is = absurd (fine.read x.1)
stop_called m code old new out_old out_new fine t (too_long file) x is =
    let h = x.2 t in
    upgrade_call (old.file m) h.bytes code h.read (inl (h.long, is))

pub called_at : (m n : List ℕ) (code : ℕ) (old new : Shelved) (out_old out_new : Printed) → HadNoFault old new out_old out_new → IsTrue old.told → (answer : UpgradeAnswer) → UpgradeExplains m n old new answer → code ≡ code_of (upgrade_status answer) → UpgradeCallsFor (old.file m) code
called_at m n code old new out_old out_new fine t (written file) x is =
    let h = x.1 t in
    let f = h.first in
    upgrade_call (old.file m) f.bytes code f.read (inr (f.short, inr (h.problem, f.means, is)))
called_at m n code old new out_old out_new fine t (unwritten file) x is = absurd (fine.written x.2)
called_at m n code old new out_old out_new fine t (no_input why) x is = stop_called m code old new out_old out_new fine t why x.0 is

-- ---- files that give nothing to go on with, and the number of an answer
stop_at : (m n : List ℕ) (old new : Shelved) (line : List ℕ) (status : Status) (answer : UpgradeAnswer) → UpgradeExplains m n old new answer → line ≡ upgrade_line answer → status ≡ upgrade_status answer → IsReading (code_of status) → SomeStop (upgrade_meaning m n) old new line status
stop_at m n old new line status (written file) x says ends r = absurd (omega (arith, ap code_of ends, r.low))
stop_at m n old new line status (unwritten file) x says ends r = absurd (r.other (ap code_of ends))
stop_at m n old new line status (no_input why) x says ends r = record { why = why; cause = x.0; says = says; ends = ends }

answer_number : (answer : UpgradeAnswer) → IsCommandNumber (code_of (upgrade_status answer))
answer_number (written file) = record { answers = record { unprinted = λ e. omega (arith, e); no_memory = λ e. omega (arith, e) }; command = λ e. omega (arith, e) }
answer_number (unwritten file) = record { answers = record { unprinted = λ e. omega (arith, e); no_memory = λ e. omega (arith, e) }; command = λ e. omega (arith, e) }
answer_number (no_input why) = read_number why

-- ---- the command
pub upgrade_kept : (m n : List ℕ) → IsCommand (upgrade_meaning m n)
upgrade_kept m n = record {
  kept = record {
    after = λ old new line status d. record {
      number = subst (λ s. IsAnswerNumber (code_of s)) (sym d.ends) (answer_number d.answer).answers;
      quiet = λ some one two other. quiet_at m n (code_of status) old new d.answer d.why (ap code_of d.ends) some other;
      writes = (others_at m n old new d.answer d.why).0;
      tells = (others_at m n old new d.answer d.why).1;
      wrote = λ none. wrote_at m n (code_of status) old new d.answer d.why (ap code_of d.ends) none;
      reads = λ e. absurd (cc e);
      idle = λ e. absurd (cc e);
      stops = λ r. inl (stop_at m n old new line status d.answer d.why d.says d.ends r);
      calls = λ out_old out_new fine t. called_at m n (code_of status) old new out_old out_new fine t d.answer d.why (ap code_of d.ends);
    };
    one = λ laws file s t a b. inl (upgrade_call_one (file m) s t a b);
    some = λ by file. upgrade_some by (file m);
  };
  command = λ old new line status d. subst (λ s. code_of s ≢ NO_COMMAND) (sym d.ends) (answer_number d.answer).command;
}

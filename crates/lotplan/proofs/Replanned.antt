-- What `replan` leaves, by its answer.
use Rattle.std.proofs.Common.{◌≡◌, ◌≢◌, ◌≤◌, ◌∙◌, ◌⊎◌, ⊎_elim, ℕ, List, [], ◌∷◌, length, Some, IsTrue, inl, inr, sym, ap, subst, arith}
use Rattle.std.specs.Prelude.{Result, Ok, Err, IfOk}
use Rattle.std.specs.declared.alloc.AllocError.{AllocError}
use Rattle.lot_io.specs.Outside.{Files, GrewBy, OnlyReads, Printed, Shelved}
use Rattle.lot_sizing.specs.Problem.{Problem}
use Rattle.lot_sizing.specs.Plan.{Plan}
use Rattle.plan_rules.specs.declared.plan.Plan.{Plan as Grids}
use Rattle.plan_rules.specs.Held.{plan_of}
use Rattle.cert_lines.specs.declared.parts.Claim.{Claim}
use Rattle.cert_lines.specs.declared.parts.Claim.TheVariants.{Optimal, Infeasible, Bound as BoundOf}
use Rattle.replan.specs.declared.found.Rest.{Rest}
use Rattle.lotplan.specs.Meaning.{Says}
use Rattle.lotplan.specs.declared.model_file.PlanStop.{PlanStop}
use Rattle.lotplan.specs.declared.model_file.PlanStop.TheVariants.{NoPlan, Answered, Memory}
use Rattle.lotplan.specs.declared.said.Said.{Said}
use Rattle.lotplan.specs.Status.{code_of}
use Rattle.lotplan.specs.Reading.{AreNoPlan, ExplainsPlanStop, FileExplains, HoldsProblem, ModelExplains, OfFile, ReadAnswer, refused, missing, unread, too_long, file_limit, read_meant, read_status}
use Rattle.lotplan.specs.Judging.{HoldsBoth}
use Rattle.lotplan.specs.Writing.{StartsAmong, StartsAtMost}
use Rattle.lotplan.specs.Finding.{only}
use Rattle.lotplan.specs.Planning.{HasNone, HasPlan, WritesFeasible, optimal, infeasible, between, above, unwritten}
use Rattle.lotplan.specs.Planning.{no_input as no_model}
use Rattle.lotplan.specs.Proving.{HoldsProof}
use Rattle.lotplan.specs.Replanning.{ReplanAnswer, searched, no_start, no_rest, no_plan, no_input, replan_line, replan_status, ExplainsGivenStop, FailsOn, FailsToReplan, FindsNoRest, FindsNoStart, FindsNoneLater, FindsPlanFault, GivenCallsFor, GoesOn, HasNoStart, HasRest, IsNoRest, IsRestMeant, LeavesRestOpen, OfPlan, OfRest, ReplanCallsFor, ReplanExplains, ReplansAbove, ReplansBest, ReplansBetween, ReplansInfeasible, ReplansOptimal, StartCallsFor, StartExplains, StartSays, replan_meaning}
use Rattle.lotplan.specs.Saying.{Gains, IsSaid}
use Rattle.lotplan.specs.Run.{HadNoFault}
use Rattle.lotplan.specs.declared.status.Status.{Status}
use Rattle.lotplan.specs.declared.status.TheConstants.{DONE, NO_PLAN, UNDECIDED, FAULTY, NO_COMMAND, UNWRITTEN, NO_REST}
use Rattle.lotplan.proofs.Kept.{IsCommand}
use Rattle.lotplan.proofs.Outputs.{IsAnswerNumber, IsCommandNumber, answered, read_number}
use Rattle.lotplan.proofs.Planned.{EndsSearch, SomeAccepted, low_ends, open_calls}
use Rattle.lotplan.proofs.Readings.{IsReading, SomeStop, reading, stops_after}
use Rattle.lotplan.proofs.ReplanCalls.{replan_call, replan_some}
use Rattle.lotplan.proofs.Writings.{all_of_three, ends_of_three, one_of_three, reads_at_most, starts_after, told_before, two_of_three}

-- ---- from the model and the plan to their files
-- files that give no plan
pub given_stop : (m p : List ℕ) (problem : Problem) (old mid new : Shelved) (stop : PlanStop) → (IsTrue old.told → HoldsProblem old.file m problem) → OnlyReads old mid → ExplainsPlanStop problem p mid new stop → ExplainsGivenStop m p old new stop
given_stop m p problem old mid new (NoPlan fault) holds reads x = λ t. (problem, holds t, subst (λ (f : Files). OfFile f p (λ bytes. AreNoPlan problem bytes fault)) reads.files (x (told_before reads t)))
given_stop m p problem old mid new (Answered why) holds reads x = inr (problem, holds, stops_after p old mid new (read_meant why) reads x)
given_stop m p problem old mid new Memory holds reads x = tt

-- what was read in two steps was only read
reads_both : (old mid new : Shelved) → OnlyReads old mid → OnlyReads mid new → OnlyReads old new
reads_both old mid new x y = record {
  told = y.told ∙ x.told;
  files = y.files ∙ x.files;
  starts = y.starts ∙ x.starts;
  appends = y.appends ∙ x.appends;
  write_faults = y.write_faults ∙ x.write_faults;
  faults = omega (arith, x.faults, y.faults);
  misses = omega (arith, x.misses, y.misses);
  given = omega (arith, x.given, y.given);
}

module _ (m p : List ℕ) (first : ℕ) (n q c : List ℕ) (budget : ℕ) (problem : Problem) (grids : Grids) (old mid new : Shelved) (holds : IsTrue old.told → HoldsBoth old.file m p problem grids) (reads : OnlyReads old mid) where
  abbrev OfThese : (Problem → Plan → Type 0) → Type 0
  OfThese P = IsTrue mid.told → P problem (plan_of grids)

  abbrev OfFiles : (Problem → Plan → Type 0) → Type 0
  OfFiles P = IsTrue old.told → OfPlan old.file m p P

  of_files : (P : Problem → Plan → Type 0) → OfThese P → OfFiles P
  of_files P x t =
      let h = holds t in
      (problem, h.model, (h.plan.bytes, h.plan.read, h.plan.short, record { plan = plan_of grids; is = h.plan.is; holds = x (told_before reads t) }))

  fails_after : (file : List ℕ) → FailsOn OfThese first n q c mid new file → FailsOn OfFiles first n q c old new file
  fails_after file x = ⊎_elim
      (λ one. inl (one.0, of_files (λ m p. HasRest m p first) one.1, starts_after (n ∷ []) 1 old mid new reads one.2))
      (λ more. inr (⊎_elim
      (λ two. inl (two.0, of_files (λ m p. OfRest new.file m p first n HasPlan) two.1, starts_after (n ∷ q ∷ []) 2 old mid new reads two.2))
      (λ last. inr (⊎_elim
      (λ all. inl (all.0, of_files (λ m p. OfRest new.file m p first n (λ rest. (amount : ℕ) × WritesFeasible new.file rest q amount)) all.1, starts_after (n ∷ q ∷ c ∷ []) 3 old mid new reads all.2))
      (λ ends. inr (ends.0, of_files (λ m p. OfRest new.file m p first n HasNone) ends.1, starts_after (n ∷ c ∷ []) 2 old mid new reads ends.2))
      last))
      more))
      x

  start_after : (answer : ReplanAnswer) → StartExplains OfThese first n q c budget mid new answer → ReplanExplains m p first n q c budget old new answer
  start_after (searched (optimal says nodes amount) spent) x = (of_files (λ m p. ReplansOptimal new.file m p first n q c budget says nodes amount spent) x.0, starts_after (n ∷ q ∷ c ∷ []) 3 old mid new reads x.1)
  start_after (searched (infeasible says nodes) spent) x = (of_files (λ m p. ReplansInfeasible old.file new.file m p first n q c budget says nodes) (subst (λ (f : Files). OfThese (λ m p. ReplansInfeasible f new.file m p first n q c budget says nodes)) reads.files x.0), starts_after (n ∷ c ∷ []) 2 old mid new reads x.1)
  start_after (searched (between says nodes bound amount) spent) x = (of_files (λ m p. ReplansBetween new.file m p first n q c budget says nodes bound amount spent) x.0, starts_after (n ∷ q ∷ c ∷ []) 3 old mid new reads x.1)
  start_after (searched (above says nodes bound) spent) x = (of_files (λ m p. ReplansAbove old.file new.file m p first n q c budget says nodes bound spent) (subst (λ (f : Files). OfThese (λ m p. ReplansAbove f new.file m p first n q c budget says nodes bound spent)) reads.files x.0), starts_after (n ∷ c ∷ []) 2 old mid new reads x.1)
  start_after (searched (unwritten file) spent) x = (omega (arith, x.0, reads.write_faults), fails_after file x.1)
  start_after (searched (no_model why) spent) x = absurd x
  start_after no_start x = (of_files (λ m p. HasNoStart m p first) x.0, reads_both old mid new reads x.1)
  start_after (no_rest fault) x = (of_files (λ m p. IsNoRest m p first fault) x.0, reads_both old mid new reads x.1)
  start_after (no_plan fault) x = absurd x
  start_after (no_input why) x = absurd x

  pub says_start : (r : Result Said AllocError) → IfOk r (StartSays problem (plan_of grids) first n q c budget mid new) → IfOk r (Says (replan_meaning m p first n q c budget) old new)
  says_start (Ok said) (answer, x, says) = answered ReplanAnswer (ReplanExplains m p first n q c budget old new) replan_line replan_status answer said (start_after answer x) says
  says_start (Err e) some = tt

pub says_other : (m p : List ℕ) (first : ℕ) (n q c : List ℕ) (budget : ℕ) (old new : Shelved) (answer : ReplanAnswer) (r : Result Said AllocError) → ReplanExplains m p first n q c budget old new answer → IfOk r (IsSaid (replan_line answer) (replan_status answer)) → IfOk r (Says (replan_meaning m p first n q c budget) old new)
says_other m p first n q c budget old new answer (Ok said) x says = answered ReplanAnswer (ReplanExplains m p first n q c budget old new) replan_line replan_status answer said x says
says_other m p first n q c budget old new answer (Err e) x says = tt

module _ (m p : List ℕ) (first : ℕ) (n q c : List ℕ) (budget code : ℕ) (old new : Shelved) where
  -- the answer explains the run
  abbrev Why : ReplanAnswer → Type 0
  Why answer = ReplanExplains m p first n q c budget old new answer

  -- ---- what each number says
  module _ (out_old out_new : Printed) where
    pub best_at : (answer : ReplanAnswer) → Why answer → code ≡ code_of (replan_status answer) → Gains (replan_line answer) out_old out_new → code ≡ DONE → IsTrue old.told → ReplansBest old.file new.file m p first n q c budget out_old out_new
    best_at (searched (optimal says nodes amount) spent) x is lines zero t = record { says = says; nodes = nodes; amount = amount; spent = spent; holds = x.0 t; lines = lines }
    best_at (searched (infeasible says nodes) spent) x is lines zero t = absurd (omega (arith, is, zero))
    best_at (searched (between says nodes bound amount) spent) x is lines zero t = absurd (omega (arith, is, zero))
    best_at (searched (above says nodes bound) spent) x is lines zero t = absurd (omega (arith, is, zero))
    best_at (searched (unwritten file) spent) x is lines zero t = absurd (omega (arith, is, zero))
    best_at (searched (no_model why) spent) x is lines zero t = absurd x
    best_at no_start x is lines zero t = absurd (omega (arith, is, zero))
    best_at (no_rest fault) x is lines zero t = absurd (omega (arith, is, zero))
    best_at (no_plan fault) x is lines zero t = absurd (omega (arith, is, zero))
    best_at (no_input why) x is lines zero t = absurd (omega (arith, (reading why code is).low, zero))

    -- no plan agrees, and what was written then
    abbrev pub FindsNone : Type 0
    FindsNone =
        (IsTrue old.told → FindsNoneLater old.file new.file m p first n q c budget out_old out_new ⊎ FindsNoStart old.file new.file m p first out_old out_new)
        × (StartsAmong (n ∷ c ∷ []) 2 old new ⊎ OnlyReads old new)

    pub none_at : (answer : ReplanAnswer) → Why answer → code ≡ code_of (replan_status answer) → Gains (replan_line answer) out_old out_new → code ≡ NO_PLAN → FindsNone
    none_at (searched (optimal says nodes amount) spent) x is lines one = absurd (omega (arith, is, one))
    none_at (searched (infeasible says nodes) spent) x is lines one = (λ t. inl (record { says = says; nodes = nodes; holds = x.0 t; lines = lines }), inl x.1)
    none_at (searched (between says nodes bound amount) spent) x is lines one = absurd (omega (arith, is, one))
    none_at (searched (above says nodes bound) spent) x is lines one = absurd (omega (arith, is, one))
    none_at (searched (unwritten file) spent) x is lines one = absurd (omega (arith, is, one))
    none_at (searched (no_model why) spent) x is lines one = absurd x
    none_at no_start x is lines one = (λ t. inr (record { holds = x.0 t; kept = x.1.files; line = lines }), inr x.1)
    none_at (no_rest fault) x is lines one = absurd (omega (arith, is, one))
    none_at (no_plan fault) x is lines one = absurd (omega (arith, is, one))
    none_at (no_input why) x is lines one = absurd (omega (arith, (reading why code is).low, one))

    -- the best cost was left open, and what was written then
    abbrev pub LeavesSome : Type 0
    LeavesSome = (IsTrue old.told → LeavesRestOpen old.file new.file m p first n q c budget out_old out_new) × (StartsAmong (n ∷ q ∷ c ∷ []) 3 old new ⊎ StartsAmong (n ∷ c ∷ []) 2 old new)

    pub open_at : (answer : ReplanAnswer) → Why answer → code ≡ code_of (replan_status answer) → Gains (replan_line answer) out_old out_new → code ≡ UNDECIDED → LeavesSome
    open_at (searched (optimal says nodes amount) spent) x is lines two = absurd (omega (arith, is, two))
    open_at (searched (infeasible says nodes) spent) x is lines two = absurd (omega (arith, is, two))
    open_at (searched (between says nodes bound amount) spent) x is lines two = (λ t. record { answer = between says nodes bound amount; spent = spent; holds = x.0 t; lines = lines }, inl x.1)
    open_at (searched (above says nodes bound) spent) x is lines two = (λ t. record { answer = above says nodes bound; spent = spent; holds = x.0 t; lines = lines }, inr x.1)
    open_at (searched (unwritten file) spent) x is lines two = absurd (omega (arith, is, two))
    open_at (searched (no_model why) spent) x is lines two = absurd x
    open_at no_start x is lines two = absurd (omega (arith, is, two))
    open_at (no_rest fault) x is lines two = absurd (omega (arith, is, two))
    open_at (no_plan fault) x is lines two = absurd (omega (arith, is, two))
    open_at (no_input why) x is lines two = absurd (omega (arith, (reading why code is).low, two))

    pub no_rest_at : (answer : ReplanAnswer) → Why answer → code ≡ code_of (replan_status answer) → Gains (replan_line answer) out_old out_new → code ≡ NO_REST → IsTrue old.told → FindsNoRest old.file m p first out_old out_new
    no_rest_at (searched (optimal says nodes amount) spent) x is line last t = absurd (omega (arith, is, last))
    no_rest_at (searched (infeasible says nodes) spent) x is line last t = absurd (omega (arith, is, last))
    no_rest_at (searched (between says nodes bound amount) spent) x is line last t = absurd (omega (arith, is, last))
    no_rest_at (searched (above says nodes bound) spent) x is line last t = absurd (omega (arith, is, last))
    no_rest_at (searched (unwritten file) spent) x is line last t = absurd (omega (arith, is, last))
    no_rest_at (searched (no_model why) spent) x is line last t = absurd x
    no_rest_at no_start x is line last t = absurd (omega (arith, is, last))
    no_rest_at (no_rest fault) x is line last t = record { what = fault; holds = x.0 t; line = line }
    no_rest_at (no_plan fault) x is line last t = absurd (omega (arith, is, last))
    no_rest_at (no_input why) x is line last t = absurd (omega (arith, (reading why code is).high, last))

    pub fault_at : (answer : ReplanAnswer) → Why answer → code ≡ code_of (replan_status answer) → Gains (replan_line answer) out_old out_new → code ≡ FAULTY → IsTrue old.told → FindsPlanFault old.file m p out_old out_new
    fault_at (searched (optimal says nodes amount) spent) x is line three t = absurd (omega (arith, is, three))
    fault_at (searched (infeasible says nodes) spent) x is line three t = absurd (omega (arith, is, three))
    fault_at (searched (between says nodes bound amount) spent) x is line three t = absurd (omega (arith, is, three))
    fault_at (searched (above says nodes bound) spent) x is line three t = absurd (omega (arith, is, three))
    fault_at (searched (unwritten file) spent) x is line three t = absurd (omega (arith, is, three))
    fault_at (searched (no_model why) spent) x is line three t = absurd x
    fault_at no_start x is line three t = absurd (omega (arith, is, three))
    fault_at (no_rest fault) x is line three t = absurd (omega (arith, is, three))
    fault_at (no_plan fault) x is line three t = record { what = fault; holds = x.0 t; line = line }
    fault_at (no_input why) x is line three t = absurd (omega (arith, (reading why code is).low, three))

    pub unwritten_at : (answer : ReplanAnswer) → Why answer → code ≡ code_of (replan_status answer) → Gains (replan_line answer) out_old out_new → code ≡ UNWRITTEN → FailsToReplan old new m p first n q c out_old out_new
    unwritten_at (searched (optimal says nodes amount) spent) x is line eight = absurd (omega (arith, is, eight))
    unwritten_at (searched (infeasible says nodes) spent) x is line eight = absurd (omega (arith, is, eight))
    unwritten_at (searched (between says nodes bound amount) spent) x is line eight = absurd (omega (arith, is, eight))
    unwritten_at (searched (above says nodes bound) spent) x is line eight = absurd (omega (arith, is, eight))
    unwritten_at (searched (unwritten file) spent) x is line eight = record { file = file; failed = x.0; left = x.1; line = line }
    unwritten_at (searched (no_model why) spent) x is line eight = absurd x
    unwritten_at no_start x is line eight = absurd (omega (arith, is, eight))
    unwritten_at (no_rest fault) x is line eight = absurd (omega (arith, is, eight))
    unwritten_at (no_plan fault) x is line eight = absurd (omega (arith, is, eight))
    unwritten_at (no_input why) x is line eight = absurd ((reading why code is).other eight)

  -- ---- what is written
  quiet_at : (answer : ReplanAnswer) → Why answer → code ≡ code_of (replan_status answer) → code ≢ DONE → code ≢ NO_PLAN → code ≢ UNDECIDED → code ≢ UNWRITTEN → OnlyReads old new
  quiet_at (searched (optimal says nodes amount) spent) x is some one two other = absurd (some is)
  quiet_at (searched (infeasible says nodes) spent) x is some one two other = absurd (one is)
  quiet_at (searched (between says nodes bound amount) spent) x is some one two other = absurd (two is)
  quiet_at (searched (above says nodes bound) spent) x is some one two other = absurd (two is)
  quiet_at (searched (unwritten file) spent) x is some one two other = absurd (other is)
  quiet_at (searched (no_model why) spent) x is some one two other = absurd x
  quiet_at no_start x is some one two other = x.1
  quiet_at (no_rest fault) x is some one two other = x.1
  quiet_at (no_plan fault) x is some one two other = x.1
  quiet_at (no_input why) x is some one two other = x.1

  -- what is left of the three files, and that as much is told
  abbrev Few : Type 0
  Few = StartsAtMost (n ∷ q ∷ c ∷ []) old new × (new.told ≡ old.told)

  few_all : StartsAmong (n ∷ q ∷ c ∷ []) 3 old new → Few
  few_all x = (all_of_three n q c old new x, x.told)

  few_ends : StartsAmong (n ∷ c ∷ []) 2 old new → Few
  few_ends x = (ends_of_three n q c old new x, x.told)

  few_reads : OnlyReads old new → Few
  few_reads x = (reads_at_most (n ∷ q ∷ c ∷ []) old new x, x.told)

  others_at : (answer : ReplanAnswer) → Why answer → Few
  others_at (searched (optimal says nodes amount) spent) x = few_all x.1
  others_at (searched (infeasible says nodes) spent) x = few_ends x.1
  others_at (searched (between says nodes bound amount) spent) x = few_all x.1
  others_at (searched (above says nodes bound) spent) x = few_ends x.1
  others_at (searched (unwritten file) spent) x = ⊎_elim (λ one. (one_of_three n q c old new one.2, one.2.told)) (λ more. ⊎_elim (λ two. (two_of_three n q c old new two.2, two.2.told)) (λ last. ⊎_elim (λ all. few_all all.2) (λ ends. few_ends ends.2) last) more) x.1
  others_at (searched (no_model why) spent) x = absurd x
  others_at no_start x = few_reads x.1
  others_at (no_rest fault) x = few_reads x.1
  others_at (no_plan fault) x = few_reads x.1
  others_at (no_input why) x = few_reads x.1

  wrote_at : (answer : ReplanAnswer) → Why answer → code ≡ code_of (replan_status answer) → code ≡ DONE → GrewBy 3 old.starts new.starts
  wrote_at (searched (optimal says nodes amount) spent) x is zero = x.1.starts
  wrote_at (searched (infeasible says nodes) spent) x is zero = absurd (omega (arith, is, zero))
  wrote_at (searched (between says nodes bound amount) spent) x is zero = absurd (omega (arith, is, zero))
  wrote_at (searched (above says nodes bound) spent) x is zero = absurd (omega (arith, is, zero))
  wrote_at (searched (unwritten file) spent) x is zero = absurd (omega (arith, is, zero))
  wrote_at (searched (no_model why) spent) x is zero = absurd x
  wrote_at no_start x is zero = absurd (omega (arith, is, zero))
  wrote_at (no_rest fault) x is zero = absurd (omega (arith, is, zero))
  wrote_at (no_plan fault) x is zero = absurd (omega (arith, is, zero))
  wrote_at (no_input why) x is zero = absurd (omega (arith, (reading why code is).low, zero))

  -- ---- what was written is accepted
  -- the certificate is, where the new model file isn't too long
  abbrev pub AcceptedIfShort : Type 0
  AcceptedIfShort = ((bytes : List ℕ) → new.file n ≡ Some bytes → length bytes ≤ file_limit) → SomeAccepted new.file n q c

  accepts : (problem : Problem) (plan : Plan) (rest : Rest) (claim : Claim) → GoesOn new.file problem plan first n rest → HoldsProof new.file q c rest.instance claim → AcceptedIfShort
  accepts problem plan rest claim goes proof short =
      let w = goes.written in
      (claim, (rest.instance, record { bytes = w.bytes; read = w.written; short = short w.bytes w.written; means = w.means }, proof))

  pub accepted_at : (answer : ReplanAnswer) → Why answer → code ≡ code_of (replan_status answer) → IsTrue old.told → EndsSearch code → AcceptedIfShort ⊎ ((code ≡ NO_PLAN) × OnlyReads old new)
  accepted_at (searched (optimal says nodes amount) spent) x is t done =
      let f = x.0 t in
      let are = f.2.3 in
      let w = are.holds in
      inl (accepts f.0 are.plan w.rest (Optimal amount) w.goes_on w.later.proof.proof)
  accepted_at (searched (infeasible says nodes) spent) x is t done =
      let f = x.0 t in
      let are = f.2.3 in
      let w = are.holds in
      inl (accepts f.0 are.plan w.rest Infeasible w.goes_on w.later.proof.proof)
  accepted_at (searched (between says nodes bound amount) spent) x is t done =
      let f = x.0 t in
      let are = f.2.3 in
      let w = are.holds in
      inl (accepts f.0 are.plan w.rest (BoundOf bound) w.goes_on w.later.proof.proof)
  accepted_at (searched (above says nodes bound) spent) x is t done =
      let f = x.0 t in
      let are = f.2.3 in
      let w = are.holds in
      inl (accepts f.0 are.plan w.rest (BoundOf bound) w.goes_on w.later.proof.proof)
  accepted_at (searched (unwritten file) spent) x is t done = absurd (low_ends code (omega (arith, is)) done)
  accepted_at (searched (no_model why) spent) x is t done = absurd x
  accepted_at no_start x is t done = inr (is, x.1)
  accepted_at (no_rest fault) x is t done = absurd (low_ends code (omega (arith, is)) done)
  accepted_at (no_plan fault) x is t done = absurd (low_ends code (omega (arith, is)) done)
  accepted_at (no_input why) x is t done =
      let r = reading why code is in
      absurd (low_ends code (omega (arith, r.low)) done)

  -- ---- what the two files call for
  by_bytes : (bytes : List ℕ) → old.file m ≡ Some bytes → ReplanCallsFor first budget (Some bytes) (old.file p) code → ReplanCallsFor first budget (old.file m) (old.file p) code
  by_bytes bytes same calls = subst (λ f. ReplanCallsFor first budget f (old.file p) code) (sym same) calls

  by_plan : (problem : Problem) → HoldsProblem old.file m problem → GivenCallsFor problem first budget (old.file p) code → ReplanCallsFor first budget (old.file m) (old.file p) code
  by_plan problem h calls = by_bytes h.bytes h.read (inr (h.short, inr (problem, h.means, calls)))

  by_records : (problem : Problem) (records : List ℕ) → old.file p ≡ Some records → GivenCallsFor problem first budget (Some records) code → GivenCallsFor problem first budget (old.file p) code
  by_records problem records same calls = subst (λ f. GivenCallsFor problem first budget f code) (sym same) calls

  by_start : (P : Problem → Plan → Type 0) → OfPlan old.file m p P → ((problem : Problem) (plan : Plan) → P problem plan → StartCallsFor problem plan first budget code) → ReplanCallsFor first budget (old.file m) (old.file p) code
  by_start P f calls =
      let are = f.2.3 in
      by_plan f.0 f.1 (by_records f.0 f.2.0 f.2.1 (inr (f.2.2, inr (are.plan, are.is, calls f.0 are.plan are.holds))))

  meant : (after : Files) (problem : Problem) (plan : Plan) (rest : Rest) → GoesOn after problem plan first n rest → IsRestMeant problem plan first rest.instance
  meant after problem plan rest g = record { leaves = g.is.may; means = g.is.means }

  module _ (out_old out_new : Printed) (fine : HadNoFault old new out_old out_new) (t : IsTrue old.told) where
    model_called : (why : ReadAnswer) → ModelExplains m old new why → code ≡ code_of (read_status why) → ReplanCallsFor first budget (old.file m) (old.file p) code
    model_called (refused fault) x is = let h = x t in by_bytes h.bytes h.read (inr (h.short, inl (fault, h.means, is)))
    model_called (missing file) x is = subst (λ f. ReplanCallsFor first budget f (old.file p) code) (sym (x.2 t)) is
    model_called (unread file) x is = absurd (fine.read x.1)
    model_called (too_long file) x is = let h = x.2 t in by_bytes h.bytes h.read (inl (h.long, is))

    plan_called : (problem : Problem) (why : ReadAnswer) → FileExplains p old new why → code ≡ code_of (read_status why) → GivenCallsFor problem first budget (old.file p) code
    plan_called problem (refused fault) x is = absurd x
    plan_called problem (missing file) x is = subst (λ f. GivenCallsFor problem first budget f code) (sym (x.2 t)) is
    plan_called problem (unread file) x is = absurd (fine.read x.1)
    plan_called problem (too_long file) x is = let h = x.2 t in by_records problem h.bytes h.read (inl (h.long, is))

    called_at : (answer : ReplanAnswer) → Why answer → code ≡ code_of (replan_status answer) → ReplanCallsFor first budget (old.file m) (old.file p) code
    called_at (searched (optimal says nodes amount) spent) x is = by_start (λ m p. ReplansOptimal new.file m p first n q c budget says nodes amount spent) (x.0 t) (λ problem plan w. inr (inr (w.rest.instance, meant new.file problem plan w.rest w.goes_on, inl (is, w.later.best.chosen, w.later.best.best.feasible))))
    called_at (searched (infeasible says nodes) spent) x is = by_start (λ m p. ReplansInfeasible old.file new.file m p first n q c budget says nodes) (x.0 t) (λ problem plan w. inr (inr (w.rest.instance, meant new.file problem plan w.rest w.goes_on, inr (inl (is, w.later.impossible)))))
    called_at (searched (between says nodes bound amount) spent) x is = by_start (λ m p. ReplansBetween new.file m p first n q c budget says nodes bound amount spent) (x.0 t) (λ problem plan w. let s = w.later.shows in inr (inr (w.rest.instance, meant new.file problem plan w.rest w.goes_on, inr (inr (is, open_calls w.rest.instance (only budget) bound s.found s.is s.claims)))))
    called_at (searched (above says nodes bound) spent) x is = by_start (λ m p. ReplansAbove old.file new.file m p first n q c budget says nodes bound spent) (x.0 t) (λ problem plan w. let s = w.later.shows in inr (inr (w.rest.instance, meant new.file problem plan w.rest w.goes_on, inr (inr (is, open_calls w.rest.instance (only budget) bound s.found s.is s.claims)))))
    called_at (searched (unwritten file) spent) x is = absurd (fine.written x.0)
    called_at (searched (no_model why) spent) x is = absurd x
    called_at no_start x is = by_start (λ m p. HasNoStart m p first) (x.0 t) (λ problem plan w. inr (inl (w.may, w.falls, is)))
    called_at (no_rest fault) x is = by_start (λ m p. IsNoRest m p first fault) (x.0 t) (λ problem plan w. inl (fault, w, is))
    called_at (no_plan fault) x is = let f = x.0 t in by_plan f.0 f.1 (by_records f.0 f.2.0 f.2.1 (inr (f.2.2, inl (fault, f.2.3, is))))
    called_at (no_input why) x is = ⊎_elim (λ model. model_called why model is) (λ plan. by_plan plan.0 (plan.1 t) (plan_called plan.0 why plan.2 is)) x.0

-- ---- files that give nothing to go on with, and the number of an answer
stop_at : (m p : List ℕ) (first : ℕ) (n q c : List ℕ) (budget : ℕ) (old new : Shelved) (line : List ℕ) (status : Status) (answer : ReplanAnswer) → ReplanExplains m p first n q c budget old new answer → line ≡ replan_line answer → status ≡ replan_status answer → IsReading (code_of status) → SomeStop (replan_meaning m p first n q c budget) old new line status
stop_at m p first n q c budget old new line status (searched (optimal says nodes amount) spent) x says_line ends r = absurd (omega (arith, ap code_of ends, r.low))
stop_at m p first n q c budget old new line status (searched (infeasible says nodes) spent) x says_line ends r = absurd (omega (arith, ap code_of ends, r.low))
stop_at m p first n q c budget old new line status (searched (between says nodes bound amount) spent) x says_line ends r = absurd (omega (arith, ap code_of ends, r.low))
stop_at m p first n q c budget old new line status (searched (above says nodes bound) spent) x says_line ends r = absurd (omega (arith, ap code_of ends, r.low))
stop_at m p first n q c budget old new line status (searched (unwritten file) spent) x says_line ends r = absurd (r.other (ap code_of ends))
stop_at m p first n q c budget old new line status (searched (no_model why) spent) x says_line ends r = absurd x
stop_at m p first n q c budget old new line status no_start x says_line ends r = absurd (omega (arith, ap code_of ends, r.low))
stop_at m p first n q c budget old new line status (no_rest fault) x says_line ends r = absurd (omega (arith, ap code_of ends, r.high))
stop_at m p first n q c budget old new line status (no_plan fault) x says_line ends r = absurd (omega (arith, ap code_of ends, r.low))
stop_at m p first n q c budget old new line status (no_input why) x says_line ends r = record { why = why; cause = x.0; says = says_line; ends = ends }

answer_number : (answer : ReplanAnswer) → IsCommandNumber (code_of (replan_status answer))
answer_number (searched (optimal says nodes amount) spent) = record { answers = record { unprinted = λ e. omega (arith, e); no_memory = λ e. omega (arith, e) }; command = λ e. omega (arith, e) }
answer_number (searched (infeasible says nodes) spent) = record { answers = record { unprinted = λ e. omega (arith, e); no_memory = λ e. omega (arith, e) }; command = λ e. omega (arith, e) }
answer_number (searched (between says nodes bound amount) spent) = record { answers = record { unprinted = λ e. omega (arith, e); no_memory = λ e. omega (arith, e) }; command = λ e. omega (arith, e) }
answer_number (searched (above says nodes bound) spent) = record { answers = record { unprinted = λ e. omega (arith, e); no_memory = λ e. omega (arith, e) }; command = λ e. omega (arith, e) }
answer_number (searched (unwritten file) spent) = record { answers = record { unprinted = λ e. omega (arith, e); no_memory = λ e. omega (arith, e) }; command = λ e. omega (arith, e) }
answer_number (searched (no_model why) spent) = read_number why
answer_number no_start = record { answers = record { unprinted = λ e. omega (arith, e); no_memory = λ e. omega (arith, e) }; command = λ e. omega (arith, e) }
answer_number (no_rest fault) = record { answers = record { unprinted = λ e. omega (arith, e); no_memory = λ e. omega (arith, e) }; command = λ e. omega (arith, e) }
answer_number (no_plan fault) = record { answers = record { unprinted = λ e. omega (arith, e); no_memory = λ e. omega (arith, e) }; command = λ e. omega (arith, e) }
answer_number (no_input why) = read_number why

-- ---- the command
pub replan_kept : (m p : List ℕ) (first : ℕ) (n q c : List ℕ) (budget : ℕ) → IsCommand (replan_meaning m p first n q c budget)
replan_kept m p first n q c budget = record {
  kept = record {
    after = λ old new line status d. record {
      number = subst (λ s. IsAnswerNumber (code_of s)) (sym d.ends) (answer_number d.answer).answers;
      quiet = λ some one two other. quiet_at m p first n q c budget (code_of status) old new d.answer d.why (ap code_of d.ends) some one two other;
      writes = (others_at m p first n q c budget (code_of status) old new d.answer d.why).0;
      tells = (others_at m p first n q c budget (code_of status) old new d.answer d.why).1;
      wrote = λ zero. wrote_at m p first n q c budget (code_of status) old new d.answer d.why (ap code_of d.ends) zero;
      reads = λ e. absurd (cc e);
      idle = λ e. absurd (cc e);
      stops = λ r. inl (stop_at m p first n q c budget old new line status d.answer d.why d.says d.ends r);
      calls = λ out_old out_new fine t. called_at m p first n q c budget (code_of status) old new out_old out_new fine t d.answer d.why (ap code_of d.ends);
    };
    one = λ laws file s t a b. replan_call laws first budget (file m) (file p) s t a b;
    some = λ by file. replan_some by first budget (file m) (file p);
  };
  command = λ old new line status d. subst (λ s. code_of s ≢ NO_COMMAND) (sym d.ends) (answer_number d.answer).command;
}

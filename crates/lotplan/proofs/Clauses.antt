-- What a command's number says, in the command's own words.
use Rattle.std.proofs.Common.{◌≡◌, ◌≢◌, ◌<◌, ◌⊎◌, ⊎_elim, ℕ, List, [], ◌∷◌, Option, Some, IsTrue, inl, inr, refl, subst, arith}
use Rattle.lot_io.specs.Outside.{OnlyReads, Printed, Shelved}
use Rattle.command_line.specs.Words.{Request, Search, IsAllowed, planning, judging, checking, reporting, generating, demonstrating, upgrading, bounding, scheduling, schedule_checking, pegging, completing, drawing, replanning}
use Rattle.lotplan.specs.Writing.{StartsAmong}
use Rattle.lotplan.specs.Planning.{FailsToWrite, FindsNoPlan, FindsStartFault, KeepsStart, LeavesOpen, OutcomeExplains, PlanOutcome, PlansBest, outcome_line, outcome_status}
use Rattle.lotplan.specs.Judging.{FindsFault, FindsFeasible, JudgeAnswer, JudgeExplains, judge_line, judge_status}
use Rattle.lotplan.specs.Checking.{Accepts, AcceptsCertificate, CallsForDone, CheckAnswer, CheckCallsFor, CheckExplains, FindsRefused, check_line, check_status}
use Rattle.lotplan.specs.Upgrading.{FailsToUpgrade, UpgradeAnswer, UpgradeExplains, Upgrades, upgrade_line, upgrade_status}
use Rattle.lotplan.specs.Bounding.{BoundAnswer, BoundExplains, FindsBound, FindsNoBound, FindsNoPoint, bound_line, bound_status}
use Rattle.command_line.specs.declared.commands.ReportForm.{ReportForm}
use Rattle.lotplan.specs.Reporting.{ReportAnswer, ReportExplains, SumsUp, report_line, report_status}
use Rattle.lotplan.specs.Generating.{FailsToGenerate, GenerateAnswer, GenerateExplains, Generates, generate_line, generate_status}
use Rattle.lotplan.specs.Showing.{Shows}
use Rattle.lotplan.specs.Extracting.{ExtractAnswer, ExtractExplains, FailsToExtract, WritesExtract, extract_line, extract_status}
use Rattle.lotplan.specs.Scheduling.{AcceptsSchedule, FindsSlotsFault, Laid, SchedcheckAnswer, SchedcheckExplains, schedcheck_line, schedcheck_status, scheduled_word}
use Rattle.lotplan.specs.Pegging.{Pegged, pegged_word}
use Rattle.lotplan.specs.Completing.{CompleteAnswer, CompleteExplains, Completes, FailsToComplete, FindsIncomplete, FindsNoTable, complete_line, complete_status}
use Rattle.lotplan.specs.Drawing.{DrawAnswer, DrawExplains, Draws, FailsToDraw, FindsDrawFault, draw_line, draw_status}
use Rattle.lotplan.specs.Replanning.{CallsForDoneIfShort, FailsToReplan, FindsNoRest, FindsPlanFault, ReplanAnswer, ReplanExplains, ReplansBest, FindsNoneLater, FindsNoStart, LeavesRestOpen, replan_line, replan_status}
use Rattle.lotplan.specs.Laws.{StatusesAreOne}
use Rattle.lotplan.specs.Saying.{Answered, Gains}
use Rattle.lotplan.specs.Status.{code_of}
use Rattle.lotplan.specs.Run.{Does, EndsAs, IsProgramRun}
use Rattle.lotplan.specs.declared.status.Status.{Status}
use Rattle.lotplan.specs.declared.status.TheConstants.{DONE, NO_PLAN, UNDECIDED, FAULTY, UNWRITTEN, UNPRINTED, NO_MEMORY, NO_REST}
use Rattle.lotplan.proofs.Explained.{ended}
use Rattle.lotplan.proofs.Outputs.{line_is, number_is}
use Rattle.lotplan.proofs.Planned as of_planned
use Rattle.lotplan.proofs.Planned.{EndsSearch, SomeAccepted}
use Rattle.lotplan.proofs.Judged as of_judged
use Rattle.lotplan.proofs.Checked as of_checked
use Rattle.lotplan.proofs.Upgraded as of_upgraded
use Rattle.lotplan.proofs.Bounded as of_bounded
use Rattle.lotplan.proofs.Reported as of_reported
use Rattle.lotplan.proofs.Generated as of_generated
use Rattle.lotplan.proofs.Extracted.{fault_at, unwritten_at, written_at}
use Rattle.lotplan.proofs.Completed as of_completed
use Rattle.lotplan.proofs.Schedchecked as of_schedchecked
use Rattle.lotplan.proofs.Paged as of_paged
use Rattle.lotplan.proofs.Replanned as of_replanned

module _ (request : Option Request) (code : ℕ) (old new : Shelved) (out_old out_new : Printed) where
  -- an answer, its cause, its number and its line
  abbrev Ending : (A : Type 0) → (A → Type 0) → (A → List ℕ) → (A → Status) → Type 0
  Ending A Why line_of status_of = (answer : A) × Why answer × (code ≡ code_of (status_of answer)) × Gains (line_of answer) out_old out_new

  ending : (A : Type 0) (Why : A → Type 0) (line_of : A → List ℕ) (status_of : A → Status) → ((line : List ℕ) (status : Status) → Does request old new line status → Answered A Why line_of status_of line status) → EndsAs request code old new out_old out_new → Ending A Why line_of status_of
  ending A Why line_of status_of to e =
      let d = to e.line e.status e.does in
      (d.answer, d.why, number_is A Why line_of status_of e.line e.status code d e.number, line_is A Why line_of status_of e.line e.status out_old out_new d e.gains)

  plan_ending : (m p c : List ℕ) (search : Search) → request ≡ Some (planning m p c search) → EndsAs request code old new out_old out_new → Ending PlanOutcome (OutcomeExplains m p c search old new) outcome_line outcome_status
  plan_ending m p c search is e = ending PlanOutcome (OutcomeExplains m p c search old new) outcome_line outcome_status (λ line status d. subst (λ r. Does r old new line status) is d) e

  judge_ending : (m p : List ℕ) → request ≡ Some (judging m p) → EndsAs request code old new out_old out_new → Ending JudgeAnswer (λ answer. JudgeExplains m p old new answer × OnlyReads old new) judge_line judge_status
  judge_ending m p is e = ending JudgeAnswer (λ answer. JudgeExplains m p old new answer × OnlyReads old new) judge_line judge_status (λ line status d. subst (λ r. Does r old new line status) is d) e

  check_ending : (m p c : List ℕ) → request ≡ Some (checking m p c) → EndsAs request code old new out_old out_new → Ending CheckAnswer (λ answer. CheckExplains m p c old new answer × OnlyReads old new) check_line check_status
  check_ending m p c is e = ending CheckAnswer (λ answer. CheckExplains m p c old new answer × OnlyReads old new) check_line check_status (λ line status d. subst (λ r. Does r old new line status) is d) e

  report_ending : (m p : List ℕ) (form : ReportForm) → request ≡ Some (reporting m p form) → EndsAs request code old new out_old out_new → Ending ReportAnswer (λ answer. ReportExplains m p form old new answer × OnlyReads old new) report_line report_status
  report_ending m p form is e = ending ReportAnswer (λ answer. ReportExplains m p form old new answer × OnlyReads old new) report_line report_status (λ line status d. subst (λ r. Does r old new line status) is d) e

  generate_ending : (seed items periods : ℕ) (m : List ℕ) → request ≡ Some (generating seed items periods m) → EndsAs request code old new out_old out_new → Ending GenerateAnswer (GenerateExplains seed items periods m old new) generate_line generate_status
  generate_ending seed items periods m is e = ending GenerateAnswer (GenerateExplains seed items periods m old new) generate_line generate_status (λ line status d. subst (λ r. Does r old new line status) is d) e

  upgrade_ending : (m n : List ℕ) → request ≡ Some (upgrading m n) → EndsAs request code old new out_old out_new → Ending UpgradeAnswer (UpgradeExplains m n old new) upgrade_line upgrade_status
  upgrade_ending m n is e = ending UpgradeAnswer (UpgradeExplains m n old new) upgrade_line upgrade_status (λ line status d. subst (λ r. Does r old new line status) is d) e

  bound_ending : (m : List ℕ) → request ≡ Some (bounding m) → EndsAs request code old new out_old out_new → Ending BoundAnswer (λ answer. BoundExplains m old new answer × OnlyReads old new) bound_line bound_status
  bound_ending m is e = ending BoundAnswer (λ answer. BoundExplains m old new answer × OnlyReads old new) bound_line bound_status (λ line status d. subst (λ r. Does r old new line status) is d) e

  schedule_ending : (m p s : List ℕ) → request ≡ Some (scheduling m p s) → EndsAs request code old new out_old out_new → Ending ExtractAnswer (ExtractExplains (Laid s) m p s old new) (extract_line scheduled_word) extract_status
  schedule_ending m p s is e = ending ExtractAnswer (ExtractExplains (Laid s) m p s old new) (extract_line scheduled_word) extract_status (λ line status d. subst (λ r. Does r old new line status) is d) e

  schedcheck_ending : (m p s : List ℕ) → request ≡ Some (schedule_checking m p s) → EndsAs request code old new out_old out_new → Ending SchedcheckAnswer (λ answer. SchedcheckExplains m p s old new answer × OnlyReads old new) schedcheck_line schedcheck_status
  schedcheck_ending m p s is e = ending SchedcheckAnswer (λ answer. SchedcheckExplains m p s old new answer × OnlyReads old new) schedcheck_line schedcheck_status (λ line status d. subst (λ r. Does r old new line status) is d) e

  complete_ending : (m p q : List ℕ) → request ≡ Some (completing m p q) → EndsAs request code old new out_old out_new → Ending CompleteAnswer (CompleteExplains m p q old new) complete_line complete_status
  complete_ending m p q is e = ending CompleteAnswer (CompleteExplains m p q old new) complete_line complete_status (λ line status d. subst (λ r. Does r old new line status) is d) e

  peg_ending : (m p q : List ℕ) → request ≡ Some (pegging m p q) → EndsAs request code old new out_old out_new → Ending ExtractAnswer (ExtractExplains (Pegged q) m p q old new) (extract_line pegged_word) extract_status
  peg_ending m p q is e = ending ExtractAnswer (ExtractExplains (Pegged q) m p q old new) (extract_line pegged_word) extract_status (λ line status d. subst (λ r. Does r old new line status) is d) e

  draw_ending : (m p h : List ℕ) (c : Option (List ℕ)) → request ≡ Some (drawing m p h c) → EndsAs request code old new out_old out_new → Ending DrawAnswer (DrawExplains m p h c old new) draw_line draw_status
  draw_ending m p h c is e = ending DrawAnswer (DrawExplains m p h c old new) draw_line draw_status (λ line status d. subst (λ r. Does r old new line status) is d) e

  replan_ending : (m p : List ℕ) (first : ℕ) (n q c : List ℕ) (budget : ℕ) → request ≡ Some (replanning m p first n q c budget) → EndsAs request code old new out_old out_new → Ending ReplanAnswer (ReplanExplains m p first n q c budget old new) replan_line replan_status
  replan_ending m p first n q c budget is e = ending ReplanAnswer (ReplanExplains m p first n q c budget old new) replan_line replan_status (λ line status d. subst (λ r. Does r old new line status) is d) e

  module _ (run : IsProgramRun request code old new out_old out_new) where
    -- ---- `plan`
    pub optimal : (m p c : List ℕ) (search : Search) → request ≡ Some (planning m p c search) → code ≡ DONE → IsTrue old.told → PlansBest old.file new.file m p c search out_old out_new
    optimal m p c search is is_code t =
        let (answer, why, number, line) = plan_ending m p c search is (ended request code old new out_old out_new run (λ e. omega (arith, e, is_code)) (λ e. omega (arith, e, is_code))) in
        of_planned.optimal_of m p c search code old new out_old out_new answer why number line is_code t

    pub plan_infeasible : (m p c : List ℕ) (search : Search) → request ≡ Some (planning m p c search) → code ≡ NO_PLAN → IsTrue old.told → FindsNoPlan old.file new.file m p c search out_old out_new
    plan_infeasible m p c search is is_code t =
        let (answer, why, number, line) = plan_ending m p c search is (ended request code old new out_old out_new run (λ e. omega (arith, e, is_code)) (λ e. omega (arith, e, is_code))) in
        (of_planned.impossible_of m p c search code old new out_old out_new answer why number line is_code).0 t

    pub wrote_certificate : (m p c : List ℕ) (search : Search) → request ≡ Some (planning m p c search) → code ≡ NO_PLAN → StartsAmong (c ∷ []) 1 old new
    wrote_certificate m p c search is is_code =
        let (answer, why, number, line) = plan_ending m p c search is (ended request code old new out_old out_new run (λ e. omega (arith, e, is_code)) (λ e. omega (arith, e, is_code))) in
        (of_planned.impossible_of m p c search code old new out_old out_new answer why number line is_code).1

    pub plan_undecided : (m p c : List ℕ) (search : Search) → request ≡ Some (planning m p c search) → code ≡ UNDECIDED → IsTrue old.told → LeavesOpen old.file new.file m p c search out_old out_new
    plan_undecided m p c search is is_code t =
        let (answer, why, number, line) = plan_ending m p c search is (ended request code old new out_old out_new run (λ e. omega (arith, e, is_code)) (λ e. omega (arith, e, is_code))) in
        (of_planned.open_of m p c search code old new out_old out_new answer why number line is_code).0 t

    pub wrote_some : (m p c : List ℕ) (search : Search) → request ≡ Some (planning m p c search) → code ≡ UNDECIDED → StartsAmong (p ∷ c ∷ []) 2 old new ⊎ StartsAmong (c ∷ []) 1 old new
    wrote_some m p c search is is_code =
        let (answer, why, number, line) = plan_ending m p c search is (ended request code old new out_old out_new run (λ e. omega (arith, e, is_code)) (λ e. omega (arith, e, is_code))) in
        (of_planned.open_of m p c search code old new out_old out_new answer why number line is_code).1

    pub plan_unwritten : (m p c : List ℕ) (search : Search) → request ≡ Some (planning m p c search) → code ≡ UNWRITTEN → FailsToWrite old new m p c out_old out_new
    plan_unwritten m p c search is is_code =
        let (answer, why, number, line) = plan_ending m p c search is (ended request code old new out_old out_new run (λ e. omega (arith, e, is_code)) (λ e. omega (arith, e, is_code))) in
        of_planned.unwritten_of m p c search code old new out_old out_new answer why number line is_code

    pub plan_kept : (m p c start : List ℕ) (search : Search) → request ≡ Some (planning m p c search) → search.start ≡ Some start → (code ≡ DONE) ⊎ (code ≡ UNDECIDED) → IsTrue old.told → KeepsStart old.file new.file m p start
    plan_kept m p c start search is named done t =
        let (answer, why, number, line) = plan_ending m p c search is (ended request code old new out_old out_new run (λ e. ⊎_elim (λ d. omega (arith, e, d)) (λ d. omega (arith, e, d)) done) (λ e. ⊎_elim (λ d. omega (arith, e, d)) (λ d. omega (arith, e, d)) done)) in
        of_planned.kept_of m p c search start named code old new t answer why number done

    pub plan_faulty : (m p c : List ℕ) (search : Search) → request ≡ Some (planning m p c search) → code ≡ FAULTY → IsTrue old.told → FindsStartFault old.file m search out_old out_new
    plan_faulty m p c search is is_code t =
        let (answer, why, number, line) = plan_ending m p c search is (ended request code old new out_old out_new run (λ e. omega (arith, e, is_code)) (λ e. omega (arith, e, is_code))) in
        of_planned.faulty_of m p c search code old new out_old out_new answer why number line is_code t

    -- ---- `judge`
    pub judged : (m p : List ℕ) → request ≡ Some (judging m p) → code ≡ DONE → IsTrue old.told → FindsFeasible old.file m p out_old out_new
    judged m p is is_code t =
        let (answer, why, number, line) = judge_ending m p is (ended request code old new out_old out_new run (λ e. omega (arith, e, is_code)) (λ e. omega (arith, e, is_code))) in
        of_judged.feasible_at m p code old new out_old out_new answer why.0 number line is_code t

    pub judge_faulty : (m p : List ℕ) → request ≡ Some (judging m p) → code ≡ FAULTY → IsTrue old.told → FindsFault old.file m p out_old out_new
    judge_faulty m p is is_code t =
        let (answer, why, number, line) = judge_ending m p is (ended request code old new out_old out_new run (λ e. omega (arith, e, is_code)) (λ e. omega (arith, e, is_code))) in
        of_judged.fault_at m p code old new out_old out_new answer why.0 number line is_code t

    -- ---- `check`
    pub certified : (m p c : List ℕ) → request ≡ Some (checking m p c) → code ≡ DONE → IsTrue old.told → AcceptsCertificate old.file m p c out_old out_new
    certified m p c is is_code t =
        let (answer, why, number, line) = check_ending m p c is (ended request code old new out_old out_new run (λ e. omega (arith, e, is_code)) (λ e. omega (arith, e, is_code))) in
        of_checked.certified_at m p c code old new out_old out_new answer why.0 number line is_code t

    pub checked : (m p c : List ℕ) → request ≡ Some (checking m p c) → code ≡ DONE → IsTrue old.told → Accepts old.file m p out_old out_new
    checked m p c is is_code t = of_checked.accepts_of old.file m p c out_old out_new (certified m p c is is_code t)

    pub check_faulty : (m p c : List ℕ) → request ≡ Some (checking m p c) → code ≡ FAULTY → IsTrue old.told → FindsRefused old.file m p c out_old out_new
    check_faulty m p c is is_code t =
        let (answer, why, number, line) = check_ending m p c is (ended request code old new out_old out_new run (λ e. omega (arith, e, is_code)) (λ e. omega (arith, e, is_code))) in
        of_checked.refused_at m p c code old new out_old out_new answer why.0 number line is_code t

    -- ---- `report`
    pub summed : (m p : List ℕ) (form : ReportForm) → request ≡ Some (reporting m p form) → code ≡ DONE → IsTrue old.told → SumsUp old.file m p form out_old out_new
    summed m p form is is_code t =
        let (answer, why, number, line) = report_ending m p form is (ended request code old new out_old out_new run (λ e. omega (arith, e, is_code)) (λ e. omega (arith, e, is_code))) in
        of_reported.summed_at m p form code old new out_old out_new answer why.0 number line is_code t

    pub report_faulty : (m p : List ℕ) (form : ReportForm) → request ≡ Some (reporting m p form) → code ≡ FAULTY → IsTrue old.told → FindsFault old.file m p out_old out_new
    report_faulty m p form is is_code t =
        let (answer, why, number, line) = report_ending m p form is (ended request code old new out_old out_new run (λ e. omega (arith, e, is_code)) (λ e. omega (arith, e, is_code))) in
        of_reported.fault_at m p form code old new out_old out_new answer why.0 number line is_code t

    -- ---- `gen`
    pub generated : (seed items periods : ℕ) (m : List ℕ) → request ≡ Some (generating seed items periods m) → code ≡ DONE → IsTrue old.told → Generates new.file seed items periods m out_old out_new
    generated seed items periods m is is_code t =
        let (answer, why, number, line) = generate_ending seed items periods m is (ended request code old new out_old out_new run (λ e. omega (arith, e, is_code)) (λ e. omega (arith, e, is_code))) in
        of_generated.generated_at seed items periods m code old new out_old out_new answer why number line is_code t

    pub generate_unwritten : (seed items periods : ℕ) (m : List ℕ) → request ≡ Some (generating seed items periods m) → code ≡ UNWRITTEN → FailsToGenerate old new m out_old out_new
    generate_unwritten seed items periods m is is_code =
        let (answer, why, number, line) = generate_ending seed items periods m is (ended request code old new out_old out_new run (λ e. omega (arith, e, is_code)) (λ e. omega (arith, e, is_code))) in
        of_generated.unwritten_at seed items periods m code old new out_old out_new answer why number line is_code

    -- ---- `upgrade`
    pub upgraded : (m n : List ℕ) → request ≡ Some (upgrading m n) → code ≡ DONE → IsTrue old.told → Upgrades old.file new.file m n out_old out_new
    upgraded m n is is_code t =
        let (answer, why, number, line) = upgrade_ending m n is (ended request code old new out_old out_new run (λ e. omega (arith, e, is_code)) (λ e. omega (arith, e, is_code))) in
        of_upgraded.upgraded_at m n code old new out_old out_new answer why number line is_code t

    pub upgrade_unwritten : (m n : List ℕ) → request ≡ Some (upgrading m n) → code ≡ UNWRITTEN → FailsToUpgrade old new m n out_old out_new
    upgrade_unwritten m n is is_code =
        let (answer, why, number, line) = upgrade_ending m n is (ended request code old new out_old out_new run (λ e. omega (arith, e, is_code)) (λ e. omega (arith, e, is_code))) in
        of_upgraded.unwritten_at m n code old new out_old out_new answer why number line is_code

    -- ---- `bound`
    pub bounded : (m : List ℕ) → request ≡ Some (bounding m) → code ≡ DONE → IsTrue old.told → FindsBound old.file m out_old out_new
    bounded m is is_code t =
        let (answer, why, number, line) = bound_ending m is (ended request code old new out_old out_new run (λ e. omega (arith, e, is_code)) (λ e. omega (arith, e, is_code))) in
        of_bounded.bounded_at m code old new out_old out_new answer why.0 number line is_code t

    pub bound_infeasible : (m : List ℕ) → request ≡ Some (bounding m) → code ≡ NO_PLAN → IsTrue old.told → FindsNoPoint old.file m out_old out_new
    bound_infeasible m is is_code t =
        let (answer, why, number, line) = bound_ending m is (ended request code old new out_old out_new run (λ e. omega (arith, e, is_code)) (λ e. omega (arith, e, is_code))) in
        of_bounded.empty_at m code old new out_old out_new answer why.0 number line is_code t

    pub bound_undecided : (m : List ℕ) → request ≡ Some (bounding m) → code ≡ UNDECIDED → IsTrue old.told → FindsNoBound old.file m out_old out_new
    bound_undecided m is is_code t =
        let (answer, why, number, line) = bound_ending m is (ended request code old new out_old out_new run (λ e. omega (arith, e, is_code)) (λ e. omega (arith, e, is_code))) in
        of_bounded.undecided_at m code old new out_old out_new answer why.0 number line is_code t

    -- ---- `schedule`
    pub scheduled : (m p s : List ℕ) → request ≡ Some (scheduling m p s) → code ≡ DONE → IsTrue old.told → WritesExtract (Laid s) scheduled_word old.file new.file m p out_old out_new
    scheduled m p s is is_code t =
        let (answer, why, number, line) = schedule_ending m p s is (ended request code old new out_old out_new run (λ e. omega (arith, e, is_code)) (λ e. omega (arith, e, is_code))) in
        written_at (Laid s) scheduled_word m p s code old new out_old out_new answer why number line is_code t

    pub schedule_faulty : (m p s : List ℕ) → request ≡ Some (scheduling m p s) → code ≡ FAULTY → IsTrue old.told → FindsFault old.file m p out_old out_new
    schedule_faulty m p s is is_code t =
        let (answer, why, number, line) = schedule_ending m p s is (ended request code old new out_old out_new run (λ e. omega (arith, e, is_code)) (λ e. omega (arith, e, is_code))) in
        fault_at (Laid s) scheduled_word m p s code old new out_old out_new answer why number line is_code t

    pub schedule_unwritten : (m p s : List ℕ) → request ≡ Some (scheduling m p s) → code ≡ UNWRITTEN → FailsToExtract old new m p s out_old out_new
    schedule_unwritten m p s is is_code =
        let (answer, why, number, line) = schedule_ending m p s is (ended request code old new out_old out_new run (λ e. omega (arith, e, is_code)) (λ e. omega (arith, e, is_code))) in
        unwritten_at (Laid s) scheduled_word m p s code old new out_old out_new answer why number line is_code

    -- ---- `schedcheck`
    pub schedule_checked : (m p s : List ℕ) → request ≡ Some (schedule_checking m p s) → code ≡ DONE → IsTrue old.told → AcceptsSchedule old.file m p s out_old out_new
    schedule_checked m p s is is_code t =
        let (answer, why, number, line) = schedcheck_ending m p s is (ended request code old new out_old out_new run (λ e. omega (arith, e, is_code)) (λ e. omega (arith, e, is_code))) in
        of_schedchecked.accepts_at m p s code old new out_old out_new answer why.0 number line is_code t

    pub schedcheck_faulty : (m p s : List ℕ) → request ≡ Some (schedule_checking m p s) → code ≡ FAULTY → IsTrue old.told → FindsFault old.file m p out_old out_new ⊎ FindsSlotsFault old.file m p s out_old out_new
    schedcheck_faulty m p s is is_code t =
        let (answer, why, number, line) = schedcheck_ending m p s is (ended request code old new out_old out_new run (λ e. omega (arith, e, is_code)) (λ e. omega (arith, e, is_code))) in
        of_schedchecked.fault_at m p s code old new out_old out_new answer why.0 number line is_code t

    -- ---- `complete`
    pub completed : (m p q : List ℕ) → request ≡ Some (completing m p q) → code ≡ DONE → IsTrue old.told → Completes old.file new.file m p q out_old out_new
    completed m p q is is_code t =
        let (answer, why, number, line) = complete_ending m p q is (ended request code old new out_old out_new run (λ e. omega (arith, e, is_code)) (λ e. omega (arith, e, is_code))) in
        of_completed.completed_at m p q code old new out_old out_new answer why number line is_code t

    pub complete_faulty : (m p q : List ℕ) → request ≡ Some (completing m p q) → code ≡ FAULTY → IsTrue old.told → FindsIncomplete old.file m p out_old out_new ⊎ FindsNoTable old.file m p out_old out_new
    complete_faulty m p q is is_code t =
        let (answer, why, number, line) = complete_ending m p q is (ended request code old new out_old out_new run (λ e. omega (arith, e, is_code)) (λ e. omega (arith, e, is_code))) in
        of_completed.faulty_at m p q code old new out_old out_new answer why number line is_code t

    pub complete_unwritten : (m p q : List ℕ) → request ≡ Some (completing m p q) → code ≡ UNWRITTEN → FailsToComplete old new m p q out_old out_new
    complete_unwritten m p q is is_code =
        let (answer, why, number, line) = complete_ending m p q is (ended request code old new out_old out_new run (λ e. omega (arith, e, is_code)) (λ e. omega (arith, e, is_code))) in
        of_completed.unwritten_at m p q code old new out_old out_new answer why number line is_code

    -- ---- `peg`
    pub pegged : (m p q : List ℕ) → request ≡ Some (pegging m p q) → code ≡ DONE → IsTrue old.told → WritesExtract (Pegged q) pegged_word old.file new.file m p out_old out_new
    pegged m p q is is_code t =
        let (answer, why, number, line) = peg_ending m p q is (ended request code old new out_old out_new run (λ e. omega (arith, e, is_code)) (λ e. omega (arith, e, is_code))) in
        written_at (Pegged q) pegged_word m p q code old new out_old out_new answer why number line is_code t

    pub peg_faulty : (m p q : List ℕ) → request ≡ Some (pegging m p q) → code ≡ FAULTY → IsTrue old.told → FindsFault old.file m p out_old out_new
    peg_faulty m p q is is_code t =
        let (answer, why, number, line) = peg_ending m p q is (ended request code old new out_old out_new run (λ e. omega (arith, e, is_code)) (λ e. omega (arith, e, is_code))) in
        fault_at (Pegged q) pegged_word m p q code old new out_old out_new answer why number line is_code t

    pub peg_unwritten : (m p q : List ℕ) → request ≡ Some (pegging m p q) → code ≡ UNWRITTEN → FailsToExtract old new m p q out_old out_new
    peg_unwritten m p q is is_code =
        let (answer, why, number, line) = peg_ending m p q is (ended request code old new out_old out_new run (λ e. omega (arith, e, is_code)) (λ e. omega (arith, e, is_code))) in
        unwritten_at (Pegged q) pegged_word m p q code old new out_old out_new answer why number line is_code

    -- ---- `draw`
    pub drawn : (m p h : List ℕ) (c : Option (List ℕ)) → request ≡ Some (drawing m p h c) → code ≡ DONE → IsTrue old.told → Draws old.file new.file m p h c out_old out_new
    drawn m p h c is is_code t =
        let (answer, why, number, line) = draw_ending m p h c is (ended request code old new out_old out_new run (λ e. omega (arith, e, is_code)) (λ e. omega (arith, e, is_code))) in
        of_paged.drawn_at m p h c code old new out_old out_new answer why number line is_code t

    pub draw_faulty : (m p h : List ℕ) (c : Option (List ℕ)) → request ≡ Some (drawing m p h c) → code ≡ FAULTY → IsTrue old.told → FindsDrawFault old new m p c out_old out_new
    draw_faulty m p h c is is_code t =
        let (answer, why, number, line) = draw_ending m p h c is (ended request code old new out_old out_new run (λ e. omega (arith, e, is_code)) (λ e. omega (arith, e, is_code))) in
        of_paged.fault_at m p h c code old new out_old out_new answer why number line is_code t

    pub draw_unwritten : (m p h : List ℕ) (c : Option (List ℕ)) → request ≡ Some (drawing m p h c) → code ≡ UNWRITTEN → FailsToDraw old new m p h c out_old out_new
    draw_unwritten m p h c is is_code =
        let (answer, why, number, line) = draw_ending m p h c is (ended request code old new out_old out_new run (λ e. omega (arith, e, is_code)) (λ e. omega (arith, e, is_code))) in
        of_paged.unwritten_at m p h c code old new out_old out_new answer why number line is_code

    -- ---- `replan`
    pub replanned : (m p n q c : List ℕ) (first budget : ℕ) → request ≡ Some (replanning m p first n q c budget) → code ≡ DONE → IsTrue old.told → ReplansBest old.file new.file m p first n q c budget out_old out_new
    replanned m p n q c first budget is is_code t =
        let (answer, why, number, line) = replan_ending m p first n q c budget is (ended request code old new out_old out_new run (λ e. omega (arith, e, is_code)) (λ e. omega (arith, e, is_code))) in
        of_replanned.best_at m p first n q c budget code old new out_old out_new answer why number line is_code t

    pub replan_infeasible : (m p n q c : List ℕ) (first budget : ℕ) → request ≡ Some (replanning m p first n q c budget) → code ≡ NO_PLAN → IsTrue old.told → FindsNoneLater old.file new.file m p first n q c budget out_old out_new ⊎ FindsNoStart old.file new.file m p first out_old out_new
    replan_infeasible m p n q c first budget is is_code t =
        let (answer, why, number, line) = replan_ending m p first n q c budget is (ended request code old new out_old out_new run (λ e. omega (arith, e, is_code)) (λ e. omega (arith, e, is_code))) in
        (of_replanned.none_at m p first n q c budget code old new out_old out_new answer why number line is_code).0 t

    pub replan_wrote_two : (m p n q c : List ℕ) (first budget : ℕ) → request ≡ Some (replanning m p first n q c budget) → code ≡ NO_PLAN → StartsAmong (n ∷ c ∷ []) 2 old new ⊎ OnlyReads old new
    replan_wrote_two m p n q c first budget is is_code =
        let (answer, why, number, line) = replan_ending m p first n q c budget is (ended request code old new out_old out_new run (λ e. omega (arith, e, is_code)) (λ e. omega (arith, e, is_code))) in
        (of_replanned.none_at m p first n q c budget code old new out_old out_new answer why number line is_code).1

    pub replan_undecided : (m p n q c : List ℕ) (first budget : ℕ) → request ≡ Some (replanning m p first n q c budget) → code ≡ UNDECIDED → IsTrue old.told → LeavesRestOpen old.file new.file m p first n q c budget out_old out_new
    replan_undecided m p n q c first budget is is_code t =
        let (answer, why, number, line) = replan_ending m p first n q c budget is (ended request code old new out_old out_new run (λ e. omega (arith, e, is_code)) (λ e. omega (arith, e, is_code))) in
        (of_replanned.open_at m p first n q c budget code old new out_old out_new answer why number line is_code).0 t

    pub replan_wrote_some : (m p n q c : List ℕ) (first budget : ℕ) → request ≡ Some (replanning m p first n q c budget) → code ≡ UNDECIDED → StartsAmong (n ∷ q ∷ c ∷ []) 3 old new ⊎ StartsAmong (n ∷ c ∷ []) 2 old new
    replan_wrote_some m p n q c first budget is is_code =
        let (answer, why, number, line) = replan_ending m p first n q c budget is (ended request code old new out_old out_new run (λ e. omega (arith, e, is_code)) (λ e. omega (arith, e, is_code))) in
        (of_replanned.open_at m p first n q c budget code old new out_old out_new answer why number line is_code).1

    pub no_rest : (m p n q c : List ℕ) (first budget : ℕ) → request ≡ Some (replanning m p first n q c budget) → code ≡ NO_REST → IsTrue old.told → FindsNoRest old.file m p first out_old out_new
    no_rest m p n q c first budget is is_code t =
        let (answer, why, number, line) = replan_ending m p first n q c budget is (ended request code old new out_old out_new run (λ e. omega (arith, e, is_code)) (λ e. omega (arith, e, is_code))) in
        of_replanned.no_rest_at m p first n q c budget code old new out_old out_new answer why number line is_code t

    pub replan_faulty : (m p n q c : List ℕ) (first budget : ℕ) → request ≡ Some (replanning m p first n q c budget) → code ≡ FAULTY → IsTrue old.told → FindsPlanFault old.file m p out_old out_new
    replan_faulty m p n q c first budget is is_code t =
        let (answer, why, number, line) = replan_ending m p first n q c budget is (ended request code old new out_old out_new run (λ e. omega (arith, e, is_code)) (λ e. omega (arith, e, is_code))) in
        of_replanned.fault_at m p first n q c budget code old new out_old out_new answer why number line is_code t

    pub replan_unwritten : (m p n q c : List ℕ) (first budget : ℕ) → request ≡ Some (replanning m p first n q c budget) → code ≡ UNWRITTEN → FailsToReplan old new m p first n q c out_old out_new
    replan_unwritten m p n q c first budget is is_code =
        let (answer, why, number, line) = replan_ending m p first n q c budget is (ended request code old new out_old out_new run (λ e. omega (arith, e, is_code)) (λ e. omega (arith, e, is_code))) in
        of_replanned.unwritten_at m p first n q c budget code old new out_old out_new answer why number line is_code

    -- ---- `demo`
    pub showed : (seed : ℕ) → request ≡ Some (demonstrating seed) → code ≡ DONE → Shows seed out_old out_new
    showed seed is is_code =
        let e = ended request code old new out_old out_new run (λ e. omega (arith, e, is_code)) (λ e. omega (arith, e, is_code)) in
        let d = subst (λ r. Does r old new e.line e.status) is e.does in
        record { what = e.line; holds = d.shows; line = e.gains }

    -- ---- what `check` calls for on what `plan` wrote
    neither : (other : ℕ) → UNDECIDED < other → EndsSearch code → code ≢ other
    neither other above done is = ⊎_elim (λ e. omega (arith, above, is, e)) (λ rest. ⊎_elim (λ e. omega (arith, above, is, e)) (λ e. omega (arith, above, is, e)) rest) done

    -- of files of which a certificate is accepted
    done_if : StatusesAreOne → (n q c : List ℕ) → SomeAccepted new.file n q c → CallsForDone new.file n q c
    done_if one n q c (claim, all) =
        let calls_for : CheckCallsFor (new.file n) (new.file q) (new.file c) DONE = of_checked.accepted_called n q c DONE new claim all refl in
        record { done = calls_for; alone = λ status calls. ⊎_elim (λ same. same) (λ may. absurd may.0) (one (Some (checking n q c)) new.file status DONE calls calls_for) }

    pub checks : StatusesAreOne → ((a : Request) → request ≡ Some a → IsAllowed a) → (m p c : List ℕ) (search : Search) → request ≡ Some (planning m p c search) → EndsSearch code → IsTrue old.told → CallsForDone new.file m p c
    checks one allowed m p c search is done t =
        let (answer, why, number, lines) = plan_ending m p c search is (ended request code old new out_old out_new run (neither NO_MEMORY (omega arith) done) (neither UNPRINTED (omega arith) done)) in
        done_if one m p c (of_planned.accepted_of m p c search code old new (allowed (planning m p c search) is).apart t answer why number done)

    -- and on what `replan` wrote, where the new model file isn't too long
    pub replan_checks : StatusesAreOne → (m p n q c : List ℕ) (first budget : ℕ) → request ≡ Some (replanning m p first n q c budget) → EndsSearch code → IsTrue old.told → CallsForDoneIfShort new.file n q c ⊎ ((code ≡ NO_PLAN) × OnlyReads old new)
    replan_checks one m p n q c first budget is done t =
        let (answer, why, number, lines) = replan_ending m p first n q c budget is (ended request code old new out_old out_new run (neither NO_MEMORY (omega arith) done) (neither UNPRINTED (omega arith) done)) in
        ⊎_elim
        (λ accepted. inl (λ short. done_if one n q c (accepted short)))
        (λ none. inr none)
        (of_replanned.accepted_at m p first n q c budget code old new answer why number t done)

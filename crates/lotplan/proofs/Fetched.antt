-- How the fetches of a run go with what it says: from one call to the next, from an answer to its status, and from a status to its number.
use Rattle.std.proofs.Common.{◌≡◌, ◌≢◌, ◌∙◌, ℕ, List, IsTrue, inl, inr, refl, sym, subst, arith}
use Rattle.std.specs.Prelude.{Result, Ok, Err, IfOk}
use Rattle.std.specs.declared.alloc.AllocError.{AllocError}
use Rattle.lot_sizing.specs.Problem.{Problem}
use Rattle.lot_sizing.specs.Plan.{Plan, Table}
use Rattle.lot_io.specs.Outside.{Fails, Finds, GrewBy, Misses, OnlyWrites, Printed, Shelved}
use Rattle.lot_io.proofs.Frames.{finds_on}
use Rattle.cert_lines.specs.declared.parts.Claim.{Claim}
use Rattle.stream_check.specs.Streams.{CountsOf}
use Rattle.stream_check.specs.declared.fault.StreamFault.{StreamFault}
use Rattle.stream_check.specs.declared.fault.StreamFault.TheVariants as stream
use Rattle.plan_page.specs.declared.proving.Proved.{Proved}
use Rattle.lotplan.specs.Status.{code_of}
use Rattle.lotplan.specs.Saying.{Ends, IsSaid}
use Rattle.lotplan.specs.Reading.{read_meant, read_status}
use Rattle.lotplan.specs.Judging.{judge_meant, judge_status}
use Rattle.lotplan.specs.Checking.{CheckAnswer, IsRefusal, check_meant, check_status}
use Rattle.lotplan.specs.Bounding.{BoundAnswer, MayBeBoundAnswer, bound_status, no_input as no_bound}
use Rattle.lotplan.specs.Planning.{PlanAnswer, WriteExplains, WriteSays, plan_status, no_input as no_model}
use Rattle.lotplan.specs.Replanning.{ReplanAnswer, StartExplains, StartSays, searched, no_plan, replan_status, no_input as no_start_file}
use Rattle.lotplan.specs.Upgrading.{RewriteExplains, RewriteSays, UpgradeAnswer, upgrade_status, no_input as no_first_model}
use Rattle.lotplan.specs.Extracting.{Extract, ExtractAnswer, GivenExplains, GivenSays, extract_status, judged}
use Rattle.lotplan.specs.Scheduling.{SchedcheckAnswer, SlotBytesAre, SlotBytesSay, no_plan_for, schedcheck_status, no_input as no_slot_file}
use Rattle.lotplan.specs.Completing.{CompleteAnswer, GridsExplain, GridsSay, complete_status, none, table_meant, table_status}
use Rattle.lotplan.specs.Drawing.{PageSays}
use Rattle.lotplan.specs.Showing.{DemoSays}
use Rattle.lotplan.specs.Fetching.{FailsAtMostOnce, FetchesAs, NoTableFetches, NotDrawnFetches, NotFeasibleFetches, PlanStopFetches}
use Rattle.lotplan.specs.declared.commands.check.CheckAnswer.{CheckAnswer as HeldAnswer}
use Rattle.lotplan.specs.declared.commands.complete.NoTable.{NoTable}
use Rattle.lotplan.specs.declared.commands.complete.NoTable.TheVariants as no_table
use Rattle.lotplan.specs.declared.commands.draw.NotDrawn.{NotDrawn}
use Rattle.lotplan.specs.declared.commands.draw.NotDrawn.TheVariants as not_drawn
use Rattle.lotplan.specs.declared.commands.judge.NotFeasible.{NotFeasible}
use Rattle.lotplan.specs.declared.commands.judge.NotFeasible.TheVariants as not_feasible
use Rattle.lotplan.specs.declared.model_file.PlanStop.{PlanStop}
use Rattle.lotplan.specs.declared.model_file.PlanStop.TheVariants as plan_stop
use Rattle.lotplan.specs.declared.said.Said.{Said}
use Rattle.lotplan.specs.declared.sought.Sought.{Sought}
use Rattle.lotplan.specs.declared.status.Status.{Status}
use Rattle.lotplan.specs.declared.status.Status.TheVariants as status
use Rattle.lotplan.specs.declared.status.TheConstants.{MISSING, UNREAD, UNPRINTED, NO_MEMORY}
use Rattle.lotplan.proofs.Outputs.{printed}

-- a shelf that stays as it is, and one that is only written
pub still : (old : Shelved) → Finds old old
still old = record { misses = refl; faults = refl }

pub writes_find : (name : List ℕ) (old new : Shelved) → OnlyWrites name old new → Finds old new
writes_find name old new x = record { misses = x.misses; faults = x.faults }

-- ---- after files that were found
module _ (old mid new : Shelved) (first : Finds old mid) where
  pub fetches_on : (s : Status) → FetchesAs s mid new → FetchesAs s old new
  fetches_on status.Missing x = record { misses = subst (λ n. GrewBy 1 n new.misses) first.misses x.misses; faults = x.faults ∙ first.faults }
  fetches_on status.Unread x = record { misses = x.misses ∙ first.misses; faults = subst (λ n. GrewBy 1 n new.faults) first.faults x.faults }
  fetches_on _ x = finds_on first x

  pub plan_stop_on : (stop : PlanStop) → PlanStopFetches mid new stop → PlanStopFetches old new stop
  plan_stop_on (plan_stop.NoPlan fault) x = finds_on first x
  plan_stop_on (plan_stop.Answered why) x = fetches_on (read_status (read_meant why)) x
  plan_stop_on plan_stop.Memory x = tt

  pub not_feasible_on : (stop : NotFeasible) → NotFeasibleFetches mid new stop → NotFeasibleFetches old new stop
  not_feasible_on (not_feasible.Judged answer) x = fetches_on (judge_status (judge_meant answer)) x
  not_feasible_on not_feasible.Memory x = tt

  pub no_table_on : (stop : NoTable) → NoTableFetches mid new stop → NoTableFetches old new stop
  no_table_on (no_table.Answered answer) x = fetches_on (table_status (table_meant answer)) x
  no_table_on no_table.Memory x = tt

  pub not_drawn_on : (stop : NotDrawn) → NotDrawnFetches mid new stop → NotDrawnFetches old new stop
  not_drawn_on (not_drawn.Judged answer) x = fetches_on (judge_status (judge_meant answer)) x
  not_drawn_on (not_drawn.Unproved answer) x = fetches_on (check_status (check_meant answer)) x
  not_drawn_on not_drawn.Memory x = tt

  pub checked_on : (r : Result HeldAnswer AllocError) → IfOk r (λ a. FetchesAs (check_status (check_meant a)) mid new) → IfOk r (λ a. FetchesAs (check_status (check_meant a)) old new)
  checked_on (Ok a) x = fetches_on (check_status (check_meant a)) x
  checked_on (Err e) x = tt

  pub said_on : (r : Result Said AllocError) → IfOk r (λ said. FetchesAs said.status mid new) → IfOk r (λ said. FetchesAs said.status old new)
  said_on (Ok said) x = fetches_on said.status x
  said_on (Err e) x = tt

-- ---- from what is said and from answers
module _ (old new : Shelved) where
  by_status : (s : Status) (said : Said) → said.status ≡ s → FetchesAs s old new → FetchesAs said.status old new
  by_status s said is x = subst (λ k. FetchesAs k old new) (sym is) x

  pub fetches_said : (text : List ℕ) (s : Status) (r : Result Said AllocError) → IfOk r (IsSaid text s) → FetchesAs s old new → IfOk r (λ said. FetchesAs said.status old new)
  fetches_said text s (Ok said) says x = by_status s said says.status x
  fetches_said text s (Err e) says x = tt

  -- of a bound
  pub bound_fetches : (problem : Problem) (answer : BoundAnswer) → MayBeBoundAnswer problem answer → Finds old new → FetchesAs (bound_status answer) old new
  bound_fetches problem (no_bound why) x f = absurd x
  bound_fetches problem _ x f = f

  -- of a certificate file that gave nothing to go on with, or is refused
  refusal_fetches : (c : List ℕ) (fault : StreamFault) (answer : CheckAnswer) → CountsOf {A = Claim} (Err fault) old new → IsRefusal c fault answer → FetchesAs (check_status answer) old new
  refusal_fetches c stream.Missing answer x is = subst (λ a. FetchesAs (check_status a) old new) (sym is) x
  refusal_fetches c stream.Failed answer x is = subst (λ a. FetchesAs (check_status a) old new) (sym is) x
  refusal_fetches c stream.TooLong answer x is = subst (λ a. FetchesAs (check_status a) old new) (sym is) x
  refusal_fetches c (stream.Text fault) answer x is = subst (λ a. FetchesAs (check_status a) old new) (sym is) x
  refusal_fetches c (stream.Rejected r) answer x is = subst (λ a. FetchesAs (check_status a) old new) (sym is) x
  refusal_fetches c stream.Memory answer x is = absurd is

  pub refused_fetches : (c : List ℕ) (fault : StreamFault) (r : Result HeldAnswer AllocError) → CountsOf {A = Claim} (Err fault) old new → IfOk r (λ a. IsRefusal c fault (check_meant a)) → IfOk r (λ a. FetchesAs (check_status (check_meant a)) old new)
  refused_fetches c fault (Ok a) x is = refusal_fetches c fault (check_meant a) x is
  refused_fetches c fault (Err e) x is = tt

  -- of slots
  slots_fetch_as : (problem : Problem) (plan : Plan) (bytes : List ℕ) (answer : SchedcheckAnswer) → SlotBytesAre problem plan answer bytes → Finds old new → FetchesAs (schedcheck_status answer) old new
  slots_fetch_as problem plan bytes (no_plan_for answer) x f = absurd x
  slots_fetch_as problem plan bytes (no_slot_file why) x f = absurd x
  slots_fetch_as problem plan bytes _ x f = f

  pub slots_fetch : (problem : Problem) (plan : Plan) (bytes : List ℕ) (r : Result Said AllocError) → IfOk r (SlotBytesSay problem plan bytes) → Finds old new → IfOk r (λ said. FetchesAs said.status old new)
  slots_fetch problem plan bytes (Ok said) (answer, are, says) f = by_status (schedcheck_status answer) said says.status (slots_fetch_as problem plan bytes answer are f)
  slots_fetch problem plan bytes (Err e) x f = tt

  -- of two models that are shown
  pub demo_fetches : (seed : ℕ) (r : Result Said AllocError) → IfOk r (DemoSays seed) → Finds old new → IfOk r (λ said. FetchesAs said.status old new)
  demo_fetches seed (Ok said) says f = by_status status.Done said (says old).ends f
  demo_fetches seed (Err e) says f = tt

  -- of what was written by a call that found these shelves
  module _ (before after : Shelved) where
    written_fetch_as : (problem : Problem) (sought : Sought) (p c : List ℕ) (answer : PlanAnswer) → WriteExplains problem sought p c before after answer → Finds old new → FetchesAs (plan_status answer) old new
    written_fetch_as problem sought p c (no_model why) x f = absurd x
    written_fetch_as problem sought p c _ x f = f

    pub written_fetch : (problem : Problem) (sought : Sought) (p c : List ℕ) (r : Result Said AllocError) → IfOk r (WriteSays problem sought p c before after) → Finds old new → IfOk r (λ said. FetchesAs said.status old new)
    written_fetch problem sought p c (Ok said) (answer, x, says) f = by_status (plan_status answer) said says.status (written_fetch_as problem sought p c answer x f)
    written_fetch problem sought p c (Err e) x f = tt

    started_fetch_as : (problem : Problem) (plan : Plan) (first : ℕ) (n q c : List ℕ) (budget : ℕ) (answer : ReplanAnswer) → StartExplains (λ P. IsTrue before.told → P problem plan) first n q c budget before after answer → Finds old new → FetchesAs (replan_status answer) old new
    started_fetch_as problem plan first n q c budget (searched (no_model why) spent) x f = absurd x
    started_fetch_as problem plan first n q c budget (no_plan fault) x f = absurd x
    started_fetch_as problem plan first n q c budget (no_start_file why) x f = absurd x
    started_fetch_as problem plan first n q c budget _ x f = f

    pub started_fetch : (problem : Problem) (plan : Plan) (first : ℕ) (n q c : List ℕ) (budget : ℕ) (r : Result Said AllocError) → IfOk r (StartSays problem plan first n q c budget before after) → Finds old new → IfOk r (λ said. FetchesAs said.status old new)
    started_fetch problem plan first n q c budget (Ok said) (answer, x, says) f = by_status (replan_status answer) said says.status (started_fetch_as problem plan first n q c budget answer x f)
    started_fetch problem plan first n q c budget (Err e) x f = tt

    grids_fetch_as : (problem : Problem) (make setup : Table) (q : List ℕ) (answer : CompleteAnswer) → GridsExplain problem make setup q before after answer → Finds old new → FetchesAs (complete_status answer) old new
    grids_fetch_as problem make setup q (none answer) x f = absurd x
    grids_fetch_as problem make setup q _ x f = f

    pub grids_fetch : (problem : Problem) (make setup : Table) (q : List ℕ) (r : Result Said AllocError) → IfOk r (GridsSay problem make setup q before after) → Finds old new → IfOk r (λ said. FetchesAs said.status old new)
    grids_fetch problem make setup q (Ok said) (answer, x, says) f = by_status (complete_status answer) said says.status (grids_fetch_as problem make setup q answer x f)
    grids_fetch problem make setup q (Err e) x f = tt

    pub page_fetch : (problem : Problem) (plan : Plan) (shown : Proved) (h : List ℕ) (r : Result Said AllocError) → IfOk r (PageSays problem plan shown h before after) → Finds old new → IfOk r (λ said. FetchesAs said.status old new)
    page_fetch problem plan shown h (Ok said) (inl (short, inl (says, w))) f = by_status status.Done said says.status f
    page_fetch problem plan shown h (Ok said) (inl (short, inr (says, w))) f = by_status status.Unwritten said says.status f
    page_fetch problem plan shown h (Ok said) (inr (long, says, same)) f = by_status status.TooLong said says.status f
    page_fetch problem plan shown h (Err e) x f = tt

    extract_fetch_as : (Writes : Extract) (problem : Problem) (plan : Plan) (s : List ℕ) (answer : ExtractAnswer) → GivenExplains Writes problem plan s before after answer → Finds old new → FetchesAs (extract_status answer) old new
    extract_fetch_as Writes problem plan s (judged answer) x f = absurd x
    extract_fetch_as Writes problem plan s _ x f = f

    pub extract_fetch : (Writes : Extract) (word : List ℕ) (problem : Problem) (plan : Plan) (s : List ℕ) (r : Result Said AllocError) → IfOk r (GivenSays Writes word problem plan s before after) → Finds old new → IfOk r (λ said. FetchesAs said.status old new)
    extract_fetch Writes word problem plan s (Ok said) (answer, x, says) f = by_status (extract_status answer) said says.status (extract_fetch_as Writes problem plan s answer x f)
    extract_fetch Writes word problem plan s (Err e) x f = tt

    rewritten_fetch_as : (problem : Problem) (n : List ℕ) (answer : UpgradeAnswer) → RewriteExplains problem n before after answer → Finds old new → FetchesAs (upgrade_status answer) old new
    rewritten_fetch_as problem n (no_first_model why) x f = absurd x
    rewritten_fetch_as problem n _ x f = f

    pub rewritten_fetch : (problem : Problem) (n : List ℕ) (r : Result Said AllocError) → IfOk r (RewriteSays problem n before after) → Finds old new → IfOk r (λ said. FetchesAs said.status old new)
    rewritten_fetch problem n (Ok said) (answer, x, says) f = by_status (upgrade_status answer) said says.status (rewritten_fetch_as problem n answer x f)
    rewritten_fetch problem n (Err e) x f = tt

  -- ---- from a status to its number, and to the run
  finds_of : (s : Status) → code_of s ≢ MISSING → code_of s ≢ UNREAD → FetchesAs s old new → Finds old new
  finds_of status.Missing no_miss no_fault x = absurd (no_miss refl)
  finds_of status.Unread no_miss no_fault x = absurd (no_fault refl)
  finds_of _ no_miss no_fault x = x

  misses_of : (s : Status) → code_of s ≡ MISSING → FetchesAs s old new → Misses old new
  misses_of status.Missing is x = x
  misses_of _ is x = absurd (omega (arith, is))

  fails_of : (s : Status) → code_of s ≡ UNREAD → FetchesAs s old new → Fails old new
  fails_of status.Unread is x = x
  fails_of _ is x = absurd (omega (arith, is))

  once_of : (s : Status) → FetchesAs s old new → FailsAtMostOnce old new
  once_of status.Missing x = inr (inl x)
  once_of status.Unread x = inr (inr x)
  once_of _ x = inl x

  module _ (code : ℕ) (out_old out_new : Printed) where
    pub run_finds : (r : Result Said AllocError) → IfOk r (λ said. FetchesAs said.status old new) → Ends r code out_old out_new → code ≢ MISSING → code ≢ UNREAD → code ≢ UNPRINTED → code ≢ NO_MEMORY → Finds old new
    run_finds (Ok said) x ends no_miss no_fault other some =
        let p = printed said.line.items said.status code out_old out_new ends other in
        finds_of said.status (λ is. no_miss (p.0 ∙ is)) (λ is. no_fault (p.0 ∙ is)) x
    run_finds (Err e) x ends no_miss no_fault other some = absurd (some ends.0)

    pub run_misses : (r : Result Said AllocError) → IfOk r (λ said. FetchesAs said.status old new) → Ends r code out_old out_new → code ≡ MISSING → Misses old new
    run_misses (Ok said) x ends is =
        let p = printed said.line.items said.status code out_old out_new ends (λ e. omega (arith, e, is)) in
        misses_of said.status (sym p.0 ∙ is) x
    run_misses (Err e) x ends is = absurd (omega (arith, ends.0, is))

    pub run_fails : (r : Result Said AllocError) → IfOk r (λ said. FetchesAs said.status old new) → Ends r code out_old out_new → code ≡ UNREAD → Fails old new
    run_fails (Ok said) x ends is =
        let p = printed said.line.items said.status code out_old out_new ends (λ e. omega (arith, e, is)) in
        fails_of said.status (sym p.0 ∙ is) x
    run_fails (Err e) x ends is = absurd (omega (arith, ends.0, is))

    pub run_once : (r : Result Said AllocError) → IfOk r (λ said. FetchesAs said.status old new) → Ends r code out_old out_new → code ≢ NO_MEMORY → FailsAtMostOnce old new
    run_once (Ok said) x ends some = once_of said.status x
    run_once (Err e) x ends some = absurd (some ends.0)

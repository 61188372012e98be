-- What `plan` leaves, by its answer.
use Rattle.std.proofs.Common.{◌≡◌, ◌≢◌, ◌<◌, ◌≤◌, ◌∙◌, ◌⊎◌, ⊎_elim, ℕ, List, [], ◌∷◌, Option, Some, None, IsTrue, inl, inr, refl, sym, ap, subst, arith}
use Rattle.std.specs.Prelude.{Result, Ok, Err, IfOk}
use Rattle.std.specs.declared.alloc.AllocError.{AllocError}
use Rattle.lot_io.specs.Outside.{Files, GrewBy, OnlyReads, Printed, Shelved}
use Rattle.lot_sizing.specs.Problem.{Problem}
use Rattle.lot_sizing.specs.Plan.{Plan, cost}
use Rattle.plan_rules.specs.declared.plan.Plan.{Plan as Grids}
use Rattle.cert_lines.specs.declared.parts.Claim.{Claim}
use Rattle.cert_lines.specs.declared.parts.Claim.TheVariants.{Optimal, Infeasible, Bound as BoundOf}
use Rattle.search_result.specs.declared.found.Found.{Found}
use Rattle.branching.specs.Search.{CostsAtMost, IsDecided}
use Rattle.command_line.specs.Words.{AreApart, Search}
use Rattle.lotplan.specs.Meaning.{Says}
use Rattle.lotplan.specs.declared.said.Said.{Said}
use Rattle.lotplan.specs.declared.sought.Sought.{Sought}
use Rattle.lotplan.specs.Status.{code_of}
use Rattle.lotplan.specs.Reading.{HoldsProblem, ModelExplains, OfModel, ReadAnswer, refused, missing, unread, too_long, read_line, read_status}
use Rattle.lotplan.specs.Finding.{IsFound, PlanCosts}
use Rattle.lotplan.specs.Writing.{StartsAmong, StartsAtMost}
use Rattle.lotplan.specs.Judging.{FindsNone, HoldFeasible, HoldsBoth, JudgeAnswer, JudgeExplains, OfFeasible, feasible, no_plan, broken, judge_line, judge_status}
use Rattle.lotplan.specs.Judging.{no_input as no_files}
use Rattle.lotplan.specs.Planning.{PlanAnswer, PlanOutcome, of_search, of_start, optimal, infeasible, between, above, unwritten, no_input, outcome_line, outcome_status, plan_line, plan_status, FailsAt, FailsToWrite, FileCallsFor, FindsNoPlan, FindsStartFault, KeepsStart, LeavesOpen, MayBeLeft, OfSearch, OfStart, OutcomeExplains, PlanCallFor, PlanExplains, PlanStops, ProblemCallsFor, PlansBest, WriteExplains, WriteSays, WritesAbove, WritesBetween, WritesFeasible, WritesInfeasible, WritesOptimal, plan_meaning, sought_by}
use Rattle.lotplan.specs.Checking.{AllAre, accepted}
use Rattle.lotplan.specs.Saying.{Gains, IsSaid}
use Rattle.lotplan.specs.Run.{HadNoFault}
use Rattle.lotplan.specs.declared.status.Status.{Status}
use Rattle.lotplan.specs.declared.status.TheConstants.{DONE, NO_PLAN, UNDECIDED, FAULTY, NO_COMMAND, UNWRITTEN}
use Rattle.lotplan.proofs.Kept.{IsCommand}
use Rattle.lotplan.proofs.Outputs.{IsAnswerNumber, IsCommandNumber, answered, read_number}
use Rattle.lotplan.proofs.PlanCalls.{start_call, start_some}
use Rattle.lotplan.proofs.Readings.{IsReading, SomeStop, reading}
use Rattle.lotplan.proofs.Writings.{both_at_most, first_at_most, reads_at_most, second_at_most, starts_after, told_before}
use Rattle.lotplan.proofs.Proved.{left_alone}
use Rattle.lotplan.proofs.Judged as judging

-- ---- the search that the words ask for, of a problem in the model file
-- without a file to start from
pub of_none : (before : Files) (m : List ℕ) (search : Search) (problem : Problem) (P : Problem → Sought → Type 0) → search.start ≡ None → HoldsProblem before m problem → P problem (sought_by search None) → OfSearch before m search P
of_none before m search problem P none holds x = subst (λ s. OfStart before m search s P) (sym none) (problem, holds, x)

-- and with one
pub of_some : (before : Files) (m : List ℕ) (search : Search) (start : List ℕ) (problem : Problem) (grids : Grids) (amount : ℕ) (P : Problem → Sought → Type 0) → search.start ≡ Some start → HoldsBoth before m start problem grids → HoldFeasible problem grids amount → P problem (sought_by search (Some amount)) → OfSearch before m search P
of_some before m search start problem grids amount P named holds f x =
    subst (λ s. OfStart before m search s P) (sym named)
    (judging.of_feasible before m start problem grids amount (λ k plan. P k (sought_by search (Some (cost k plan)))) holds f (subst (λ a. P problem (sought_by search (Some a))) f.costs x))

-- either way the model file means the problem
in_model : (before : Files) (m : List ℕ) (asked : Search) (start : Option (List ℕ)) (P : Problem → Sought → Type 0) → OfStart before m asked start P → OfModel before m (λ problem. (begins : Option ℕ) × P problem (sought_by asked begins))
in_model before m asked None P x = (x.0, x.1, (None, x.2))
in_model before m asked (Some start) P x = let are = x.2.3 in (x.0, x.1, (Some (cost x.0 are.plan), are.holds))

-- ---- from the problem to the model file
-- the problem is the model file's, and this is what its search is given
abbrev Begun : Shelved → List ℕ → Search → Problem → Sought → Type 1
Begun old m search problem sought = (P : Problem → Sought → Type 0) → IsTrue old.told → P problem sought → OfSearch old.file m search P

module _ (m p c : List ℕ) (search : Search) (problem : Problem) (sought : Sought) (old mid new : Shelved) (holds : IsTrue old.told → HoldsProblem old.file m problem) (begun : Begun old m search problem sought) (reads : OnlyReads old mid) where
  fails_after : (file : List ℕ) → FailsAt (λ P. IsTrue mid.told → P problem) p c mid new file → FailsAt (λ P. IsTrue old.told → OfModel old.file m P) p c old new file
  fails_after file x = ⊎_elim
      (λ plan. inl (plan.0, λ t. (problem, holds t, plan.1 (told_before reads t)), starts_after (p ∷ []) 1 old mid new reads plan.2))
      (λ certificate. inr (⊎_elim
      (λ best. inl (best.0, λ t. (problem, holds t, best.1 (told_before reads t)), starts_after (p ∷ c ∷ []) 2 old mid new reads best.2))
      (λ none. inr (none.0, λ t. (problem, holds t, none.1 (told_before reads t)), starts_after (c ∷ []) 1 old mid new reads none.2))
      certificate))
      x

  plan_after : (answer : PlanAnswer) → WriteExplains problem sought p c mid new answer → PlanExplains m p c search old new answer
  plan_after (optimal says nodes amount) x = (
    λ t. begun (λ k s. WritesOptimal new.file k p c s says nodes amount) t (x.0 (told_before reads t)),
    starts_after (p ∷ c ∷ []) 2 old mid new reads x.1,
  )
  plan_after (infeasible says nodes) x = (
    λ t.
        let w = x.0 (told_before reads t) in
        begun (λ k s. WritesInfeasible old.file new.file k p c s says nodes) t
        (record { impossible = w.impossible; proof = w.proof; kept = w.kept ∙ ap (λ (f : Files). f p) reads.files; shows = w.shows }),
    starts_after (c ∷ []) 1 old mid new reads x.1,
  )
  plan_after (between says nodes bound amount) x = (
    λ t. begun (λ k s. WritesBetween new.file k p c s says nodes bound amount) t (x.0 (told_before reads t)),
    starts_after (p ∷ c ∷ []) 2 old mid new reads x.1,
  )
  plan_after (above says nodes bound) x = (
    λ t.
        let w = x.0 (told_before reads t) in
        begun (λ k s. WritesAbove old.file new.file k p c s says nodes bound) t
        (record { floor = w.floor; own = w.own; proof = w.proof; kept = w.kept ∙ ap (λ (f : Files). f p) reads.files; shows = w.shows }),
    starts_after (c ∷ []) 1 old mid new reads x.1,
  )
  plan_after (unwritten file) x = (omega (arith, x.0, reads.write_faults), fails_after file x.1)
  plan_after (no_input why) x = absurd x

  says_plan : (r : Result Said AllocError) → IfOk r (WriteSays problem sought p c mid new) → IfOk r (Says (plan_meaning m p c search) old new)
  says_plan (Ok said) (answer, x, says) = answered PlanOutcome (OutcomeExplains m p c search old new) outcome_line outcome_status (of_search answer) said (plan_after answer x) says
  says_plan (Err e) some = tt

-- of a model file alone
pub says_model : (m p c : List ℕ) (search : Search) (problem : Problem) (old mid new : Shelved) → search.start ≡ None → (IsTrue old.told → HoldsProblem old.file m problem) → OnlyReads old mid → (r : Result Said AllocError) → IfOk r (WriteSays problem (sought_by search None) p c mid new) → IfOk r (Says (plan_meaning m p c search) old new)
says_model m p c search problem old mid new none holds reads r says =
    says_plan m p c search problem (sought_by search None) old mid new holds (λ P t x. of_none old.file m search problem P none (holds t) x) reads r says

-- and of a plan to start from
pub says_from : (m p c : List ℕ) (search : Search) (start : List ℕ) (problem : Problem) (grids : Grids) (amount : ℕ) (old mid new : Shelved) → search.start ≡ Some start → (IsTrue old.told → HoldsBoth old.file m start problem grids) → HoldFeasible problem grids amount → OnlyReads old mid → (r : Result Said AllocError) → IfOk r (WriteSays problem (sought_by search (Some amount)) p c mid new) → IfOk r (Says (plan_meaning m p c search) old new)
says_from m p c search start problem grids amount old mid new named holds f reads r says =
    says_plan m p c search problem (sought_by search (Some amount)) old mid new (λ t. (holds t).model) (λ P t x. of_some old.file m search start problem grids amount P named (holds t) f x) reads r says

pub says_stop : (m p c : List ℕ) (search : Search) (old new : Shelved) (why : ReadAnswer) (r : Result Said AllocError) → search.start ≡ None → ModelExplains m old new why → OnlyReads old new → IfOk r (IsSaid (read_line why) (read_status why)) → IfOk r (Says (plan_meaning m p c search) old new)
says_stop m p c search old new why (Ok said) none x reads says = answered PlanOutcome (OutcomeExplains m p c search old new) outcome_line outcome_status (of_search (no_input why)) said (none, x, reads) says
says_stop m p c search old new why (Err e) none x reads says = tt

pub says_unstarted : (m p c : List ℕ) (search : Search) (start : List ℕ) (old new : Shelved) (answer : JudgeAnswer) (r : Result Said AllocError) → search.start ≡ Some start → FindsNone answer × JudgeExplains m start old new answer → OnlyReads old new → IfOk r (IsSaid (judge_line answer) (judge_status answer)) → IfOk r (Says (plan_meaning m p c search) old new)
says_unstarted m p c search start old new answer (Ok said) named x reads says = answered PlanOutcome (OutcomeExplains m p c search old new) outcome_line outcome_status (of_start answer) said (start, named, x.0, x.1, reads) says
says_unstarted m p c search start old new answer (Err e) named x reads says = tt

-- ---- what each number says
module _ (m p c : List ℕ) (search : Search) (code : ℕ) (old new : Shelved) (out_old out_new : Printed) where
  pub optimal_at : (answer : PlanAnswer) → PlanExplains m p c search old new answer → code ≡ code_of (plan_status answer) → Gains (plan_line answer) out_old out_new → code ≡ DONE → IsTrue old.told → PlansBest old.file new.file m p c search out_old out_new
  optimal_at (optimal says nodes amount) x is lines zero t = record { says = says; nodes = nodes; amount = amount; holds = x.0 t; lines = lines }
  optimal_at (infeasible says nodes) x is lines zero t = absurd (omega (arith, is, zero))
  optimal_at (between says nodes bound amount) x is lines zero t = absurd (omega (arith, is, zero))
  optimal_at (above says nodes bound) x is lines zero t = absurd (omega (arith, is, zero))
  optimal_at (unwritten file) x is lines zero t = absurd (omega (arith, is, zero))
  optimal_at (no_input why) x is lines zero t = absurd (omega (arith, (reading why code is).low, zero))

  pub impossible_at : (answer : PlanAnswer) → PlanExplains m p c search old new answer → code ≡ code_of (plan_status answer) → Gains (plan_line answer) out_old out_new → code ≡ NO_PLAN → (IsTrue old.told → FindsNoPlan old.file new.file m p c search out_old out_new) × StartsAmong (c ∷ []) 1 old new
  impossible_at (optimal says nodes amount) x is lines one = absurd (omega (arith, is, one))
  impossible_at (infeasible says nodes) x is lines one = (
    λ t. record { says = says; nodes = nodes; holds = x.0 t; lines = lines },
    x.1,
  )
  impossible_at (between says nodes bound amount) x is lines one = absurd (omega (arith, is, one))
  impossible_at (above says nodes bound) x is lines one = absurd (omega (arith, is, one))
  impossible_at (unwritten file) x is lines one = absurd (omega (arith, is, one))
  impossible_at (no_input why) x is lines one = absurd (omega (arith, (reading why code is).low, one))

  -- both files were started, or the certificate file alone
  abbrev pub StartsSome : Type 0
  StartsSome = StartsAmong (p ∷ c ∷ []) 2 old new ⊎ StartsAmong (c ∷ []) 1 old new

  pub open_at : (answer : PlanAnswer) → PlanExplains m p c search old new answer → code ≡ code_of (plan_status answer) → Gains (plan_line answer) out_old out_new → code ≡ UNDECIDED → (IsTrue old.told → LeavesOpen old.file new.file m p c search out_old out_new) × StartsSome
  open_at (optimal says nodes amount) x is lines two = absurd (omega (arith, is, two))
  open_at (infeasible says nodes) x is lines two = absurd (omega (arith, is, two))
  open_at (between says nodes bound amount) x is lines two = (
    λ t. record { answer = between says nodes bound amount; ends = refl; holds = x.0 t; line = lines },
    inl x.1,
  )
  open_at (above says nodes bound) x is lines two = (
    λ t. record { answer = above says nodes bound; ends = refl; holds = x.0 t; line = lines },
    inr x.1,
  )
  open_at (unwritten file) x is lines two = absurd (omega (arith, is, two))
  open_at (no_input why) x is lines two = absurd (omega (arith, (reading why code is).low, two))

  pub unwritten_at : (answer : PlanAnswer) → PlanExplains m p c search old new answer → code ≡ code_of (plan_status answer) → Gains (plan_line answer) out_old out_new → code ≡ UNWRITTEN → FailsToWrite old new m p c out_old out_new
  unwritten_at (optimal says nodes amount) x is line eight = absurd (omega (arith, is, eight))
  unwritten_at (infeasible says nodes) x is line eight = absurd (omega (arith, is, eight))
  unwritten_at (between says nodes bound amount) x is line eight = absurd (omega (arith, is, eight))
  unwritten_at (above says nodes bound) x is line eight = absurd (omega (arith, is, eight))
  unwritten_at (unwritten file) x is line eight = record { file = file; failed = x.0; left = x.1; line = line }
  unwritten_at (no_input why) x is line eight = absurd ((reading why code is).other eight)

-- ---- what is written
pub quiet_at : (m p c : List ℕ) (search : Search) (code : ℕ) (old new : Shelved) (answer : PlanAnswer) → PlanExplains m p c search old new answer → code ≡ code_of (plan_status answer) → code ≢ DONE → code ≢ NO_PLAN → code ≢ UNDECIDED → code ≢ UNWRITTEN → OnlyReads old new
quiet_at m p c search code old new (optimal says nodes amount) x is some one two other = absurd (some is)
quiet_at m p c search code old new (infeasible says nodes) x is some one two other = absurd (one is)
quiet_at m p c search code old new (between says nodes bound amount) x is some one two other = absurd (two is)
quiet_at m p c search code old new (above says nodes bound) x is some one two other = absurd (two is)
quiet_at m p c search code old new (unwritten file) x is some one two other = absurd (other is)
quiet_at m p c search code old new (no_input why) x is some one two other = x.2

module _ (p c : List ℕ) (old new : Shelved) where
  -- what is left of both files, and that as much is told
  abbrev Few : Type 0
  Few = StartsAtMost (p ∷ c ∷ []) old new × (new.told ≡ old.told)

  few_plan : StartsAmong (p ∷ []) 1 old new → Few
  few_plan x = (first_at_most p c old new x, x.told)

  few_certificate : StartsAmong (c ∷ []) 1 old new → Few
  few_certificate x = (second_at_most p c old new x, x.told)

  few_both : StartsAmong (p ∷ c ∷ []) 2 old new → Few
  few_both x = (both_at_most p c old new x, x.told)

  few_reads : OnlyReads old new → Few
  few_reads x = (reads_at_most (p ∷ c ∷ []) old new x, x.told)

  pub others_at : (m : List ℕ) (search : Search) (answer : PlanAnswer) → PlanExplains m p c search old new answer → Few
  others_at m search (optimal says nodes amount) x = few_both x.1
  others_at m search (infeasible says nodes) x = few_certificate x.1
  others_at m search (between says nodes bound amount) x = few_both x.1
  others_at m search (above says nodes bound) x = few_certificate x.1
  others_at m search (unwritten file) x = ⊎_elim (λ plan. few_plan plan.2) (λ certificate. ⊎_elim (λ best. few_both best.2) (λ none. few_certificate none.2) certificate) x.1
  others_at m search (no_input why) x = few_reads x.2

-- ---- what the files call for
-- a problem that was left open may be
pub open_calls : (problem : Problem) (sought : Sought) (bound : ℕ) (found : Found) → IsFound problem sought found → found.certificate.claim ≡ BoundOf bound → MayBeLeft problem sought
open_calls problem sought bound found is claims = record {
  coupled = λ alone. left_alone found bound claims (is.uncoupled.1 alone) is.used;
  large = λ no_gap unstopped total ts fits. absurd (subst IsDecided claims (is.small no_gap unstopped total ts fits));
}

-- whatever plan it started from
left_anyway : (problem : Problem) (search : Search) (begins : Option ℕ) → MayBeLeft problem (sought_by search begins) → MayBeLeft problem (sought_by search None)
left_anyway problem search begins left = record { coupled = left.coupled; large = left.large }

-- the number of what `judge` answers of files that hold no feasible plan
record IsNoneNumber (code : ℕ) : Type 0 where
  low : FAULTY ≤ code
  other : code ≢ UNWRITTEN

none_number : (code : ℕ) (answer : JudgeAnswer) → FindsNone answer → code ≡ code_of (judge_status answer) → IsNoneNumber code
none_number code (feasible amount) none is = absurd none
none_number code (no_plan fault) none is = record { low = omega (arith, is); other = λ e. omega (arith, is, e) }
none_number code (broken rule) none is = record { low = omega (arith, is); other = λ e. omega (arith, is, e) }
none_number code (no_files why) none is = let r = reading why code is in record { low = omega (arith, r.low); other = r.other }

module _ (m : List ℕ) (search : Search) (code : ℕ) (old : Shelved) where
  -- without regard to a plan to start from
  abbrev any_start : Sought
  any_start = sought_by search None

  by_bytes : (bytes : List ℕ) → old.file m ≡ Some bytes → FileCallsFor (Some bytes) any_start code → FileCallsFor (old.file m) any_start code
  by_bytes bytes same calls = subst (λ f. FileCallsFor f any_start code) (sym same) calls

  by_model : (problem : Problem) → HoldsProblem old.file m problem → ProblemCallsFor problem any_start code → FileCallsFor (old.file m) any_start code
  by_model problem h calls = by_bytes h.bytes h.read (inr (h.short, inr (problem, h.means, calls)))

  -- of a file to start from, which held a feasible plan
  by_start : (start : Option (List ℕ)) (P : Problem → Sought → Type 0) → OfStart old.file m search start P → FileCallsFor (old.file m) any_start code → PlanCallFor m any_start start old.file code
  by_start None P x calls = calls
  by_start (Some start) P x calls = inr (judging.feasible_calls old.file m start (λ k plan. P k (sought_by search (Some (cost k plan)))) x, calls)

  -- of a search whose answer calls for the number
  by_search : (P : Problem → Sought → Type 0) → OfSearch old.file m search P → ((problem : Problem) (begins : Option ℕ) → P problem (sought_by search begins) → ProblemCallsFor problem any_start code) → PlanCallFor m any_start search.start old.file code
  by_search P x calls =
      let f = in_model old.file m search search.start P x in
      by_start search.start P x (by_model f.0 f.1 (calls f.0 f.2.0 f.2.1))

  module _ (p c : List ℕ) (new : Shelved) (out_old out_new : Printed) (fine : HadNoFault old new out_old out_new) (t : IsTrue old.told) where
    stop_called : (why : ReadAnswer) → ModelExplains m old new why → code ≡ code_of (read_status why) → FileCallsFor (old.file m) any_start code
    stop_called (refused fault) x is = let h = x t in by_bytes h.bytes h.read (inr (h.short, inl (fault, h.means, is)))
    stop_called (missing file) x is = subst (λ f. FileCallsFor f any_start code) (sym (x.2 t)) is
    stop_called (unread file) x is = absurd (fine.read x.1)
    stop_called (too_long file) x is = let h = x.2 t in by_bytes h.bytes h.read (inl (h.long, is))

    called_at : (answer : PlanAnswer) → PlanExplains m p c search old new answer → code ≡ code_of (plan_status answer) → PlanCallFor m any_start search.start old.file code
    called_at (optimal says nodes amount) x is =
        by_search (λ k s. WritesOptimal new.file k p c s says nodes amount) (x.0 t) (λ problem begins w. inl (is, w.best.chosen, w.best.best.feasible))
    called_at (infeasible says nodes) x is =
        by_search (λ k s. WritesInfeasible old.file new.file k p c s says nodes) (x.0 t) (λ problem begins w. inr (inl (is, w.impossible)))
    called_at (between says nodes bound amount) x is =
        by_search (λ k s. WritesBetween new.file k p c s says nodes bound amount) (x.0 t)
        (λ problem begins w. inr (inr (is, left_anyway problem search begins (open_calls problem (sought_by search begins) bound w.shows.found w.shows.is w.shows.claims))))
    called_at (above says nodes bound) x is =
        by_search (λ k s. WritesAbove old.file new.file k p c s says nodes bound) (x.0 t)
        (λ problem begins w. inr (inr (is, left_anyway problem search begins (open_calls problem (sought_by search begins) bound w.shows.found w.shows.is w.shows.claims))))
    called_at (unwritten file) x is = absurd (fine.written x.0)
    called_at (no_input why) x is = subst (λ s. PlanCallFor m any_start s old.file code) (sym x.0) (stop_called why x.1 is)

    pub called_of : (outcome : PlanOutcome) → OutcomeExplains m p c search old new outcome → code ≡ code_of (outcome_status outcome) → PlanCallFor m any_start search.start old.file code
    called_of (of_search answer) x is = called_at answer x is
    called_of (of_start answer) (start, named, none, x, reads) is =
        let n = none_number code answer none is in
        let calls = judging.called_at m start code old new out_old out_new fine t answer x is in
        subst (λ s. PlanCallFor m any_start s old.file code) (sym named) (inl (λ done. omega (arith, n.low, done), calls))

-- ---- what was written is accepted
holds_on : (before after : Files) (m : List ℕ) (problem : Problem) → after m ≡ before m → HoldsProblem before m problem → HoldsProblem after m problem
holds_on before after m problem same h = record { bytes = h.bytes; read = same ∙ h.read; short = h.short; means = h.means }

-- some claim is
abbrev pub SomeAccepted : Files → List ℕ → List ℕ → List ℕ → Type 0
SomeAccepted after m p c = (claim : Claim) × AllAre after m p c (accepted claim)

-- the number of a search that ended
abbrev pub EndsSearch : ℕ → Type 0
EndsSearch code = (code ≡ DONE) ⊎ ((code ≡ NO_PLAN) ⊎ (code ≡ UNDECIDED))

pub low_ends : (code : ℕ) → UNDECIDED < code → EndsSearch code → ⊥
low_ends code low done = ⊎_elim (λ e. omega (arith, low, e)) (λ rest. ⊎_elim (λ e. omega (arith, low, e)) (λ e. omega (arith, low, e)) rest) done

module _ (m p c : List ℕ) (search : Search) (code : ℕ) (old new : Shelved) (apart : AreApart m p c) (t : IsTrue old.told) where
  on_both : (problem : Problem) → StartsAmong (p ∷ c ∷ []) 2 old new → HoldsProblem old.file m problem → HoldsProblem new.file m problem
  on_both problem touches h = holds_on old.file new.file m problem (touches.others t m (apart.plan, (apart.certificate, tt))) h

  on_one : (problem : Problem) → StartsAmong (c ∷ []) 1 old new → HoldsProblem old.file m problem → HoldsProblem new.file m problem
  on_one problem touches h = holds_on old.file new.file m problem (touches.others t m (apart.certificate, tt)) h

  accepted_at : (answer : PlanAnswer) → PlanExplains m p c search old new answer → code ≡ code_of (plan_status answer) → EndsSearch code → SomeAccepted new.file m p c
  accepted_at (optimal says nodes amount) x is done =
      let (problem, h, (begins, w)) = in_model old.file m search search.start (λ k s. WritesOptimal new.file k p c s says nodes amount) (x.0 t) in
      (Optimal amount, (problem, on_both problem x.1 h, w.proof.proof))
  accepted_at (infeasible says nodes) x is done =
      let (problem, h, (begins, w)) = in_model old.file m search search.start (λ k s. WritesInfeasible old.file new.file k p c s says nodes) (x.0 t) in
      (Infeasible, (problem, on_one problem x.1 h, w.proof.proof))
  accepted_at (between says nodes bound amount) x is done =
      let (problem, h, (begins, w)) = in_model old.file m search search.start (λ k s. WritesBetween new.file k p c s says nodes bound amount) (x.0 t) in
      (BoundOf bound, (problem, on_both problem x.1 h, w.proof.proof))
  accepted_at (above says nodes bound) x is done =
      let (problem, h, (begins, w)) = in_model old.file m search search.start (λ k s. WritesAbove old.file new.file k p c s says nodes bound) (x.0 t) in
      (BoundOf bound, (problem, on_one problem x.1 h, w.proof.proof))
  accepted_at (unwritten file) x is done = absurd (low_ends code (omega (arith, is)) done)
  accepted_at (no_input why) x is done =
      let r = reading why code is in
      absurd (low_ends code (omega (arith, r.low)) done)

  pub accepted_of : (outcome : PlanOutcome) → OutcomeExplains m p c search old new outcome → code ≡ code_of (outcome_status outcome) → EndsSearch code → SomeAccepted new.file m p c
  accepted_of (of_search answer) x is done = accepted_at answer x is done
  accepted_of (of_start answer) (start, named, none, x, reads) is done =
      let n = none_number code answer none is in
      absurd (low_ends code (omega (arith, n.low)) done)

-- ---- what is kept of a plan to start from
-- what is so of each feasible plan of the files
on_feasible : (before : Files) (m p : List ℕ) (P Q : Problem → Plan → Type 0) → ((problem : Problem) (plan : Plan) → P problem plan → Q problem plan) → OfFeasible before m p P → OfFeasible before m p Q
on_feasible before m p P Q to x =
    let f = x.2 in
    let are = f.3 in
    (x.0, x.1, (f.0, f.1, f.2, record { plan = are.plan; is = are.is; feasible = are.feasible; holds = to x.0 are.plan are.holds }))

-- what a plan that was found costs is no more than what it may cost
at_most : (problem : Problem) (given : Option Grids) (amount most : ℕ) → PlanCosts problem given (Some amount) → CostsAtMost problem given most → amount ≤ most
at_most problem (Some plan) amount most costs kept = subst (λ a. a ≤ most) costs kept
at_most problem None amount most costs kept = absurd kept

never_kept : (problem : Problem) (given : Option Grids) (most : ℕ) → PlanCosts problem given None → CostsAtMost problem given most → ⊥
never_kept problem (Some plan) most costs kept = absurd costs
never_kept problem None most costs kept = absurd kept

module _ (m p c : List ℕ) (search : Search) (start : List ℕ) (named : search.start ≡ Some start) (code : ℕ) (old new : Shelved) (t : IsTrue old.told) where
  -- what was found costs no more than the plan to start from
  abbrev KeepsIt : Problem → Plan → Type 0
  KeepsIt problem given = (amount : ℕ) × WritesFeasible new.file problem p amount × (amount ≤ cost problem given)

  kept_by : (P : Problem → Sought → Type 0) → ((problem : Problem) (given : Plan) → P problem (sought_by search (Some (cost problem given))) → KeepsIt problem given) → OfSearch old.file m search P → KeepsStart old.file new.file m p start
  kept_by P to x = on_feasible old.file m start (λ k plan. P k (sought_by search (Some (cost k plan)))) KeepsIt to (subst (λ s. OfStart old.file m search s P) named x)

  kept_at : (answer : PlanAnswer) → PlanExplains m p c search old new answer → code ≡ code_of (plan_status answer) → (code ≡ DONE) ⊎ (code ≡ UNDECIDED) → KeepsStart old.file new.file m p start
  kept_at (optimal says nodes amount) x is done = kept_by (λ k s. WritesOptimal new.file k p c s says nodes amount) (λ problem given w.
      let b = w.best in
      (amount, record { chosen = b.chosen; feasible = b.best.feasible; costs = b.costs; best = λ alone. b.best; written = b.written }, at_most problem w.shows.found.plan amount (cost problem given) w.shows.plan w.shows.is.kept))
      (x.0 t)
  kept_at (infeasible says nodes) x is done = absurd (⊎_elim (λ e. omega (arith, is, e)) (λ e. omega (arith, is, e)) done)
  kept_at (between says nodes bound amount) x is done = kept_by (λ k s. WritesBetween new.file k p c s says nodes bound amount)
      (λ problem given w. (amount, w.plan, at_most problem w.shows.found.plan amount (cost problem given) w.shows.plan w.shows.is.kept)) (x.0 t)
  kept_at (above says nodes bound) x is done = kept_by (λ k s. WritesAbove old.file new.file k p c s says nodes bound)
      (λ problem given w. absurd (never_kept problem w.shows.found.plan (cost problem given) w.shows.plan w.shows.is.kept)) (x.0 t)
  kept_at (unwritten file) x is done = absurd (⊎_elim (λ e. omega (arith, is, e)) (λ e. omega (arith, is, e)) done)
  kept_at (no_input why) x is done = let r = reading why code is in absurd (⊎_elim (λ e. omega (arith, r.low, e)) (λ e. omega (arith, r.low, e)) done)

  pub kept_of : (outcome : PlanOutcome) → OutcomeExplains m p c search old new outcome → code ≡ code_of (outcome_status outcome) → (code ≡ DONE) ⊎ (code ≡ UNDECIDED) → KeepsStart old.file new.file m p start
  kept_of (of_search answer) x is done = kept_at answer x is done
  kept_of (of_start answer) (first, same, none, x, reads) is done =
      let n = none_number code answer none is in
      absurd (⊎_elim (λ e. omega (arith, n.low, e)) (λ e. omega (arith, n.low, e)) done)

-- ---- files that give nothing to go on with, and the number of an answer
stop_at : (m p c : List ℕ) (search : Search) (old new : Shelved) (line : List ℕ) (status : Status) (answer : PlanAnswer) → PlanExplains m p c search old new answer → line ≡ plan_line answer → status ≡ plan_status answer → IsReading (code_of status) → SomeStop (plan_meaning m p c search) old new line status
stop_at m p c search old new line status (optimal root nodes amount) x says ends r = absurd (omega (arith, ap code_of ends, r.low))
stop_at m p c search old new line status (infeasible root nodes) x says ends r = absurd (omega (arith, ap code_of ends, r.low))
stop_at m p c search old new line status (between root nodes least amount) x says ends r = absurd (omega (arith, ap code_of ends, r.low))
stop_at m p c search old new line status (above root nodes least) x says ends r = absurd (omega (arith, ap code_of ends, r.low))
stop_at m p c search old new line status (unwritten file) x says ends r = absurd (r.other (ap code_of ends))
stop_at m p c search old new line status (no_input why) x says ends r = record { why = why; cause = subst (λ s. PlanStops m s old new why) (sym x.0) x.1; says = says; ends = ends }

answer_number : (answer : PlanAnswer) → IsCommandNumber (code_of (plan_status answer))
answer_number (optimal says nodes amount) = record { answers = record { unprinted = λ e. omega (arith, e); no_memory = λ e. omega (arith, e) }; command = λ e. omega (arith, e) }
answer_number (infeasible says nodes) = record { answers = record { unprinted = λ e. omega (arith, e); no_memory = λ e. omega (arith, e) }; command = λ e. omega (arith, e) }
answer_number (between says nodes least amount) = record { answers = record { unprinted = λ e. omega (arith, e); no_memory = λ e. omega (arith, e) }; command = λ e. omega (arith, e) }
answer_number (above says nodes least) = record { answers = record { unprinted = λ e. omega (arith, e); no_memory = λ e. omega (arith, e) }; command = λ e. omega (arith, e) }
answer_number (unwritten file) = record { answers = record { unprinted = λ e. omega (arith, e); no_memory = λ e. omega (arith, e) }; command = λ e. omega (arith, e) }
answer_number (no_input why) = read_number why

wrote_at : (m p c : List ℕ) (search : Search) (code : ℕ) (old new : Shelved) (answer : PlanAnswer) → PlanExplains m p c search old new answer → code ≡ code_of (plan_status answer) → code ≡ DONE → GrewBy 2 old.starts new.starts
wrote_at m p c search code old new (optimal says nodes amount) x is zero = x.1.starts
wrote_at m p c search code old new (infeasible says nodes) x is zero = absurd (omega (arith, is, zero))
wrote_at m p c search code old new (between says nodes bound amount) x is zero = absurd (omega (arith, is, zero))
wrote_at m p c search code old new (above says nodes bound) x is zero = absurd (omega (arith, is, zero))
wrote_at m p c search code old new (unwritten file) x is zero = absurd (omega (arith, is, zero))
wrote_at m p c search code old new (no_input why) x is zero = absurd (omega (arith, (reading why code is).low, zero))

-- ---- the same of each outcome
stop_of : (m p c : List ℕ) (search : Search) (old new : Shelved) (line : List ℕ) (status : Status) (outcome : PlanOutcome) → OutcomeExplains m p c search old new outcome → line ≡ outcome_line outcome → status ≡ outcome_status outcome → IsReading (code_of status) → SomeStop (plan_meaning m p c search) old new line status
stop_of m p c search old new line status (of_search answer) x says ends r = stop_at m p c search old new line status answer x says ends r
stop_of m p c search old new line status (of_start answer) (start, named, none, x, reads) says ends r =
    judging.stop_at (plan_meaning m p c search) m start old new line status (λ why y. subst (λ s. PlanStops m s old new why) (sym named) y) answer x says ends r

outcome_number : (outcome : PlanOutcome) → IsCommandNumber (code_of (outcome_status outcome))
outcome_number (of_search answer) = answer_number answer
outcome_number (of_start answer) = judging.answer_number answer

wrote_of : (m p c : List ℕ) (search : Search) (code : ℕ) (old new : Shelved) (outcome : PlanOutcome) → OutcomeExplains m p c search old new outcome → code ≡ code_of (outcome_status outcome) → code ≡ DONE → GrewBy 2 old.starts new.starts
wrote_of m p c search code old new (of_search answer) x is zero = wrote_at m p c search code old new answer x is zero
wrote_of m p c search code old new (of_start answer) (start, named, none, x, reads) is zero = let n = none_number code answer none is in absurd (omega (arith, n.low, zero))

quiet_of : (m p c : List ℕ) (search : Search) (code : ℕ) (old new : Shelved) (outcome : PlanOutcome) → OutcomeExplains m p c search old new outcome → code ≡ code_of (outcome_status outcome) → code ≢ DONE → code ≢ NO_PLAN → code ≢ UNDECIDED → code ≢ UNWRITTEN → OnlyReads old new
quiet_of m p c search code old new (of_search answer) x is some one two other = quiet_at m p c search code old new answer x is some one two other
quiet_of m p c search code old new (of_start answer) (start, named, none, x, reads) is some one two other = reads

others_of : (m p c : List ℕ) (search : Search) (old new : Shelved) (outcome : PlanOutcome) → OutcomeExplains m p c search old new outcome → Few p c old new
others_of m p c search old new (of_search answer) x = others_at p c old new m search answer x
others_of m p c search old new (of_start answer) (start, named, none, x, reads) = few_reads p c old new reads

module _ (m p c : List ℕ) (search : Search) (code : ℕ) (old new : Shelved) (out_old out_new : Printed) where
  pub optimal_of : (outcome : PlanOutcome) → OutcomeExplains m p c search old new outcome → code ≡ code_of (outcome_status outcome) → Gains (outcome_line outcome) out_old out_new → code ≡ DONE → IsTrue old.told → PlansBest old.file new.file m p c search out_old out_new
  optimal_of (of_search answer) x is lines zero t = optimal_at m p c search code old new out_old out_new answer x is lines zero t
  optimal_of (of_start answer) (start, named, none, x, reads) is lines zero t = let n = none_number code answer none is in absurd (omega (arith, n.low, zero))

  pub impossible_of : (outcome : PlanOutcome) → OutcomeExplains m p c search old new outcome → code ≡ code_of (outcome_status outcome) → Gains (outcome_line outcome) out_old out_new → code ≡ NO_PLAN → (IsTrue old.told → FindsNoPlan old.file new.file m p c search out_old out_new) × StartsAmong (c ∷ []) 1 old new
  impossible_of (of_search answer) x is lines one = impossible_at m p c search code old new out_old out_new answer x is lines one
  impossible_of (of_start answer) (start, named, none, x, reads) is lines one = let n = none_number code answer none is in absurd (omega (arith, n.low, one))

  pub open_of : (outcome : PlanOutcome) → OutcomeExplains m p c search old new outcome → code ≡ code_of (outcome_status outcome) → Gains (outcome_line outcome) out_old out_new → code ≡ UNDECIDED → (IsTrue old.told → LeavesOpen old.file new.file m p c search out_old out_new) × StartsSome m p c search code old new out_old out_new
  open_of (of_search answer) x is lines two = open_at m p c search code old new out_old out_new answer x is lines two
  open_of (of_start answer) (start, named, none, x, reads) is lines two = let n = none_number code answer none is in absurd (omega (arith, n.low, two))

  pub unwritten_of : (outcome : PlanOutcome) → OutcomeExplains m p c search old new outcome → code ≡ code_of (outcome_status outcome) → Gains (outcome_line outcome) out_old out_new → code ≡ UNWRITTEN → FailsToWrite old new m p c out_old out_new
  unwritten_of (of_search answer) x is line eight = unwritten_at m p c search code old new out_old out_new answer x is line eight
  unwritten_of (of_start answer) (start, named, none, x, reads) is line eight = let n = none_number code answer none is in absurd (n.other eight)

  -- a fault is one of the file to start from
  no_fault_at : (answer : PlanAnswer) → code ≡ code_of (plan_status answer) → code ≡ FAULTY → ⊥
  no_fault_at (optimal says nodes amount) is three = omega (arith, is, three)
  no_fault_at (infeasible says nodes) is three = omega (arith, is, three)
  no_fault_at (between says nodes bound amount) is three = omega (arith, is, three)
  no_fault_at (above says nodes bound) is three = omega (arith, is, three)
  no_fault_at (unwritten file) is three = omega (arith, is, three)
  no_fault_at (no_input why) is three = omega (arith, (reading why code is).low, three)

  pub faulty_of : (outcome : PlanOutcome) → OutcomeExplains m p c search old new outcome → code ≡ code_of (outcome_status outcome) → Gains (outcome_line outcome) out_old out_new → code ≡ FAULTY → IsTrue old.told → FindsStartFault old.file m search out_old out_new
  faulty_of (of_search answer) x is line three t = absurd (no_fault_at answer is three)
  faulty_of (of_start answer) (start, named, none, x, reads) is line three t = record { start = start; named = named; finds = judging.fault_at m start code old new out_old out_new answer x is line three t }

-- ---- the command
pub plan_kept : (m p c : List ℕ) (search : Search) → IsCommand (plan_meaning m p c search)
plan_kept m p c search = record {
  kept = record {
    after = λ old new line status d. record {
      number = subst (λ s. IsAnswerNumber (code_of s)) (sym d.ends) (outcome_number d.answer).answers;
      quiet = λ some one two other. quiet_of m p c search (code_of status) old new d.answer d.why (ap code_of d.ends) some one two other;
      writes = (others_of m p c search old new d.answer d.why).0;
      tells = (others_of m p c search old new d.answer d.why).1;
      wrote = λ zero. wrote_of m p c search (code_of status) old new d.answer d.why (ap code_of d.ends) zero;
      reads = λ e. absurd (cc e);
      idle = λ e. absurd (cc e);
      stops = λ r. inl (stop_of m p c search old new line status d.answer d.why d.says d.ends r);
      calls = λ out_old out_new fine t. called_of m search (code_of status) old p c new out_old out_new fine t d.answer d.why (ap code_of d.ends);
    };
    one = λ laws file s t a b. start_call m (sought_by search None) search.start file s t a b;
    some = λ by file. start_some by m (sought_by search None) search.start file;
  };
  command = λ old new line status d. subst (λ s. code_of s ≢ NO_COMMAND) (sym d.ends) (outcome_number d.answer).command;
}

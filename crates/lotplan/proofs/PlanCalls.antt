-- The model file calls for a status of `plan`, and for one, but for what may be left open.
use Rattle.std.proofs.Common.{◌≡◌, ◌⊎◌, ◌≤◌, ◌∙◌, ⊎_elim, inl, inr, ℕ, sym, subst, arith, List, Option, Some, None, refl, length}
use Rattle.std.specs.Prelude.{Ok, Err, Result}
use Rattle.lot_sizing.specs.Problem.{Problem}
use Rattle.lot_sizing.specs.Totals.{IsRanking}
use Rattle.lot_draft.specs.declared.fault.ModelFault.{ModelFault}
use Rattle.instance_reader.specs.Model.{BytesMean}
use Rattle.instance_reader.specs.declared.versions.TheConstants.{NEWEST_VERSION}
use Rattle.lotplan.specs.Planning.{FileCallsFor, MayBeLeft, MayLeave, PlanCallFor, PlanMayLeave, ProblemCallsFor}
use Rattle.lotplan.specs.Judging.{JudgeCallsFor}
use Rattle.lotplan.specs.declared.sought.Sought.{Sought}
use Rattle.lotplan.specs.Reading.{file_limit}
use Rattle.lotplan.specs.declared.status.TheConstants.{DONE, NO_PLAN, REFUSED, MISSING, TOO_LONG}
use Rattle.std.proofs.lemmas.Bool.{cases_eq, cases_lt}
use Rattle.lot_io.specs.Outside.{Files}
use Rattle.lotplan.proofs.JudgeCalls.{judge_call, judge_some}
use Rattle.lotplan.proofs.Calls.{Grounds, OneIsUndecided, no_fault, one_problem, ranked}

-- ---- for one
pub problem_one : (m : Problem) (sought : Sought) (s t : ℕ) → ProblemCallsFor m sought s → ProblemCallsFor m sought t → (s ≡ t) ⊎ (MayBeLeft m sought × OneIsUndecided s t)
problem_one m sought s t (inl a) (inl b) = inl (a.0 ∙ sym b.0)
problem_one m sought s t (inl (is, p, feasible)) (inr (inl b)) = absurd (b.1 p feasible)
problem_one m sought s t (inl a) (inr (inr b)) = inr (b.1, inr b.0)
problem_one m sought s t (inr (inl a)) (inl (is, p, feasible)) = absurd (a.1 p feasible)
problem_one m sought s t (inr (inl a)) (inr (inl b)) = inl (a.0 ∙ sym b.0)
problem_one m sought s t (inr (inl a)) (inr (inr b)) = inr (b.1, inr b.0)
problem_one m sought s t (inr (inr a)) other = inr (a.1, inl a.0)

pub file_call : (file : Option (List ℕ)) (sought : Sought) (s t : ℕ) → FileCallsFor file sought s → FileCallsFor file sought t → (s ≡ t) ⊎ (MayLeave file sought × OneIsUndecided s t)
file_call None sought s t a b = inl (a ∙ sym b)
file_call (Some bytes) sought s t (inl a) (inl b) = inl (a.1 ∙ sym b.1)
file_call (Some bytes) sought s t (inl a) (inr b) = absurd (omega (arith, a.0, b.0))
file_call (Some bytes) sought s t (inr a) (inl b) = absurd (omega (arith, a.0, b.0))
file_call (Some bytes) sought s t (inr (short, inl (f, reads, is))) (inr (also, inl (g, too, other))) = inl (is ∙ sym other)
file_call (Some bytes) sought s t (inr (short, inl (f, reads, is))) (inr (also, inr (m, too, calls))) = absurd (no_fault bytes m f too reads)
file_call (Some bytes) sought s t (inr (short, inr (m, reads, calls))) (inr (also, inl (f, too, is))) = absurd (no_fault bytes m f reads too)
file_call (Some bytes) sought s t (inr (short, inr (m, reads, calls))) (inr (also, inr (n, too, other))) =
    ⊎_elim
    (λ same. inl same)
    (λ left. inr ((m, reads, left.0), left.1))
    (problem_one m sought s t calls (subst (λ k. ProblemCallsFor k sought t) (one_problem bytes n m too reads) other))

-- with a file to start from or without
pub start_call : (m : List ℕ) (sought : Sought) (start : Option (List ℕ)) (file : Files) (s t : ℕ) → PlanCallFor m sought start file s → PlanCallFor m sought start file t → (s ≡ t) ⊎ (PlanMayLeave m sought start file × OneIsUndecided s t)
start_call m sought None file s t a b = file_call (file m) sought s t a b
start_call m sought (Some start) file s t (inl a) (inl b) = inl (judge_call (file m) (file start) s t a.1 b.1)
start_call m sought (Some start) file s t (inl a) (inr b) = absurd (a.0 (judge_call (file m) (file start) s DONE a.1 b.0))
start_call m sought (Some start) file s t (inr a) (inl b) = absurd (b.0 (judge_call (file m) (file start) t DONE b.1 a.0))
start_call m sought (Some start) file s t (inr a) (inr b) = ⊎_elim
    (λ same. inl same)
    (λ left. inr ((a.0, left.0), left.1))
    (file_call (file m) sought s t a.1 b.1)

-- ---- for some
module _ (by : Grounds) where
  -- of a problem in which no item is its own component
  pub ranked_some : (m : Problem) (sought : Sought) (rank : ℕ → ℕ) → IsRanking m rank → (status : ℕ) × ProblemCallsFor m sought status
  ranked_some m sought rank ranks = ⊎_elim
      (λ plan. (DONE, inl (refl, plan.0, plan.1)))
      (λ none. (NO_PLAN, inr (inl (refl, none))))
      (by.decided m rank ranks)

  problem_some : (bytes : List ℕ) (m : Problem) (sought : Sought) → BytesMean bytes (Ok m) → (status : ℕ) × ProblemCallsFor m sought status
  problem_some bytes m sought means = let rank = ranked bytes m means in ranked_some m sought rank.0 rank.1

  bytes_some : (bytes : List ℕ) (sought : Sought) → length bytes ≤ file_limit → (r : Result Problem ModelFault) → BytesMean bytes r → (status : ℕ) × FileCallsFor (Some bytes) sought status
  bytes_some bytes sought short (Ok m) means = let call = problem_some bytes m sought means in (call.0, inr (short, inr (m, means, call.1)))
  bytes_some bytes sought short (Err fault) means = (REFUSED, inr (short, inl (fault, means, refl)))

  pub file_some : (file : Option (List ℕ)) (sought : Sought) → (status : ℕ) × FileCallsFor file sought status
  file_some None sought = (MISSING, refl)
  file_some (Some bytes) sought = ⊎_elim
      (λ long. (TOO_LONG, inl (long, refl)))
      (λ short.
      let means = by.bytes NEWEST_VERSION bytes in
      bytes_some bytes sought short means.0 means.1)
      (cases_lt file_limit (length bytes))

  pub start_some : (m : List ℕ) (sought : Sought) (start : Option (List ℕ)) (file : Files) → (status : ℕ) × PlanCallFor m sought start file status
  start_some m sought None file = file_some (file m) sought
  start_some m sought (Some start) file =
      let judged = judge_some by (file m) (file start) in
      let call = file_some (file m) sought in
      ⊎_elim
      (λ done. (call.0, inr (subst (JudgeCallsFor (file m) (file start)) done judged.1, call.1)))
      (λ other. (judged.0, inl (other, judged.1)))
      (cases_eq judged.0 DONE)

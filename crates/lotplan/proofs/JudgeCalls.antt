-- The two files call for a status of `judge`, and for one.
use Rattle.std.proofs.Common.{◌≡◌, ◌⊎◌, ◌≤◌, ◌∙◌, ⊎_elim, inl, inr, ℕ, sym, subst, arith, List, Option, Some, None, refl, length}
use Rattle.std.specs.Prelude.{Ok, Err, Result}
use Rattle.plan_rules.specs.declared.broken.Broken.{Broken}
use Rattle.plan_file.specs.declared.fault.PlanFault.{PlanFault}
use Rattle.lot_sizing.specs.Problem.{Problem}
use Rattle.lot_sizing.specs.Plan.{IsFeasible, Plan, cost}
use Rattle.lot_sizing.proofs.Same.{feasible_same}
use Rattle.lot_draft.specs.declared.fault.ModelFault.{ModelFault}
use Rattle.instance_reader.specs.Model.{BytesMean}
use Rattle.instance_reader.specs.declared.versions.TheConstants.{NEWEST_VERSION}
use Rattle.plan_file.specs.Records.{IsPlanOf, records_of}
use Rattle.plan_file.proofs.Meanings.{means_one}
use Rattle.lotplan.specs.Reading.{AreNoPlan, file_limit}
use Rattle.lotplan.specs.Judging.{AreBroken, AreFeasible, JudgeCallsFor, PlanCallsFor}
use Rattle.lotplan.specs.declared.status.TheConstants.{DONE, FAULTY, REFUSED, MISSING, TOO_LONG}
use Rattle.std.proofs.lemmas.Bool.{cases_lt}
use Rattle.lotplan.proofs.Calls.{Grounds, has_period, no_fault, one_problem, same_plan}

-- ---- for one
module _ (m : Problem) (some : 1 ≤ m.periods) (bytes : List ℕ) where
  apart : (p q : Plan) → IsPlanOf m (records_of bytes) p → IsPlanOf m (records_of bytes) q → IsFeasible m p → (IsFeasible m q → ⊥) → ⊥
  apart p q a b feasible not = not (feasible_same m p q some (same_plan m bytes p q a b) feasible)

  -- a feasible plan, one that breaks a rule, or none
  abbrev PlanKind : ℕ → Type 0
  PlanKind u = ((amount : ℕ) × AreFeasible m bytes amount × (u ≡ DONE)) ⊎ (((rule : Broken) × AreBroken m bytes rule × (u ≡ FAULTY)) ⊎ ((fault : PlanFault) × AreNoPlan m bytes fault × (u ≡ FAULTY)))

  plan_call : (s t : ℕ) → PlanKind s → PlanKind t → s ≡ t
  plan_call s t a b = ⊎_elim
      (λ x. let (amount, holds, is) = x in ⊎_elim
      (λ y. let (other, also, too) = y in is ∙ sym too)
      (λ y. absurd (⊎_elim
      (λ z. let (rule, broken, too) = z in apart holds.plan broken.plan holds.is broken.is holds.feasible broken.infeasible)
      (λ z. let (fault, none, too) = z in none.cause ((means_one m (records_of bytes)).plan_or_fault holds.plan fault holds.is none.is))
      y))
      b)
      (λ x. ⊎_elim
      (λ y. let (amount, holds, is) = y in absurd (⊎_elim
      (λ z. let (rule, broken, too) = z in apart holds.plan broken.plan holds.is broken.is holds.feasible broken.infeasible)
      (λ z. let (fault, none, too) = z in none.cause ((means_one m (records_of bytes)).plan_or_fault holds.plan fault holds.is none.is))
      x))
      (λ y. faulty s x ∙ sym (faulty t y))
      b)
      a
    where
      faulty : (u : ℕ) → ((rule : Broken) × AreBroken m bytes rule × (u ≡ FAULTY)) ⊎ ((fault : PlanFault) × AreNoPlan m bytes fault × (u ≡ FAULTY)) → u ≡ FAULTY
      faulty u x = ⊎_elim (λ z. let (rule, broken, is) = z in is) (λ z. let (fault, none, is) = z in is) x

plan_file_call : (m : Problem) → 1 ≤ m.periods → (file : Option (List ℕ)) (s t : ℕ) → PlanCallsFor m file s → PlanCallsFor m file t → s ≡ t
plan_file_call m some None s t a b = a ∙ sym b
plan_file_call m some (Some bytes) s t a b = ⊎_elim
    (λ x. ⊎_elim (λ y. x.1 ∙ sym y.1) (λ y. absurd (omega (arith, x.0, y.0))) b)
    (λ x. ⊎_elim (λ y. absurd (omega (arith, x.0, y.0))) (λ y. plan_call m some bytes s t x.1 y.1) b)
    a

pub judge_call : (file plan : Option (List ℕ)) (s t : ℕ) → JudgeCallsFor file plan s → JudgeCallsFor file plan t → s ≡ t
judge_call None plan s t a b = a ∙ sym b
judge_call (Some bytes) plan s t a b = ⊎_elim
    (λ x. ⊎_elim (λ y. x.1 ∙ sym y.1) (λ y. absurd (omega (arith, x.0, y.0))) b)
    (λ x. ⊎_elim (λ y. absurd (omega (arith, x.0, y.0))) (λ y. means x.1 y.1) b)
    a
  where
    means : ((fault : ModelFault) × BytesMean bytes (Err fault) × (s ≡ REFUSED)) ⊎ ((m : Problem) × BytesMean bytes (Ok m) × PlanCallsFor m plan s) → ((fault : ModelFault) × BytesMean bytes (Err fault) × (t ≡ REFUSED)) ⊎ ((m : Problem) × BytesMean bytes (Ok m) × PlanCallsFor m plan t) → s ≡ t
    means c d = ⊎_elim
        (λ x. let (f, reads, is) = x in ⊎_elim
        (λ y. let (g, also, other) = y in is ∙ sym other)
        (λ y. let (n, also, other) = y in absurd (no_fault bytes n f also reads))
        d)
        (λ x. let (m, reads, calls) = x in ⊎_elim
        (λ y. let (f, also, is) = y in absurd (no_fault bytes m f reads also))
        (λ y. let (n, also, other) = y in plan_file_call m (has_period bytes m reads) plan s t calls (subst (λ k. PlanCallsFor k plan t) (one_problem bytes n m also reads) other))
        d)
        c

-- ---- for some
module _ (by : Grounds) where
  plan_some : (m : Problem) (file : Option (List ℕ)) → (status : ℕ) × PlanCallsFor m file status
  plan_some m None = (MISSING, refl)
  plan_some m (Some bytes) = ⊎_elim
      (λ long. (TOO_LONG, inl (long, refl)))
      (λ short. ⊎_elim
      (λ read. ⊎_elim
      (λ feasible. (DONE, inr (short, inl (cost m read.0, record { plan = read.0; is = read.1; feasible = feasible; holds = refl }, refl))))
      (λ broken. (FAULTY, inr (short, inr (inl (broken.1, record { plan = read.0; is = read.1; infeasible = broken.0; breaks = broken.2 }, refl)))))
      (by.judged m read.0))
      (λ fault. (FAULTY, inr (short, inr (inr (fault.0, record { cause = fault.1; is = fault.2 }, refl)))))
      (by.records m (records_of bytes)))
      (cases_lt file_limit (length bytes))

  judged_some : (bytes : List ℕ) (plan : Option (List ℕ)) → length bytes ≤ file_limit → (r : Result Problem ModelFault) → BytesMean bytes r → (status : ℕ) × JudgeCallsFor (Some bytes) plan status
  judged_some bytes plan short (Ok m) means = let call = plan_some m plan in (call.0, inr (short, inr (m, means, call.1)))
  judged_some bytes plan short (Err fault) means = (REFUSED, inr (short, inl (fault, means, refl)))

  pub judge_some : (model plan : Option (List ℕ)) → (status : ℕ) × JudgeCallsFor model plan status
  judge_some None plan = (MISSING, refl)
  judge_some (Some bytes) plan = ⊎_elim
      (λ long. (TOO_LONG, inl (long, refl)))
      (λ short. let means = by.bytes NEWEST_VERSION bytes in judged_some bytes plan short means.0 means.1)
      (cases_lt file_limit (length bytes))

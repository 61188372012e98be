-- The three files call for a status of `check`, and for one.
use Rattle.std.proofs.Common.{◌≡◌, ◌≢◌, ◌⊎◌, ◌≤◌, ◌∙◌, ⊎_elim, inl, inr, ℕ, sym, subst, arith, List, Option, Some, None, ◌<◌, ◌-◌, refl, length}
use Rattle.std.specs.Prelude.{Ok, Err, Result}
use Rattle.plan_rules.specs.Held.{AllFit, plan_of}
use Rattle.cert_lines.specs.declared.parts.Claim.{Claim}
use Rattle.cert_lines.specs.declared.parts.Claim.TheVariants.{Optimal, Infeasible, Bound as BoundOf}
use Rattle.certificate.specs.declared.fault.CertTextFault.{CertTextFault}
use Rattle.certificate.specs.Faults.{IsCertTextFault}
use Rattle.certificate.specs.Limits.{IsTextOf, IsWritable}
use Rattle.certificate.specs.Shapes.{Shape}
use Rattle.plan_file.specs.declared.fault.PlanFault.{PlanFault}
use Rattle.lot_sizing.specs.Problem.{Problem, IsWithinLimits}
use Rattle.lot_draft.specs.declared.fault.ModelFault.{ModelFault}
use Rattle.instance_reader.specs.Model.{BytesMean}
use Rattle.instance_reader.specs.declared.versions.TheConstants.{NEWEST_VERSION}
use Rattle.plan_file.specs.Records.{IsPlanOf, records_of}
use Rattle.plan_file.proofs.Meanings.{means_one}
use Rattle.lotplan.specs.Reading.{AreNoPlan, file_limit}
use Rattle.lotplan.specs.Checking.{CheckCallsFor, ClaimCallsFor, GivenCallsFor, PlannedCallsFor, ProofCallsFor}
use Rattle.lotplan.specs.declared.status.TheConstants.{DONE, FAULTY, REFUSED, MISSING, TOO_LONG}
use Rattle.lotplan.proofs.Certified.{IsMeant, given_call, meant, planned_call}
use Rattle.std.proofs.lemmas.Bool.{cases_lt}
use Rattle.lot_sizing.specs.Totals.{IsRanking}
use Rattle.plan_rules.specs.declared.plan.Plan.{Plan}
use Rattle.stream_check.specs.Streams.{too_many}
use Rattle.answers_exist.specs.Checking.{IsDecided}
use Rattle.certificate.specs.declared.fault.CertTextFault.TheVariants as text
use Rattle.lotplan.proofs.Calls.{AreLaws, Grounds, no_fault, one_problem, ranked, same_plan}

-- ---- for one
-- what the bytes of a plan file, of a certificate file and of a model file may be
abbrev HasPlan : Problem → Shape → List ℕ → ℕ → Type 0
HasPlan m c bytes u = (plan : Plan) × AllFit m plan × IsPlanOf m (records_of bytes) (plan_of plan) × GivenCallsFor m c (Some plan) u

abbrev HasNoPlan : Problem → List ℕ → ℕ → Type 0
HasNoPlan m bytes u = (fault : PlanFault) × AreNoPlan m bytes fault × (u ≡ FAULTY)

abbrev HasText : Problem → Option (List ℕ) → List ℕ → ℕ → Type 0
HasText m plan bytes u = (c : Shape) × IsTextOf bytes c × ClaimCallsFor m c c.claim plan u

abbrev HasNoText : List ℕ → ℕ → Type 0
HasNoText bytes u = (fault : CertTextFault) × (fault ≢ text.Memory) × IsCertTextFault bytes fault × (u ≡ FAULTY)

abbrev HasModel : Option (List ℕ) → Option (List ℕ) → List ℕ → ℕ → Type 0
HasModel plan certificate bytes u = (m : Problem) × BytesMean bytes (Ok m) × ProofCallsFor m plan certificate u

abbrev HasNoModel : List ℕ → ℕ → Type 0
HasNoModel bytes u = (fault : ModelFault) × BytesMean bytes (Err fault) × (u ≡ REFUSED)

module _ (laws : AreLaws) (m : Problem) (known : IsMeant m) where
  planned_file : (c : Shape) (file : Option (List ℕ)) (s t : ℕ) → PlannedCallsFor m c file s → PlannedCallsFor m c file t → s ≡ t
  planned_file c None s t a b = a ∙ sym b
  planned_file c (Some bytes) s t a b = ⊎_elim
      (λ x. ⊎_elim (λ y. x.1 ∙ sym y.1) (λ y. absurd (omega (arith, x.0, y.0))) b)
      (λ x. ⊎_elim (λ y. absurd (omega (arith, x.0, y.0))) (λ y. plans x.1 y.1) b)
      a
    where
      apart_from : (u v : ℕ) → HasNoPlan m bytes u → HasPlan m c bytes v → ⊥
      apart_from u v none plan = none.1.cause ((means_one m (records_of bytes)).plan_or_fault (plan_of plan.0) none.0 plan.2 none.1.is)

      plans : HasNoPlan m bytes s ⊎ HasPlan m c bytes s → HasNoPlan m bytes t ⊎ HasPlan m c bytes t → s ≡ t
      plans x y = ⊎_elim
          (λ d. ⊎_elim (λ e. d.2 ∙ sym e.2) (λ e. absurd (apart_from s t d e)) y)
          (λ d. ⊎_elim
          (λ e. absurd (apart_from t s e d))
          (λ e. planned_call laws.checks m known c d.0 e.0 s t (same_plan m bytes (plan_of d.0) (plan_of e.0) d.2 e.2) (same_plan m bytes (plan_of e.0) (plan_of d.0) e.2 d.2) d.1 e.1 d.3 e.3)
          y)
          x

  claim_call : (c : Shape) (claim : Claim) (plan : Option (List ℕ)) (s t : ℕ) → ClaimCallsFor m c claim plan s → ClaimCallsFor m c claim plan t → s ≡ t
  claim_call c (Optimal amount) plan s t a b = planned_file c plan s t a b
  claim_call c Infeasible plan s t a b = given_call laws.checks m known c None s t a b
  claim_call c (BoundOf amount) plan s t a b = given_call laws.checks m known c None s t a b

  proof_call : (plan file : Option (List ℕ)) (s t : ℕ) → ProofCallsFor m plan file s → ProofCallsFor m plan file t → s ≡ t
  proof_call plan None s t a b = a ∙ sym b
  proof_call plan (Some bytes) s t a b = ⊎_elim
      (λ x. ⊎_elim (λ y. x.1 ∙ sym y.1) (λ y. absurd (omega (arith, x.0, y.0))) b)
      (λ x. ⊎_elim (λ y. absurd (omega (arith, x.0, y.0))) (λ y. certificates x.1 y.1) b)
      a
    where
      apart_from : (u v : ℕ) → HasNoText bytes u → HasText m plan bytes v → ⊥
      apart_from u v none c = none.1 ((laws.texts bytes).certificate_or_fault c.0 none.0 c.1 none.2)

      certificates : HasNoText bytes s ⊎ HasText m plan bytes s → HasNoText bytes t ⊎ HasText m plan bytes t → s ≡ t
      certificates x y = ⊎_elim
          (λ d. ⊎_elim (λ e. d.3 ∙ sym e.3) (λ e. absurd (apart_from s t d e)) y)
          (λ d. ⊎_elim
          (λ e. absurd (apart_from t s e d))
          (λ e. claim_call d.0 d.0.claim plan s t d.2 (subst (λ c. ClaimCallsFor m c c.claim plan t) ((laws.texts bytes).one_certificate e.0 d.0 e.1 d.1) e.2))
          y)
          x

pub check_call : AreLaws → (file plan certificate : Option (List ℕ)) (s t : ℕ) → CheckCallsFor file plan certificate s → CheckCallsFor file plan certificate t → s ≡ t
check_call laws None plan certificate s t a b = a ∙ sym b
check_call laws (Some bytes) plan certificate s t a b = ⊎_elim
    (λ x. ⊎_elim (λ y. x.1 ∙ sym y.1) (λ y. absurd (omega (arith, x.0, y.0))) b)
    (λ x. ⊎_elim (λ y. absurd (omega (arith, x.0, y.0))) (λ y. means x.1 y.1) b)
    a
  where
    means : HasNoModel bytes s ⊎ HasModel plan certificate bytes s → HasNoModel bytes t ⊎ HasModel plan certificate bytes t → s ≡ t
    means c d = ⊎_elim
        (λ x. ⊎_elim (λ y. x.2 ∙ sym y.2) (λ y. absurd (no_fault bytes y.0 x.0 y.1 x.1)) d)
        (λ x. ⊎_elim
        (λ y. absurd (no_fault bytes x.0 y.0 x.1 y.1))
        (λ y. proof_call laws x.0 (meant laws.totals laws.weights bytes x.0 x.1) plan certificate s t x.2 (subst (λ m. ProofCallsFor m plan certificate t) (one_problem bytes y.0 x.0 y.1 x.1) y.2))
        d)
        c

-- ---- for some
-- a certificate that is accepted or refused
pub decided_some : (m : Problem) (c : Shape) (given : Option Plan) → IsDecided m c given → (status : ℕ) × GivenCallsFor m c given status
decided_some m c given (inl accepted) = (DONE, inl (accepted, refl))
decided_some m c given (inr (line, w, fault)) = (FAULTY, inr (line, w, fault, refl))

-- the limit on a file's bytes, and the first length past it
pub within_file : (n : ℕ) → n ≤ too_many - 1 → n < too_many
within_file n few = omega (arith, few)

module _ (by : Grounds) where
  module _ (m : Problem) (rank : ℕ → ℕ) (limits : IsWithinLimits m) (ranks : IsRanking m rank) where
    given_some : (c : Shape) (given : Option Plan) → IsWritable c → (status : ℕ) × GivenCallsFor m c given status
    given_some c given writable = decided_some m c given (by.certificates m rank limits ranks c given writable)

    planned_some : (c : Shape) → IsWritable c → (file : Option (List ℕ)) → (status : ℕ) × PlannedCallsFor m c file status
    planned_some c writable None = (MISSING, refl)
    planned_some c writable (Some bytes) = ⊎_elim
        (λ long. (TOO_LONG, inl (long, refl)))
        (λ short. ⊎_elim
        (λ read.
        let (plan, fits, is) = by.held m (records_of bytes) read.0 read.1 in
        let call = given_some c (Some plan) writable in
        (call.0, inr (short, inr (plan, fits, is, call.1))))
        (λ fault. (FAULTY, inr (short, inl (fault.0, record { cause = fault.1; is = fault.2 }, refl))))
        (by.records m (records_of bytes)))
        (cases_lt file_limit (length bytes))

    claim_some : (c : Shape) → IsWritable c → (claim : Claim) (file : Option (List ℕ)) → (status : ℕ) × ClaimCallsFor m c claim file status
    claim_some c writable (Optimal amount) file = planned_some c writable file
    claim_some c writable Infeasible file = given_some c None writable
    claim_some c writable (BoundOf amount) file = given_some c None writable

    proof_some : (plan file : Option (List ℕ)) → (status : ℕ) × ProofCallsFor m plan file status
    proof_some plan None = (MISSING, refl)
    proof_some plan (Some bytes) = ⊎_elim
        (λ long. (TOO_LONG, inl (long, refl)))
        (λ few.
        let short = within_file (length bytes) few in
        ⊎_elim
        (λ text. let call = claim_some text.0 text.1.writable text.0.claim plan in (call.0, inr (short, inr (text.0, text.1, call.1))))
        (λ fault. (FAULTY, inr (short, inl (fault.0, fault.1, fault.2, refl))))
        (by.texts bytes))
        (cases_lt (too_many - 1) (length bytes))

  checked_some : (bytes : List ℕ) (plan certificate : Option (List ℕ)) → length bytes ≤ file_limit → (r : Result Problem ModelFault) → BytesMean bytes r → (status : ℕ) × CheckCallsFor (Some bytes) plan certificate status
  checked_some bytes plan certificate short (Ok m) means =
      let rank = ranked bytes m means in
      let call = proof_some m rank.0 (meant by.totals by.weights bytes m means).limits rank.1 plan certificate in
      (call.0, inr (short, inr (m, means, call.1)))
  checked_some bytes plan certificate short (Err fault) means = (REFUSED, inr (short, inl (fault, means, refl)))

  pub check_some : (model plan certificate : Option (List ℕ)) → (status : ℕ) × CheckCallsFor model plan certificate status
  check_some None plan certificate = (MISSING, refl)
  check_some (Some bytes) plan certificate = ⊎_elim
      (λ long. (TOO_LONG, inl (long, refl)))
      (λ short. let means = by.bytes NEWEST_VERSION bytes in checked_some bytes plan certificate short means.0 means.1)
      (cases_lt file_limit (length bytes))

-- The files call for a status of `draw`, and for one.
use Rattle.std.proofs.Common.{◌≡◌, ◌≢◌, ◌⊎◌, ◌∙◌, ◌-◌, ⊎_elim, inl, inr, ℕ, refl, sym, ap, subst, arith, List, length, Option, Some, None}
use Rattle.std.specs.Prelude.{Ok}
use Rattle.std.proofs.lemmas.Bool.{cases_eq, cases_lt}
use Rattle.lot_io.specs.Outside.{Files}
use Rattle.lot_sizing.specs.Problem.{IsWithinLimits, Problem}
use Rattle.lot_sizing.specs.Plan.{IsFeasible, Plan}
use Rattle.lot_sizing.specs.Totals.{IsRanking}
use Rattle.lot_sizing.proofs.Same.{SamePlan, feasible_same}
use Rattle.instance_reader.specs.Model.{BytesMean}
use Rattle.plan_rules.specs.Held.{AllFit, plan_of}
use Rattle.plan_rules.specs.declared.plan.Plan.{Plan as Grids}
use Rattle.plan_file.specs.Records.{IsPlanOf, records_of}
use Rattle.cert_lines.specs.declared.parts.Claim.{Claim}
use Rattle.cert_lines.specs.declared.parts.Claim.TheVariants.{Optimal, Infeasible, Bound as BoundOf}
use Rattle.certificate.specs.declared.fault.CertTextFault.{CertTextFault}
use Rattle.certificate.specs.declared.fault.CertTextFault.TheVariants as text
use Rattle.certificate.specs.Faults.{IsCertTextFault}
use Rattle.certificate.specs.Limits.{IsTextOf}
use Rattle.certificate.specs.Shapes.{Shape}
use Rattle.stream_check.specs.Streams.{too_many}
use Rattle.plan_page.specs.Page.{page_text}
use Rattle.plan_page.specs.declared.limits.TheConstants.{MAX_PAGE}
use Rattle.plan_page.specs.declared.proving.Proved.{Proved}
use Rattle.plan_page.specs.declared.proving.Proved.TheVariants.{Nothing}
use Rattle.lotplan.specs.Checking.{GivenCallsFor}
use Rattle.lotplan.specs.Drawing.{DrawCallsFor, DrawingCallsFor, PageCallsFor, ProofCallsFor, ShapeCallsFor, plan_for, proved_of}
use Rattle.lotplan.specs.Judging.{AnyPlan, HoldsBoth, JudgeCallsFor, OfFeasible}
use Rattle.lotplan.specs.declared.status.TheConstants.{DONE, FAULTY, MISSING, TOO_LONG}
use Rattle.lotplan.proofs.Calls.{AreLaws, Grounds, has_period, one_problem, ranked, same_plan}
use Rattle.lotplan.proofs.Certified.{IsMeant, given_call, meant, planned_call}
use Rattle.lotplan.proofs.CheckCalls.{decided_some, within_file}
use Rattle.lotplan.proofs.JudgeCalls.{judge_call, judge_some}
use Rattle.lotplan.proofs.SamePages.{page_same}
use Rattle.lotplan.proofs.Schedchecked.{model_done, plan_done, same_bytes}
use Rattle.lotplan.proofs.Judged as judging

-- a plan that grids hold, as one of a plan file
pub held_feasible : (before : Files) (m p : List ℕ) (problem : Problem) (grids : Grids) → HoldsBoth before m p problem grids → IsFeasible problem (plan_of grids) → OfFeasible before m p AnyPlan
held_feasible before m p problem grids h feasible = (problem, h.model, (h.plan.bytes, h.plan.read, h.plan.short, record { plan = plan_of grids; is = h.plan.is; feasible = feasible; holds = tt }))

-- ---- for one
page_call : (problem : Problem) (p q : Plan) → SamePlan problem p q → (shown : Proved) (s t : ℕ) → PageCallsFor problem p shown s → PageCallsFor problem q shown t → s ≡ t
page_call problem p q same shown s t a b =
    let long = ap length (page_same problem p q same shown) in
    ⊎_elim
    (λ x. ⊎_elim (λ y. x.1 ∙ sym y.1) (λ y. absurd (omega (arith, x.0, y.0, long))) b)
    (λ x. ⊎_elim (λ y. absurd (omega (arith, x.0, y.0, long))) (λ y. x.1 ∙ sym y.1) b)
    a

-- two grids that hold the same plan
module _ (laws : AreLaws) (m : Problem) (known : IsMeant m) (g h : Grids) (same : SamePlan m (plan_of g) (plan_of h)) (back : SamePlan m (plan_of h) (plan_of g)) (g_fits : AllFit m g) (h_fits : AllFit m h) where
  verdict : (c : Shape) (claim : Claim) (s t : ℕ) → GivenCallsFor m c (plan_for claim g) s → GivenCallsFor m c (plan_for claim h) t → s ≡ t
  verdict c (Optimal amount) s t a b = planned_call laws.checks m known c g h s t same back g_fits h_fits a b
  verdict c Infeasible s t a b = given_call laws.checks m known c None s t a b
  verdict c (BoundOf amount) s t a b = given_call laws.checks m known c None s t a b

  apart : DONE ≡ FAULTY → ⊥
  apart e = omega (arith, e)

  shape_call : (c : Shape) (claim : Claim) (s t : ℕ) → ShapeCallsFor m g c claim s → ShapeCallsFor m h c claim t → s ≡ t
  shape_call c claim s t a b = ⊎_elim
      (λ x. ⊎_elim
      (λ y. page_call m (plan_of g) (plan_of h) same (proved_of claim) s t x.1 y.1)
      (λ y. absurd (apart (verdict c claim DONE FAULTY (inl (x.0, refl)) (inr (y.0, y.1, y.2, refl)))))
      b)
      (λ x. ⊎_elim
      (λ y. absurd (apart (sym (verdict c claim FAULTY DONE (inr (x.0, x.1, x.2, refl)) (inl (y.0, refl))))))
      (λ y. x.3 ∙ sym y.3)
      b)
      a

  abbrev HasText : Grids → List ℕ → ℕ → Type 0
  HasText k bytes u = (c : Shape) × IsTextOf bytes c × ShapeCallsFor m k c c.claim u

  abbrev HasNoText : List ℕ → ℕ → Type 0
  HasNoText bytes u = (fault : CertTextFault) × (fault ≢ text.Memory) × IsCertTextFault bytes fault × (u ≡ FAULTY)

  proof_call : (file : Option (List ℕ)) (s t : ℕ) → ProofCallsFor m g file s → ProofCallsFor m h file t → s ≡ t
  proof_call None s t a b = a ∙ sym b
  proof_call (Some bytes) s t a b = ⊎_elim
      (λ x. ⊎_elim (λ y. x.1 ∙ sym y.1) (λ y. absurd (omega (arith, x.0, y.0))) b)
      (λ x. ⊎_elim (λ y. absurd (omega (arith, x.0, y.0))) (λ y. certificates x.1 y.1) b)
      a
    where
      apart_from : (k : Grids) (u v : ℕ) → HasNoText bytes u → HasText k bytes v → ⊥
      apart_from k u v none c = none.1 ((laws.texts bytes).certificate_or_fault c.0 none.0 c.1 none.2)

      certificates : HasNoText bytes s ⊎ HasText g bytes s → HasNoText bytes t ⊎ HasText h bytes t → s ≡ t
      certificates x y = ⊎_elim
          (λ d. ⊎_elim (λ e. d.3 ∙ sym e.3) (λ e. absurd (apart_from h s t d e)) y)
          (λ d. ⊎_elim
          (λ e. absurd (apart_from g t s e d))
          (λ e. shape_call d.0 d.0.claim s t d.2 (subst (λ c. ShapeCallsFor m h c c.claim t) ((laws.texts bytes).one_certificate e.0 d.0 e.1 d.1) e.2))
          y)
          x

  drawing_call : (file : Files) (c : Option (List ℕ)) (s t : ℕ) → DrawingCallsFor file c m g s → DrawingCallsFor file c m h t → s ≡ t
  drawing_call file None s t a b = page_call m (plan_of g) (plan_of h) same Nothing s t a b
  drawing_call file (Some c) s t a b = proof_call (file c) s t a b

module _ (laws : AreLaws) (m p : List ℕ) (c : Option (List ℕ)) (file : Files) where
  -- the files hold a feasible plan, and call for this
  abbrev Feasible : Problem → ℕ → Type 0
  Feasible problem u = (grids : Grids) × HoldsBoth file m p problem grids × IsFeasible problem (plan_of grids) × DrawingCallsFor file c problem grids u

  both_grids : (problem : Problem) (s t : ℕ) → Feasible problem s → Feasible problem t → s ≡ t
  both_grids problem s t (g, a, f, x) (h, b, e, y) =
      let bytes = a.plan.bytes in
      let plans = same_bytes bytes b.plan.bytes (sym a.plan.read ∙ b.plan.read) in
      let is = subst (λ w. IsPlanOf problem (records_of w) (plan_of h)) (sym plans) b.plan.is in
      let known = meant laws.totals laws.weights a.model.bytes problem a.model.means in
      drawing_call laws problem known g h (same_plan problem bytes (plan_of g) (plan_of h) a.plan.is is) (same_plan problem bytes (plan_of h) (plan_of g) is a.plan.is) a.plan.fits b.plan.fits file c s t x y

  abbrev SomeFeasible : ℕ → Type 0
  SomeFeasible u = (problem : Problem) × (grids : Grids) × HoldsBoth file m p problem grids × IsFeasible problem (plan_of grids) × DrawingCallsFor file c problem grids u

  both_feasible : (s t : ℕ) → SomeFeasible s → SomeFeasible t → s ≡ t
  both_feasible s t (a, g, holds, is, x) (b, q, also, too, y) =
      let h = holds.model in
      let k = also.model in
      let model = same_bytes h.bytes k.bytes (sym h.read ∙ k.read) in
      let same = one_problem h.bytes a b h.means (subst (λ w. BytesMean w (Ok b)) (sym model) k.means) in
      both_grids a s t (g, holds, is, x) (subst (λ r. Feasible r t) (sym same) (q, also, too, y))

  is_done : (u : ℕ) → SomeFeasible u → JudgeCallsFor (file m) (file p) DONE
  is_done u (problem, grids, holds, feasible, x) = judging.feasible_calls file m p AnyPlan (held_feasible file m p problem grids holds feasible)

  pub draw_call : (s t : ℕ) → DrawCallsFor m p c file s → DrawCallsFor m p c file t → s ≡ t
  draw_call s t a b = ⊎_elim
      (λ x. ⊎_elim
      (λ y. judge_call (file m) (file p) s t x.0 y.0)
      (λ y. absurd (x.1 (judge_call (file m) (file p) s DONE x.0 (is_done t y))))
      b)
      (λ x. ⊎_elim
      (λ y. absurd (y.1 (judge_call (file m) (file p) t DONE y.0 (is_done s x))))
      (λ y. both_feasible s t x y)
      b)
      a

-- ---- for some
page_some : (problem : Problem) (plan : Plan) (shown : Proved) → (status : ℕ) × PageCallsFor problem plan shown status
page_some problem plan shown = ⊎_elim
    (λ long. (TOO_LONG, inr (long, refl)))
    (λ short. (DONE, inl (short, refl)))
    (cases_lt MAX_PAGE (length (page_text problem plan shown)))

module _ (by : Grounds) where
  module _ (m : Problem) (rank : ℕ → ℕ) (limits : IsWithinLimits m) (ranks : IsRanking m rank) (grids : Grids) where
    shape_some : (c : Shape) (claim : Claim) → (status : ℕ) × GivenCallsFor m c (plan_for claim grids) status → (status : ℕ) × ShapeCallsFor m grids c claim status
    shape_some c claim (status, calls) = ⊎_elim
        (λ yes. let some = page_some m (plan_of grids) (proved_of claim) in (some.0, inl (yes.0, some.1)))
        (λ no. (FAULTY, inr (no.0, no.1, no.2, refl)))
        calls

    proof_some : (file : Option (List ℕ)) → (status : ℕ) × ProofCallsFor m grids file status
    proof_some None = (MISSING, refl)
    proof_some (Some bytes) = ⊎_elim
        (λ long. (TOO_LONG, inl (long, refl)))
        (λ few.
        let short = within_file (length bytes) few in
        ⊎_elim
        (λ read.
        let c = read.0 in
        let given = plan_for c.claim grids in
        let call = shape_some c c.claim (decided_some m c given (by.certificates m rank limits ranks c given read.1.writable)) in
        (call.0, inr (short, inr (c, read.1, call.1))))
        (λ fault. (FAULTY, inr (short, inl (fault.0, fault.1, fault.2, refl))))
        (by.texts bytes))
        (cases_lt (too_many - 1) (length bytes))

    drawing_some : (file : Files) (c : Option (List ℕ)) → (status : ℕ) × DrawingCallsFor file c m grids status
    drawing_some file None = page_some m (plan_of grids) Nothing
    drawing_some file (Some c) = proof_some (file c)

  pub draw_some : (m p : List ℕ) (c : Option (List ℕ)) (file : Files) → (status : ℕ) × DrawCallsFor m p c file status
  draw_some m p c file =
      let (status, calls) = judge_some by (file m) (file p) in
      of status calls (cases_eq status DONE)
    where
      feasible_some : JudgeCallsFor (file m) (file p) DONE → (status : ℕ) × DrawCallsFor m p c file status
      feasible_some calls =
          let (bytes, read, short, problem, means, plans) = model_done (file m) (file p) calls in
          let (text, there, few, amount, f) = plan_done problem (file p) plans in
          let (grids, fits, is) = by.held problem (records_of text) f.plan f.is in
          let feasible = feasible_same problem f.plan (plan_of grids) (has_period bytes problem means) (same_plan problem text f.plan (plan_of grids) f.is is) f.feasible in
          let rank = ranked bytes problem means in
          let limits = (meant by.totals by.weights bytes problem means).limits in
          let some = drawing_some problem rank.0 limits rank.1 grids file c in
          let holds : HoldsBoth file m p problem grids = record {
            model = record { bytes = bytes; read = read; short = short; means = means };
            plan = record { bytes = text; read = there; short = few; fits = fits; is = is };
          } in
          (some.0, inr (problem, grids, holds, feasible, some.1))

      of : (status : ℕ) → JudgeCallsFor (file m) (file p) status → (status ≡ DONE) ⊎ (status ≡ DONE → ⊥) → (other : ℕ) × DrawCallsFor m p c file other
      of status calls (inl is) = feasible_some (subst (JudgeCallsFor (file m) (file p)) is calls)
      of status calls (inr not) = (status, inl (calls, not))

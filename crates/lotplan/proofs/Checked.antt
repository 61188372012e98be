-- What `check` leaves, by its answer.
use Rattle.std.proofs.Common.{◌≡◌, ◌≢◌, ◌∙◌, ⊎_elim, ℕ, List, Option, Some, None, IsTrue, inl, inr, refl, sym, ap, subst, arith}
use Rattle.std.specs.Prelude.{Result, Ok, Err, IfOk}
use Rattle.std.specs.declared.alloc.AllocError.{AllocError}
use Rattle.lot_io.specs.Outside.{Files, OnlyReads, Printed, Shelved}
use Rattle.lot_sizing.specs.Problem.{Problem}
use Rattle.plan_rules.specs.declared.plan.Plan.{Plan}
use Rattle.plan_rules.specs.Held.{plan_of}
use Rattle.plan_file.specs.Records.{IsPlanOf, records_of}
use Rattle.cert_meaning.specs.Accepts.{IsTrueOf}
use Rattle.cert_lines.specs.declared.parts.Claim.{Claim}
use Rattle.cert_lines.specs.declared.parts.Claim.TheVariants.{Optimal, Infeasible, Bound as BoundOf}
use Rattle.certificate.specs.declared.fault.CertTextFault.TheVariants as text
use Rattle.certificate.specs.Faults.{IsCertTextFault}
use Rattle.certificate.specs.Laws.{TextsMeanOneThing}
use Rattle.certificate.specs.Limits.{IsTextOf}
use Rattle.certificate.specs.Shapes.{Shape}
use Rattle.cert_checker.specs.declared.fault.Why.{Why}
use Rattle.cert_checker.specs.Cuts.{OfProblem}
use Rattle.cert_checker.specs.Checks.{IsCertified, IsCheckFault, plan_given}
use Rattle.stream_check.specs.declared.fault.StreamFault.{StreamFault}
use Rattle.stream_check.specs.declared.fault.StreamFault.TheVariants as stream
use Rattle.stream_check.specs.Streams.{IsStreamFault, IsTooLong, OfBytes, OfCertificate, never_refused}
use Rattle.lotplan.specs.Meaning.{Says}
use Rattle.lotplan.specs.declared.said.Said.{Said}
use Rattle.lot_io.proofs.Frames.{reads_on}
use Rattle.branching.proofs.Overall.{some_is as some_plan}
use Rattle.lotplan.specs.Status.{code_of}
use Rattle.lotplan.specs.Reading.{FileExplains, HoldsProblem, ModelExplains, OfFile, ReadAnswer, refused, missing, unread, too_long, read_line, read_status, AreNoPlan, HoldsPlan}
use Rattle.lotplan.specs.Proving.{HoldsCertificate, IsGiven}
use Rattle.lotplan.specs.Checking.{check_meaning, CheckAnswer, accepted, no_certificate, no_plan, rejected, no_input, check_line, check_status, Accepts, AcceptsCertificate, ClaimIsTrue, AllAre, AsksForPlan, CertificateExplains, CheckCallsFor, CheckExplains, ClaimCallsFor, FindsRefused, GivenCallsFor, GivenExplains, IsOptimal, IsRefusal, PlanStops, PlannedCallsFor, PlannedExplains, ProofCallsFor, ProofExplains, ProofIs, ProofStops}
use Rattle.lotplan.specs.Saying.{Gains, IsSaid}
use Rattle.lotplan.specs.Run.{HadNoFault}
use Rattle.lotplan.specs.declared.status.Status.{Status}
use Rattle.lotplan.specs.declared.status.TheConstants.{DONE, FAULTY, NO_COMMAND}
use Rattle.lotplan.proofs.CheckCalls.{check_call, check_some}
use Rattle.lotplan.proofs.Kept.{IsCommand, read_after}
use Rattle.lotplan.proofs.Outputs.{IsAnswerNumber, IsCommandNumber, answered, read_number}
use Rattle.lotplan.proofs.Readings.{IsReading, SomeStop, reading, stops_after}

-- ---- from a fault of the certificate file to the answer
abbrev pub FaultExplains : List ℕ → Shelved → Shelved → (ℕ → Why → Type 0) → CheckAnswer → Type 0
FaultExplains c old new P (accepted claim) = ⊥
FaultExplains c old new P (no_certificate fault) = (fault ≢ text.Memory) × (IsTrue old.told → OfBytes (old.file c) (λ bytes. IsCertTextFault bytes fault))
FaultExplains c old new P (no_plan fault) = ⊥
FaultExplains c old new P (rejected line w) = P line w
FaultExplains c old new P (no_input w) = CertificateExplains c old new w

pub explains_fault : (c : List ℕ) (old new : Shelved) (P : ℕ → Why → Type 0) (fault : StreamFault) (answer : CheckAnswer) → IsStreamFault c old new P fault → IsRefusal c fault answer → FaultExplains c old new P answer
explains_fault c old new P stream.Missing answer x is = subst (FaultExplains c old new P) (sym is) (refl, x.0, x.1)
explains_fault c old new P stream.Failed answer x is = subst (FaultExplains c old new P) (sym is) (refl, x)
explains_fault c old new P stream.TooLong answer x is = subst (FaultExplains c old new P) (sym is) (refl, x.0, x.1)
explains_fault c old new P (stream.Text fault) answer x is = subst (FaultExplains c old new P) (sym is) x
explains_fault c old new P (stream.Rejected r) answer x is = subst (FaultExplains c old new P) (sym is) x
explains_fault c old new P stream.Memory answer x is = absurd is

-- with a plan or with none
abbrev IsRefusedWith : Problem → Option Plan → List ℕ → Shelved → ℕ → Why → Type 0
IsRefusedWith problem given c old line w =
    IsTrue old.told → OfCertificate (old.file c) (λ certificate. OfProblem problem (λ total weight. IsCheckFault problem total weight certificate given line w))

pub given_refused : (problem : Problem) (given : Option Plan) (c : List ℕ) (old new : Shelved) (fault : StreamFault) (answer : CheckAnswer) → IsStreamFault c old new (IsRefusedWith problem given c old) fault → IsRefusal c fault answer → GivenExplains problem given c old new answer
given_refused problem given c old new fault answer x is = of answer (explains_fault c old new (IsRefusedWith problem given c old) fault answer x is)
  where
    of : (a : CheckAnswer) → FaultExplains c old new (IsRefusedWith problem given c old) a → GivenExplains problem given c old new a
    of (accepted claim) y = absurd y
    of (no_certificate fault) y = y
    of (no_plan fault) y = absurd y
    of (rejected line w) y = y
    of (no_input w) y = y

-- where its claim is read
pub claim_refused : (problem : Problem) (p c : List ℕ) (old new : Shelved) (fault : StreamFault) (answer : CheckAnswer) → IsStreamFault c old new never_refused fault → IsRefusal c fault answer → ProofExplains problem p c old new answer
claim_refused problem p c old new fault answer x is = of answer (explains_fault c old new never_refused fault answer x is)
  where
    of : (a : CheckAnswer) → FaultExplains c old new never_refused a → ProofExplains problem p c old new a
    of (accepted claim) y = absurd y
    of (no_certificate fault) y = λ t. (y.0, y.1 t)
    of (no_plan fault) y = absurd y
    of (rejected line w) y = absurd y
    of (no_input w) y = inl y

-- ---- what is read after other files
told_before : {old mid : Shelved} → OnlyReads old mid → IsTrue old.told → IsTrue mid.told
told_before reads t = subst IsTrue (sym reads.told) t

pub certificate_after : (c : List ℕ) (old mid new : Shelved) (w : ReadAnswer) → OnlyReads old mid → CertificateExplains c mid new w → CertificateExplains c old new w
certificate_after c old mid new (refused fault) reads x = absurd x
certificate_after c old mid new (missing file) reads x = (x.0, omega (arith, x.1, reads.misses), λ t. subst (λ (f : Files). f c ≡ None) reads.files (x.2 (told_before reads t)))
certificate_after c old mid new (unread file) reads x = (x.0, omega (arith, x.1, reads.faults))
certificate_after c old mid new (too_long file) reads x = (x.0, omega (arith, x.1, reads.given), λ t. subst (λ (f : Files). IsTooLong (f c)) reads.files (x.2 (told_before reads t)))

pub given_after : (problem : Problem) (given : Option Plan) (c : List ℕ) (old mid new : Shelved) (answer : CheckAnswer) → OnlyReads old mid → GivenExplains problem given c mid new answer → GivenExplains problem given c old new answer
given_after problem given c old mid new (accepted claim) reads x =
    (x.0, λ t. subst (λ (f : Files). OfCertificate (f c) (λ certificate. (certificate.claim ≡ claim) × OfProblem problem (λ total weight. IsCertified problem total weight certificate given))) reads.files (x.1 (told_before reads t)))
given_after problem given c old mid new (no_certificate fault) reads x =
    (x.0, λ t. subst (λ (f : Files). OfBytes (f c) (λ bytes. IsCertTextFault bytes fault)) reads.files (x.1 (told_before reads t)))
given_after problem given c old mid new (no_plan fault) reads x = absurd x
given_after problem given c old mid new (rejected line w) reads x =
    λ t. subst (λ (f : Files). OfCertificate (f c) (λ certificate. OfProblem problem (λ total weight. IsCheckFault problem total weight certificate given line w))) reads.files (x (told_before reads t))
given_after problem given c old mid new (no_input w) reads x = certificate_after c old mid new w reads x

plan_after : (problem : Problem) (p : List ℕ) (old mid new : Shelved) (answer : CheckAnswer) → OnlyReads old mid → PlanStops problem p mid new answer → PlanStops problem p old new answer
plan_after problem p old mid new (accepted claim) reads x = absurd x
plan_after problem p old mid new (no_certificate fault) reads x = absurd x
plan_after problem p old mid new (no_plan fault) reads x = λ t. subst (λ (f : Files). OfFile f p (λ bytes. AreNoPlan problem bytes fault)) reads.files (x (told_before reads t))
plan_after problem p old mid new (rejected line w) reads x = absurd x
plan_after problem p old mid new (no_input w) reads x = stops_after p old mid new w reads x

planned_after : (problem : Problem) (p c : List ℕ) (old mid new : Shelved) (answer : CheckAnswer) → OnlyReads old mid → PlannedExplains problem p c mid new answer → PlannedExplains problem p c old new answer
planned_after problem p c old mid new answer reads x = ⊎_elim
    (λ read. inl (read.0, λ t. subst (λ (f : Files). HoldsPlan f p problem read.0) reads.files (read.1 (told_before reads t)), given_after problem (Some read.0) c old mid new answer reads read.2))
    (λ stop. inr (plan_after problem p old mid new answer reads stop))
    x

pub planned : (problem : Problem) (p c : List ℕ) (old mid new : Shelved) (plan : Plan) (answer : CheckAnswer) → (IsTrue old.told → HoldsPlan old.file p problem plan) → OnlyReads old mid → GivenExplains problem (Some plan) c mid new answer → PlannedExplains problem p c old new answer
planned problem p c old mid new plan answer holds reads x = inl (plan, holds, given_after problem (Some plan) c old mid new answer reads x)

-- ---- from the plan that goes with a claim to the certificate file
same_bytes : (a b : List ℕ) → Some a ≡ Some b → a ≡ b
same_bytes a b same = cc same

-- what is known of the certificate of a file is known of any that its bytes are the text of
pub of_text : TextsMeanOneThing → (file : Option (List ℕ)) (P : Shape → Type 0) → OfCertificate file P → (bytes : List ℕ) → file ≡ Some bytes → (certificate : Shape) → IsTextOf bytes certificate → P certificate
of_text one file P known bytes is certificate reads =
    let read = subst (λ b. IsTextOf b known.3.0) (same_bytes known.0 bytes (sym known.1 ∙ is)) known.3.1 in
    subst P ((one bytes).one_certificate known.3.0 certificate read reads) known.3.2

-- the plan that was given is the one that goes with the claim
abbrev GoesWith : Problem → List ℕ → List ℕ → Shelved → Option Plan → Type 0
GoesWith problem p c old given = IsTrue old.told → OfCertificate (old.file c) (λ certificate. IsGiven old.file p problem certificate.claim given)

-- the certificate that the file holds, with the plan that goes with its claim
abbrev held : TextsMeanOneThing → (problem : Problem) (p c : List ℕ) (old : Shelved) (given : Option Plan) → GoesWith problem p c old given → IsTrue old.told → (certificate : Shape) → OfBytes (old.file c) (λ bytes. IsTextOf bytes certificate) → HoldsCertificate old.file p c problem
held one problem p c old given goes t certificate text = record {
  certificate = certificate;
  text = text;
  given = given;
  goes_with = of_text one (old.file c) (λ other. IsGiven old.file p problem other.claim given) (goes t) text.0 text.1 certificate text.3;
}

whole : TextsMeanOneThing → (problem : Problem) (p c : List ℕ) (old new : Shelved) (given : Option Plan) (answer : CheckAnswer) → GoesWith problem p c old given → GivenExplains problem given c old new answer → ProofExplains problem p c old new answer
whole one problem p c old new given (accepted claim) goes x = λ t.
    let g = x.1 t in
    record {
      holds = held one problem p c old given goes t g.3.0 (g.0, g.1, g.2, g.3.1);
      claims = g.3.2.0;
      is_true = x.0;
      certified = g.3.2.1;
    }
whole one problem p c old new given (no_certificate fault) goes x = λ t. (x.0, x.1 t)
whole one problem p c old new given (no_plan fault) goes x = absurd x
whole one problem p c old new given (rejected line w) goes x = λ t.
    let g = x t in
    record {
      holds = held one problem p c old given goes t g.3.0 (g.0, g.1, g.2, g.3.1);
      fault = g.3.2;
    }
whole one problem p c old new given (no_input w) goes x = inl x

-- the claim that was read
abbrev pub Claims : List ℕ → Shelved → Claim → Type 0
Claims c old claim = IsTrue old.told → OfCertificate (old.file c) (λ certificate. certificate.claim ≡ claim)

goes_with : (problem : Problem) (p c : List ℕ) (old : Shelved) (claim : Claim) (given : Option Plan) → Claims c old claim → (IsTrue old.told → IsGiven old.file p problem claim given) → GoesWith problem p c old given
goes_with problem p c old claim given claims is = λ t.
    let f = claims t in
    (f.0, f.1, f.2, (f.3.0, f.3.1, subst (λ k. IsGiven old.file p problem k given) (sym f.3.2) (is t)))

asks_for_plan : (c : List ℕ) (old : Shelved) (amount : ℕ) → Claims c old (Optimal amount) → IsTrue old.told → AsksForPlan old.file c
asks_for_plan c old amount claims t =
    let f = claims t in
    (f.0, f.1, f.2, (f.3.0, f.3.1, subst IsOptimal (sym f.3.2) tt))

by_plan : (problem : Problem) (p c : List ℕ) (old new : Shelved) (answer : CheckAnswer) → (IsTrue old.told → AsksForPlan old.file c) → PlanStops problem p old new answer → ProofExplains problem p c old new answer
by_plan problem p c old new (accepted claim) asks x = absurd x
by_plan problem p c old new (no_certificate fault) asks x = absurd x
by_plan problem p c old new (no_plan fault) asks x = λ t. (asks t, x t)
by_plan problem p c old new (rejected line w) asks x = absurd x
by_plan problem p c old new (no_input w) asks x = inr (asks, x)

pub by_optimal : TextsMeanOneThing → (problem : Problem) (p c : List ℕ) (old mid new : Shelved) (amount : ℕ) (answer : CheckAnswer) → Claims c old (Optimal amount) → OnlyReads old mid → PlannedExplains problem p c mid new answer → ProofExplains problem p c old new answer
by_optimal one problem p c old mid new amount answer claims reads x = ⊎_elim
    (λ read. whole one problem p c old new (Some read.0) answer (goes_with problem p c old (Optimal amount) (Some read.0) claims read.1) read.2)
    (λ stop. by_plan problem p c old new answer (asks_for_plan c old amount claims) stop)
    (planned_after problem p c old mid new answer reads x)

pub by_infeasible : TextsMeanOneThing → (problem : Problem) (p c : List ℕ) (old mid new : Shelved) (answer : CheckAnswer) → Claims c old Infeasible → OnlyReads old mid → GivenExplains problem None c mid new answer → ProofExplains problem p c old new answer
by_infeasible one problem p c old mid new answer claims reads x =
    whole one problem p c old new None answer (goes_with problem p c old Infeasible None claims (λ t. refl)) (given_after problem None c old mid new answer reads x)

pub by_bound : TextsMeanOneThing → (problem : Problem) (p c : List ℕ) (old mid new : Shelved) (amount : ℕ) (answer : CheckAnswer) → Claims c old (BoundOf amount) → OnlyReads old mid → GivenExplains problem None c mid new answer → ProofExplains problem p c old new answer
by_bound one problem p c old mid new amount answer claims reads x =
    whole one problem p c old new None answer (goes_with problem p c old (BoundOf amount) None claims (λ t. refl)) (given_after problem None c old mid new answer reads x)

-- ---- and to the three files
proof_after : (p c : List ℕ) (old mid new : Shelved) (w : ReadAnswer) → OnlyReads old mid → ProofStops p c mid new w → ProofStops p c old new w
proof_after p c old mid new w reads x = ⊎_elim
    (λ certificate. inl (certificate_after c old mid new w reads certificate))
    (λ plan. inr (λ t. subst (λ (f : Files). AsksForPlan f c) reads.files (plan.0 (told_before reads t)), stops_after p old mid new w reads plan.1))
    x

check_after : (m p c : List ℕ) (problem : Problem) (old mid new : Shelved) (answer : CheckAnswer) → (IsTrue old.told → HoldsProblem old.file m problem) → OnlyReads old mid → ProofExplains problem p c mid new answer → CheckExplains m p c old new answer
check_after m p c problem old mid new (accepted claim) holds reads x = λ t. (problem, holds t, subst (λ (f : Files). ProofIs f p c problem (accepted claim)) reads.files (x (told_before reads t)))
check_after m p c problem old mid new (no_certificate fault) holds reads x = λ t. (problem, holds t, subst (λ (f : Files). ProofIs f p c problem (no_certificate fault)) reads.files (x (told_before reads t)))
check_after m p c problem old mid new (no_plan fault) holds reads x = λ t. (problem, holds t, subst (λ (f : Files). ProofIs f p c problem (no_plan fault)) reads.files (x (told_before reads t)))
check_after m p c problem old mid new (rejected line w) holds reads x = λ t. (problem, holds t, subst (λ (f : Files). ProofIs f p c problem (rejected line w)) reads.files (x (told_before reads t)))
check_after m p c problem old mid new (no_input w) holds reads x = inr (problem, holds, proof_after p c old mid new w reads x)

pub says_checked : (m p c : List ℕ) (problem : Problem) (old mid new : Shelved) (answer : CheckAnswer) (r : Result Said AllocError) → (IsTrue old.told → HoldsProblem old.file m problem) → OnlyReads old mid → ProofExplains problem p c mid new answer → OnlyReads mid new → IfOk r (IsSaid (check_line answer) (check_status answer)) → IfOk r (Says (check_meaning m p c) old new)
says_checked m p c problem old mid new answer (Ok said) holds reads x more says = answered CheckAnswer (λ a. CheckExplains m p c old new a × OnlyReads old new) check_line check_status answer said (check_after m p c problem old mid new answer holds reads x, reads_on reads more) says
says_checked m p c problem old mid new answer (Err e) holds reads x more says = tt

pub says_stop : (m p c : List ℕ) (old new : Shelved) (w : ReadAnswer) (r : Result Said AllocError) → ModelExplains m old new w → OnlyReads old new → IfOk r (IsSaid (read_line w) (read_status w)) → IfOk r (Says (check_meaning m p c) old new)
says_stop m p c old new w (Ok said) x reads says = answered CheckAnswer (λ a. CheckExplains m p c old new a × OnlyReads old new) check_line check_status (no_input w) said (inl x, reads) says
says_stop m p c old new w (Err e) x reads says = tt

-- ---- what each number says
pub certified_at : (m p c : List ℕ) (code : ℕ) (old new : Shelved) (out_old out_new : Printed) (answer : CheckAnswer) → CheckExplains m p c old new answer → code ≡ code_of (check_status answer) → Gains (check_line answer) out_old out_new → code ≡ DONE → IsTrue old.told → AcceptsCertificate old.file m p c out_old out_new
certified_at m p c code old new out_old out_new (accepted claim) x is line none t = record { what = claim; holds = x t; line = line }
certified_at m p c code old new out_old out_new (no_certificate fault) x is line none t = absurd (omega (arith, is, none))
certified_at m p c code old new out_old out_new (no_plan fault) x is line none t = absurd (omega (arith, is, none))
certified_at m p c code old new out_old out_new (rejected at w) x is line none t = absurd (omega (arith, is, none))
certified_at m p c code old new out_old out_new (no_input w) x is line none t = absurd (omega (arith, (reading w code is).low, none))

claim_true : (before : Files) (p : List ℕ) (problem : Problem) (claim : Claim) (given : Option Plan) → IsGiven before p problem claim given → IsTrueOf problem claim (plan_given given) → ClaimIsTrue before p problem claim
claim_true before p problem (Optimal amount) (Some grids) goes (plan, same, best, costs) =
    (goes.bytes, goes.read, goes.short, (plan, subst (λ q. IsPlanOf problem (records_of goes.bytes) q) (some_plan (plan_of grids) plan same) goes.is, best, costs))
claim_true before p problem (Optimal amount) None goes is = absurd goes
claim_true before p problem Infeasible given goes is = is
claim_true before p problem (BoundOf amount) given goes is = is

pub accepts_of : (before : Files) (m p c : List ℕ) (out_old out_new : Printed) → AcceptsCertificate before m p c out_old out_new → Accepts before m p out_old out_new
accepts_of before m p c out_old out_new a =
    let (problem, model, proof) = a.holds in
    let h = proof.holds in
    record {
      what = a.what;
      holds = (problem, model, claim_true before p problem a.what h.given (subst (λ k. IsGiven before p problem k h.given) proof.claims h.goes_with) proof.is_true);
      line = a.line;
    }

pub refused_at : (m p c : List ℕ) (code : ℕ) (old new : Shelved) (out_old out_new : Printed) (answer : CheckAnswer) → CheckExplains m p c old new answer → code ≡ code_of (check_status answer) → Gains (check_line answer) out_old out_new → code ≡ FAULTY → IsTrue old.told → FindsRefused old.file m p c out_old out_new
refused_at m p c code old new out_old out_new (accepted claim) x is line three t = absurd (omega (arith, is, three))
refused_at m p c code old new out_old out_new (no_certificate fault) x is line three t = record { answer = no_certificate fault; ends = refl; holds = x t; line = line }
refused_at m p c code old new out_old out_new (no_plan fault) x is line three t = record { answer = no_plan fault; ends = refl; holds = x t; line = line }
refused_at m p c code old new out_old out_new (rejected at w) x is line three t = record { answer = rejected at w; ends = refl; holds = x t; line = line }
refused_at m p c code old new out_old out_new (no_input w) x is line three t = absurd (omega (arith, (reading w code is).low, three))

-- ---- what the three files call for
module _ (m p c : List ℕ) (code : ℕ) (old : Shelved) where
  by_model : (problem : Problem) → HoldsProblem old.file m problem → ProofCallsFor problem (old.file p) (old.file c) code → CheckCallsFor (old.file m) (old.file p) (old.file c) code
  by_model problem holds calls = subst (λ f. CheckCallsFor f (old.file p) (old.file c) code) (sym holds.read) (inr (holds.short, inr (problem, holds.means, calls)))

  by_bytes : (problem : Problem) (bytes : List ℕ) → old.file c ≡ Some bytes → ProofCallsFor problem (old.file p) (Some bytes) code → ProofCallsFor problem (old.file p) (old.file c) code
  by_bytes problem bytes is calls = subst (λ f. ProofCallsFor problem (old.file p) f code) (sym is) calls

  by_plan_bytes : (problem : Problem) (certificate : Shape) (bytes : List ℕ) → old.file p ≡ Some bytes → PlannedCallsFor problem certificate (Some bytes) code → PlannedCallsFor problem certificate (old.file p) code
  by_plan_bytes problem certificate bytes is calls = subst (λ f. PlannedCallsFor problem certificate f code) (sym is) calls

  -- by the claim
  optimal_calls : (problem : Problem) (certificate : Shape) (claim : Claim) → IsOptimal claim → PlannedCallsFor problem certificate (old.file p) code → ClaimCallsFor problem certificate claim (old.file p) code
  optimal_calls problem certificate (Optimal amount) optimal calls = calls
  optimal_calls problem certificate Infeasible optimal calls = absurd optimal
  optimal_calls problem certificate (BoundOf amount) optimal calls = absurd optimal

  given_calls : (problem : Problem) (certificate : Shape) (claim : Claim) (given : Option Plan) → IsGiven old.file p problem claim given → GivenCallsFor problem certificate given code → ClaimCallsFor problem certificate claim (old.file p) code
  given_calls problem certificate (Optimal amount) (Some plan) goes calls = by_plan_bytes problem certificate goes.bytes goes.read (inr (goes.short, inr (plan, goes.fits, goes.is, calls)))
  given_calls problem certificate (Optimal amount) None goes calls = absurd goes
  given_calls problem certificate Infeasible given goes calls = subst (λ g. GivenCallsFor problem certificate g code) goes calls
  given_calls problem certificate (BoundOf amount) given goes calls = subst (λ g. GivenCallsFor problem certificate g code) goes calls

  -- by a plan file that gave no plan
  request_calls : (problem : Problem) → AsksForPlan old.file c → ((certificate : Shape) → PlannedCallsFor problem certificate (old.file p) code) → ProofCallsFor problem (old.file p) (old.file c) code
  request_calls problem asks calls =
      let certificate = asks.3.0 in
      by_bytes problem asks.0 asks.1 (inr (asks.2, inr (certificate, asks.3.1, optimal_calls problem certificate certificate.claim asks.3.2 (calls certificate))))

  pub accepted_called : (claim : Claim) → AllAre old.file m p c (accepted claim) → code ≡ DONE → CheckCallsFor (old.file m) (old.file p) (old.file c) code
  accepted_called claim f is =
      let h = f.2.holds in
      by_model f.0 f.1 (by_bytes f.0 h.text.0 h.text.1 (inr (h.text.2, inr (h.certificate, h.text.3, given_calls f.0 h.certificate h.certificate.claim h.given h.goes_with (inl (f.2.certified, is))))))

  module _ (new : Shelved) (out_old out_new : Printed) (fine : HadNoFault old new out_old out_new) (t : IsTrue old.told) where
    model_called : (w : ReadAnswer) → ModelExplains m old new w → code ≡ code_of (read_status w) → CheckCallsFor (old.file m) (old.file p) (old.file c) code
    model_called (refused fault) x is =
        let h = x t in
        subst (λ f. CheckCallsFor f (old.file p) (old.file c) code) (sym h.read) (inr (h.short, inl (fault, h.means, is)))
    model_called (missing file) x is = subst (λ f. CheckCallsFor f (old.file p) (old.file c) code) (sym (x.2 t)) is
    model_called (unread file) x is = absurd (fine.read x.1)
    model_called (too_long file) x is =
        let h = x.2 t in
        subst (λ f. CheckCallsFor f (old.file p) (old.file c) code) (sym h.read) (inl (h.long, is))

    certificate_called : (problem : Problem) (w : ReadAnswer) → CertificateExplains c old new w → code ≡ code_of (read_status w) → ProofCallsFor problem (old.file p) (old.file c) code
    certificate_called problem (refused fault) x is = absurd x
    certificate_called problem (missing file) x is = subst (λ f. ProofCallsFor problem (old.file p) f code) (sym (x.2 t)) is
    certificate_called problem (unread file) x is = absurd (fine.read x.1)
    certificate_called problem (too_long file) x is =
        let h = x.2 t in
        by_bytes problem h.0 h.1 (inl (h.2, is))

    plan_called : (problem : Problem) (certificate : Shape) (w : ReadAnswer) → FileExplains p old new w → code ≡ code_of (read_status w) → PlannedCallsFor problem certificate (old.file p) code
    plan_called problem certificate (refused fault) x is = absurd x
    plan_called problem certificate (missing file) x is = subst (λ f. PlannedCallsFor problem certificate f code) (sym (x.2 t)) is
    plan_called problem certificate (unread file) x is = absurd (fine.read x.1)
    plan_called problem certificate (too_long file) x is =
        let h = x.2 t in
        by_plan_bytes problem certificate h.bytes h.read (inl (h.long, is))

    proof_called : (problem : Problem) (w : ReadAnswer) → ProofStops p c old new w → code ≡ code_of (read_status w) → ProofCallsFor problem (old.file p) (old.file c) code
    proof_called problem w x is = ⊎_elim
        (λ certificate. certificate_called problem w certificate is)
        (λ plan. request_calls problem (plan.0 t) (λ certificate. plan_called problem certificate w plan.1 is))
        x

    pub called_at : (answer : CheckAnswer) → CheckExplains m p c old new answer → code ≡ code_of (check_status answer) → CheckCallsFor (old.file m) (old.file p) (old.file c) code
    called_at (accepted claim) x is = accepted_called claim (x t) is
    called_at (no_certificate fault) x is =
        let f = x t in
        let h = f.2.1 in
        by_model f.0 f.1 (by_bytes f.0 h.0 h.1 (inr (h.2, inl (fault, f.2.0, h.3, is))))
    called_at (no_plan fault) x is =
        let f = x t in
        let h = f.2.1 in
        by_model f.0 f.1 (request_calls f.0 f.2.0 (λ certificate. by_plan_bytes f.0 certificate h.0 h.1 (inr (h.2, inl (fault, h.3, is)))))
    called_at (rejected line w) x is =
        let f = x t in
        let h = f.2.holds in
        by_model f.0 f.1 (by_bytes f.0 h.text.0 h.text.1 (inr (h.text.2, inr (h.certificate, h.text.3, given_calls f.0 h.certificate h.certificate.claim h.given h.goes_with (inr (line, w, f.2.fault, is))))))
    called_at (no_input w) x is = ⊎_elim
        (λ model. model_called w model is)
        (λ read. by_model read.0 (read.1 t) (proof_called read.0 w read.2 is))
        x

-- ---- files that give nothing to go on with, and the number of an answer
stop_at : (m p c : List ℕ) (old new : Shelved) (line : List ℕ) (status : Status) (answer : CheckAnswer) → CheckExplains m p c old new answer → line ≡ check_line answer → status ≡ check_status answer → IsReading (code_of status) → SomeStop (check_meaning m p c) old new line status
stop_at m p c old new line status (accepted claim) x says ends r = absurd (omega (arith, ap code_of ends, r.low))
stop_at m p c old new line status (no_certificate fault) x says ends r = absurd (omega (arith, ap code_of ends, r.low))
stop_at m p c old new line status (no_plan fault) x says ends r = absurd (omega (arith, ap code_of ends, r.low))
stop_at m p c old new line status (rejected at w) x says ends r = absurd (omega (arith, ap code_of ends, r.low))
stop_at m p c old new line status (no_input w) x says ends r = record { why = w; cause = x; says = says; ends = ends }

pub answer_number : (answer : CheckAnswer) → IsCommandNumber (code_of (check_status answer))
answer_number (accepted claim) = record { answers = record { unprinted = λ e. omega (arith, e); no_memory = λ e. omega (arith, e) }; command = λ e. omega (arith, e) }
answer_number (no_certificate fault) = record { answers = record { unprinted = λ e. omega (arith, e); no_memory = λ e. omega (arith, e) }; command = λ e. omega (arith, e) }
answer_number (no_plan fault) = record { answers = record { unprinted = λ e. omega (arith, e); no_memory = λ e. omega (arith, e) }; command = λ e. omega (arith, e) }
answer_number (rejected at w) = record { answers = record { unprinted = λ e. omega (arith, e); no_memory = λ e. omega (arith, e) }; command = λ e. omega (arith, e) }
answer_number (no_input w) = read_number w

-- ---- the command
pub check_kept : (m p c : List ℕ) → IsCommand (check_meaning m p c)
check_kept m p c = record {
  kept = record {
    after = λ old new line status d. read_after (check_meaning m p c) old new line status refl (λ e. absurd (cc e)) d.why.1
        (subst (λ s. IsAnswerNumber (code_of s)) (sym d.ends) (answer_number d.answer).answers)
        (λ r. stop_at m p c old new line status d.answer d.why.0 d.says d.ends r)
        (λ out_old out_new fine t. called_at m p c (code_of status) old new out_old out_new fine t d.answer d.why.0 (ap code_of d.ends));
    one = λ laws file s t a b. inl (check_call laws (file m) (file p) (file c) s t a b);
    some = λ by file. check_some by (file m) (file p) (file c);
  };
  command = λ old new line status d. subst (λ s. code_of s ≢ NO_COMMAND) (sym d.ends) (answer_number d.answer).command;
}

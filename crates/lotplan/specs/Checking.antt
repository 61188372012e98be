-- What `check` answers, and why.
use Rattle.std.specs.Prelude.{◌≡◌, ◌≢◌, ◌⊎◌, ◌<◌, ◌-◌, ℕ, List, [], ◌∷◌, ◌++◌, length, codes, decimal, IsTrue, Option, Some, None, ⊤}
use Rattle.lot_sizing.specs.Problem.{Problem}
use Rattle.lot_sizing.specs.Plan as terms
use Rattle.lot_sizing.specs.Best.{IsBest, IsFloor, IsImpossible}
use Rattle.lot_io.specs.Outside.{Files, OnlyReads, Printed, Rose, RoseBy, Shelved}
use Rattle.instance_reader.specs.Model.{BytesMean}
use Rattle.plan_rules.specs.declared.plan.Plan.{Plan}
use Rattle.plan_rules.specs.Held.{AllFit, plan_of}
use Rattle.plan_rules.specs.Texts.{broken_text}
use Rattle.plan_file.specs.Records.{IsPlanOf, records_of}
use Rattle.plan_file.specs.declared.fault.PlanFault.{PlanFault}
use Rattle.lin_rows.specs.Texts.{column_text}
use Rattle.cert_lines.specs.declared.parts.Claim.{Claim}
use Rattle.cert_lines.specs.declared.parts.Claim.TheVariants.{Optimal, Infeasible, Bound as BoundOf}
use Rattle.certificate.specs.declared.fault.CertTextFault.{CertTextFault}
use Rattle.certificate.specs.declared.fault.CertTextFault.TheVariants as text
use Rattle.certificate.specs.Faults.{IsCertTextFault}
use Rattle.certificate.specs.Limits.{IsTextOf}
use Rattle.certificate.specs.Shapes.{Shape}
use Rattle.cert_meaning.specs.Accepts.{IsTrueOf}
use Rattle.cert_checker.specs.declared.fault.Why.{Why}
use Rattle.cert_checker.specs.declared.fault.Why.TheVariants as why
use Rattle.cert_checker.specs.Cuts.{OfProblem}
use Rattle.cert_checker.specs.Checks.{IsCertified, IsCheckFault, plan_given}
use Rattle.stream_check.specs.declared.fault.StreamFault.{StreamFault}
use Rattle.stream_check.specs.declared.fault.StreamFault.TheVariants as stream
use Rattle.stream_check.specs.Streams.{IsTooLong, OfBytes, OfCertificate, too_many}
use Rattle.lotplan.specs.Proving.{HoldsCertificate, HoldsProof}
use Rattle.lotplan.specs.Reading.{ByFile, ByModel, HoldsPlan, read_meant, FileExplains, HoldsProblem, ModelExplains, OfFile, OfModel, ReadAnswer, refused, missing, unread, too_long, no_plan_line, read_line, read_status, AreNoPlan}
use Rattle.lotplan.specs.Meaning.{Meaning}
use Rattle.lotplan.specs.Saying.{Answered, Tells, TellsAs}
use Rattle.lotplan.specs.declared.commands.check.CheckAnswer.{CheckAnswer as HeldAnswer}
use Rattle.lotplan.specs.declared.commands.check.CheckAnswer.TheVariants as held
use Rattle.lotplan.specs.declared.status.TheConstants.{DONE, FAULTY, MISSING, TOO_LONG}
use Rattle.lotplan.specs.declared.status.Status.{Status}
use Rattle.lotplan.specs.declared.status.Status.TheVariants as status

-- ---- answers
pub data CheckAnswer : Type 0 where
  -- the certificate is accepted, and claims this
  accepted : Claim → CheckAnswer
  -- the certificate file holds no certificate
  no_certificate : CertTextFault → CheckAnswer
  -- the plan file holds no plan
  no_plan : PlanFault → CheckAnswer
  -- the certificate is refused on this line, for this cause
  rejected : ℕ → Why → CheckAnswer
  -- a file gave nothing to go on with
  no_input : ReadAnswer → CheckAnswer

-- what the program's own answer stands for
abbrev pub check_meant : HeldAnswer → CheckAnswer
check_meant (held.Accepted claim) = accepted claim
check_meant (held.NoCertificate fault) = no_certificate fault
check_meant (held.NoPlan fault) = no_plan fault
check_meant (held.Rejected r) = rejected r.line r.why
check_meant (held.NoInput w) = no_input (read_meant w)

abbrev pub check_status : CheckAnswer → Status
check_status (accepted claim) = status.Done
check_status (no_certificate fault) = status.Faulty
check_status (no_plan fault) = status.Faulty
check_status (rejected line w) = status.Faulty
check_status (no_input w) = read_status w

abbrev pub accepted_line : Claim → List ℕ
accepted_line (Optimal amount) = codes "accepted optimal " ++ (decimal amount ++ codes "\n")
accepted_line Infeasible = codes "accepted infeasible\n"
accepted_line (BoundOf amount) = codes "accepted bound " ++ (decimal amount ++ codes "\n")

-- a refusal on a line, and what follows
abbrev pub on_line : List ℕ → ℕ → List ℕ → List ℕ
on_line code line rest = code ++ (codes " line " ++ (decimal line ++ rest))

abbrev pub no_certificate_line : CertTextFault → List ℕ
no_certificate_line (text.Header line) = on_line (codes "rejected C1") line (codes "\n")
no_certificate_line (text.Line line) = on_line (codes "rejected C2") line (codes "\n")
no_certificate_line (text.Shape line) = on_line (codes "rejected C3") line (codes "\n")
no_certificate_line (text.Deep line) = on_line (codes "rejected C11") line (codes "\n")
no_certificate_line text.Memory = codes "out of memory\n"

abbrev pub rejected_line : ℕ → Why → List ℕ
rejected_line line why.Range = on_line (codes "rejected C4") line (codes "\n")
rejected_line line why.Sign = on_line (codes "rejected C5") line (codes "\n")
rejected_line line (why.Column column) = on_line (codes "rejected C6") line (codes " " ++ (column_text column ++ codes "\n"))
rejected_line line (why.Short says) = on_line (codes "rejected C7") line (codes " says " ++ (decimal says ++ codes "\n"))
rejected_line line why.NotPoint = on_line (codes "rejected C8") line (codes "\n")
rejected_line line (why.Block first last server) =
    on_line (codes "rejected C9") line (codes " " ++ (decimal first ++ (codes " " ++ (decimal last ++ (codes " " ++ (decimal server ++ codes "\n"))))))
rejected_line line why.TooLarge = on_line (codes "rejected C10") line (codes "\n")
rejected_line line (why.Plan rule) = codes "rejected C12 " ++ (broken_text rule ++ codes "\n")
rejected_line line (why.Costs plan claim) = codes "rejected C12 " ++ (decimal plan ++ (codes " " ++ (decimal claim ++ codes "\n")))
rejected_line line why.PlanMissing = codes "rejected C13\n"
rejected_line line why.Lead = on_line (codes "rejected C14") line (codes "\n")
rejected_line line why.Work = on_line (codes "rejected C15") line (codes "\n")

abbrev pub check_line : CheckAnswer → List ℕ
check_line (accepted claim) = accepted_line claim
check_line (no_certificate fault) = no_certificate_line fault
check_line (no_plan fault) = no_plan_line fault
check_line (rejected line w) = rejected_line line w
check_line (no_input w) = read_line w

-- ---- causes
-- an optimal cost is claimed
abbrev pub IsOptimal : Claim → Type 0
IsOptimal (Optimal amount) = ⊤
IsOptimal Infeasible = ⊥
IsOptimal (BoundOf amount) = ⊥

-- it is refused first on this line, for this cause
pub record HoldsRefused (before : Files) (plan_file certificate_file : List ℕ) (problem : Problem) (line : ℕ) (w : Why) : Type 0 where
  pub holds : HoldsCertificate before plan_file certificate_file problem
  pub fault : OfProblem problem (λ total weight. IsCheckFault problem total weight holds.certificate holds.given line w)

-- the certificate file holds a certificate that claims an optimal cost
abbrev pub AsksForPlan : Files → List ℕ → Type 0
AsksForPlan before c = OfCertificate (before c) (λ certificate. IsOptimal certificate.claim)

-- what the certificate file of a problem is, with the plan file
abbrev pub ProofIs : Files → List ℕ → List ℕ → Problem → CheckAnswer → Type 0
ProofIs before p c problem (accepted claim) = HoldsProof before p c problem claim
ProofIs before p c problem (no_certificate fault) = (fault ≢ text.Memory) × OfBytes (before c) (λ bytes. IsCertTextFault bytes fault)
ProofIs before p c problem (no_plan fault) = AsksForPlan before c × OfFile before p (λ bytes. AreNoPlan problem bytes fault)
ProofIs before p c problem (rejected line w) = HoldsRefused before p c problem line w
ProofIs before p c problem (no_input w) = ⊥

-- the model file means a problem, of which they are this
abbrev pub AllAre : Files → List ℕ → List ℕ → List ℕ → CheckAnswer → Type 0
AllAre before m p c answer = OfModel before m (λ problem. ProofIs before p c problem answer)

-- why the reading of the certificate file ends in this answer
abbrev pub CertificateExplains : List ℕ → Shelved → Shelved → ReadAnswer → Type 0
CertificateExplains c old new (refused fault) = ⊥
CertificateExplains c old new (missing file) = (file ≡ c) × Rose old.misses new.misses × (IsTrue old.told → old.file c ≡ None)
CertificateExplains c old new (unread file) = (file ≡ c) × Rose old.faults new.faults
CertificateExplains c old new (too_long file) = (file ≡ c) × RoseBy too_many old.given new.given × (IsTrue old.told → IsTooLong (old.file c))

-- why that of the certificate file does, and of the plan file, which is read where an optimal cost is claimed
abbrev pub ProofStops : List ℕ → List ℕ → Shelved → Shelved → ReadAnswer → Type 0
ProofStops p c old new w = CertificateExplains c old new w ⊎ ((IsTrue old.told → AsksForPlan old.file c) × FileExplains p old new w)

-- why that of the three files does: by the model file, or by those of the problem that it means
abbrev pub CheckStops : List ℕ → List ℕ → List ℕ → Shelved → Shelved → ReadAnswer → Type 0
CheckStops m p c old new w = ModelExplains m old new w ⊎ ((problem : Problem) × (IsTrue old.told → HoldsProblem old.file m problem) × ProofStops p c old new w)

-- what an answer to a fault of the certificate file is; out of memory has none
abbrev pub IsRefusal : List ℕ → StreamFault → CheckAnswer → Type 0
IsRefusal c stream.Missing answer = answer ≡ no_input (missing c)
IsRefusal c stream.Failed answer = answer ≡ no_input (unread c)
IsRefusal c stream.TooLong answer = answer ≡ no_input (too_long c)
IsRefusal c (stream.Text fault) answer = answer ≡ no_certificate fault
IsRefusal c (stream.Rejected r) answer = answer ≡ rejected r.line r.why
IsRefusal c stream.Memory answer = ⊥

-- why the reading of a plan file of a problem gives no plan
abbrev pub PlanStops : Problem → List ℕ → Shelved → Shelved → CheckAnswer → Type 0
PlanStops problem p old new (accepted claim) = ⊥
PlanStops problem p old new (no_certificate fault) = ⊥
PlanStops problem p old new (no_plan fault) = IsTrue old.told → OfFile old.file p (λ bytes. AreNoPlan problem bytes fault)
PlanStops problem p old new (rejected line w) = ⊥
PlanStops problem p old new (no_input w) = FileExplains p old new w

-- why checking the certificate file with this plan, or with none, ends in this answer
abbrev pub GivenExplains : Problem → Option Plan → List ℕ → Shelved → Shelved → CheckAnswer → Type 0
GivenExplains problem given c old new (accepted claim) =
    IsTrueOf problem claim (plan_given given)
    × (IsTrue old.told → OfCertificate (old.file c) (λ certificate. (certificate.claim ≡ claim) × OfProblem problem (λ total weight. IsCertified problem total weight certificate given)))
GivenExplains problem given c old new (no_certificate fault) =
    (fault ≢ text.Memory) × (IsTrue old.told → OfBytes (old.file c) (λ bytes. IsCertTextFault bytes fault))
GivenExplains problem given c old new (no_plan fault) = ⊥
GivenExplains problem given c old new (rejected line w) =
    IsTrue old.told → OfCertificate (old.file c) (λ certificate. OfProblem problem (λ total weight. IsCheckFault problem total weight certificate given line w))
GivenExplains problem given c old new (no_input w) = CertificateExplains c old new w

-- and with the plan of the plan file
abbrev pub PlannedExplains : Problem → List ℕ → List ℕ → Shelved → Shelved → CheckAnswer → Type 0
PlannedExplains problem p c old new answer =
    ((plan : Plan) × (IsTrue old.told → HoldsPlan old.file p problem plan) × GivenExplains problem (Some plan) c old new answer)
    ⊎ PlanStops problem p old new answer

-- why checking the certificate file of a problem does
abbrev pub ProofExplains : Problem → List ℕ → List ℕ → Shelved → Shelved → CheckAnswer → Type 0
ProofExplains problem p c old new (accepted claim) = IsTrue old.told → ProofIs old.file p c problem (accepted claim)
ProofExplains problem p c old new (no_certificate fault) = IsTrue old.told → ProofIs old.file p c problem (no_certificate fault)
ProofExplains problem p c old new (no_plan fault) = IsTrue old.told → ProofIs old.file p c problem (no_plan fault)
ProofExplains problem p c old new (rejected line w) = IsTrue old.told → ProofIs old.file p c problem (rejected line w)
ProofExplains problem p c old new (no_input w) = ProofStops p c old new w

-- why checking these files ends in this answer
abbrev pub CheckExplains : List ℕ → List ℕ → List ℕ → Shelved → Shelved → CheckAnswer → Type 0
CheckExplains m p c old new (accepted claim) = IsTrue old.told → AllAre old.file m p c (accepted claim)
CheckExplains m p c old new (no_certificate fault) = IsTrue old.told → AllAre old.file m p c (no_certificate fault)
CheckExplains m p c old new (no_plan fault) = IsTrue old.told → AllAre old.file m p c (no_plan fault)
CheckExplains m p c old new (rejected line w) = IsTrue old.told → AllAre old.file m p c (rejected line w)
CheckExplains m p c old new (no_input w) = CheckStops m p c old new w

-- what checking these files does: an answer that has its cause, and nothing is written
abbrev pub CheckDoes : List ℕ → List ℕ → List ℕ → Shelved → Shelved → List ℕ → Status → Type 0
CheckDoes m p c old new = Answered CheckAnswer (λ answer. CheckExplains m p c old new answer × OnlyReads old new) check_line check_status

-- ---- the status that the three files call for, faults and out of memory aside
-- for a certificate with the plan that goes with it `DONE` where it is accepted, and `FAULTY` where it is refused
abbrev pub GivenCallsFor : Problem → Shape → Option Plan → ℕ → Type 0
GivenCallsFor problem certificate given status =
    (OfProblem problem (λ total weight. IsCertified problem total weight certificate given) × (status ≡ DONE))
    ⊎ ((line : ℕ) × (w : Why) × OfProblem problem (λ total weight. IsCheckFault problem total weight certificate given line w) × (status ≡ FAULTY))

-- for the plan file of one that claims an optimal cost `FAULTY` where it holds no plan
abbrev pub PlannedCallsFor : Problem → Shape → Option (List ℕ) → ℕ → Type 0
PlannedCallsFor problem certificate = ByFile (λ bytes status.
    ((fault : PlanFault) × AreNoPlan problem bytes fault × (status ≡ FAULTY))
    ⊎ ((plan : Plan) × AllFit problem plan × IsPlanOf problem (records_of bytes) (plan_of plan) × GivenCallsFor problem certificate (Some plan) status))

abbrev pub ClaimCallsFor : Problem → Shape → Claim → Option (List ℕ) → ℕ → Type 0
ClaimCallsFor problem certificate (Optimal amount) plan status = PlannedCallsFor problem certificate plan status
ClaimCallsFor problem certificate Infeasible plan status = GivenCallsFor problem certificate None status
ClaimCallsFor problem certificate (BoundOf amount) plan status = GivenCallsFor problem certificate None status

-- for a certificate file `MISSING` where it is absent, `TOO_LONG` where it is too long, `FAULTY` where it holds no certificate, and else what the certificate calls for
abbrev pub ByCertificate : (Shape → ℕ → Type 0) → Option (List ℕ) → ℕ → Type 0
ByCertificate Calls None status = status ≡ MISSING
ByCertificate Calls (Some bytes) status =
    ((too_many - 1 < length bytes) × (status ≡ TOO_LONG))
    ⊎ ((length bytes < too_many)
    × (((fault : CertTextFault) × (fault ≢ text.Memory) × IsCertTextFault bytes fault × (status ≡ FAULTY))
    ⊎ ((certificate : Shape) × IsTextOf bytes certificate × Calls certificate status)))

abbrev pub ProofCallsFor : Problem → Option (List ℕ) → Option (List ℕ) → ℕ → Type 0
ProofCallsFor problem plan = ByCertificate (λ certificate. ClaimCallsFor problem certificate certificate.claim plan)

abbrev pub CheckCallsFor : Option (List ℕ) → Option (List ℕ) → Option (List ℕ) → ℕ → Type 0
CheckCallsFor model plan certificate = ByModel BytesMean (λ problem. ProofCallsFor problem plan certificate) model

-- ---- what each status says
-- a claim is true of a problem: the plan file holds a best plan, which costs the amount; no plan is feasible; or none costs less than the amount
abbrev pub ClaimIsTrue : Files → (plan_file : List ℕ) → Problem → Claim → Type 0
ClaimIsTrue before p problem (Optimal amount) =
    OfFile before p (λ bytes. (plan : terms.Plan) × IsPlanOf problem (records_of bytes) plan × IsBest problem plan × (terms.cost problem plan ≡ amount))
ClaimIsTrue before p problem Infeasible = IsImpossible problem
ClaimIsTrue before p problem (BoundOf amount) = IsFloor problem amount

-- the claim on the line is true of the problem in the model file
abbrev pub Accepts : Files → (model_file plan_file : List ℕ) → Printed → Printed → Type 0
Accepts before m p = Tells Claim (λ claim. OfModel before m (λ problem. ClaimIsTrue before p problem claim)) accepted_line

-- the certificate in the certificate file claims it, and is accepted with the plan that goes with it
abbrev pub AcceptsCertificate : Files → (model_file plan_file certificate_file : List ℕ) → Printed → Printed → Type 0
AcceptsCertificate before m p c = Tells Claim (λ claim. AllAre before m p c (accepted claim)) accepted_line

-- the certificate file holds no certificate or a refused one, or the plan file holds no plan, and the line names the first fault
abbrev pub FindsRefused : Files → (model_file plan_file certificate_file : List ℕ) → Printed → Printed → Type 0
FindsRefused before m p c = TellsAs status.Faulty CheckAnswer check_status (AllAre before m p c) check_line

-- ---- the command
abbrev pub check_meaning : List ℕ → List ℕ → List ℕ → Meaning
check_meaning m p c = record {
  does = CheckDoes m p c;
  reads = m ∷ p ∷ [];
  passes = c ∷ [];
  writes = [];
  stops = CheckStops m p c;
  overlong = λ old. ⊥;
  calls_for = λ file. CheckCallsFor (file m) (file p) (file c);
  may_be_left = λ file. ⊥;
}

-- `check` of these files calls for `DONE`, and for no other status
pub record CallsForDone (after : Files) (model_file plan_file certificate_file : List ℕ) : Type 0 where
  pub done : CheckCallsFor (after model_file) (after plan_file) (after certificate_file) DONE
  pub alone : (status : ℕ) → CheckCallsFor (after model_file) (after plan_file) (after certificate_file) status → status ≡ DONE

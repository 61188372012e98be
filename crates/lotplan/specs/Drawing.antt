-- What `draw` answers, and why.
use Rattle.std.specs.Prelude.{◌≡◌, ◌≢◌, ◌⊎◌, ◌<◌, ◌≤◌, ℕ, List, [], ◌∷◌, length, codes, IsTrue, Option, Some, None, ⊤}
use Rattle.lot_sizing.specs.Problem.{Problem}
use Rattle.lot_sizing.specs.Plan.{IsFeasible, Plan}
use Rattle.lot_sizing.specs.Best.{IsBest, IsFloor}
use Rattle.lot_io.specs.Outside.{Files, OnlyReads, Printed, Rose, Shelved}
use Rattle.plan_rules.specs.Held.{plan_of}
use Rattle.plan_rules.specs.declared.plan.Plan.{Plan as Grids}
use Rattle.cert_lines.specs.declared.parts.Claim.{Claim}
use Rattle.cert_lines.specs.declared.parts.Claim.TheVariants.{Optimal, Infeasible, Bound as BoundOf}
use Rattle.certificate.specs.declared.fault.CertTextFault.TheVariants as text
use Rattle.certificate.specs.Faults.{IsCertTextFault}
use Rattle.certificate.specs.Shapes.{Shape}
use Rattle.cert_meaning.specs.Accepts.{IsTrueOf}
use Rattle.cert_checker.specs.declared.fault.Why.{Why}
use Rattle.cert_checker.specs.Cuts.{OfProblem}
use Rattle.cert_checker.specs.Checks.{IsCertified, IsCheckFault}
use Rattle.stream_check.specs.Streams.{OfBytes, OfCertificate}
use Rattle.plan_page.specs.Page.{page_text}
use Rattle.plan_page.specs.declared.limits.TheConstants.{MAX_PAGE}
use Rattle.plan_page.specs.declared.proving.Proved.{Proved}
use Rattle.plan_page.specs.declared.proving.Proved.TheVariants as proved
use Rattle.lotplan.specs.Checking.{AllAre, ByCertificate, CertificateExplains, CheckAnswer, check_meant, accepted, no_certificate, no_plan, rejected, no_input, check_line, check_status}
use Rattle.lotplan.specs.Extracting.{WritesAndSays, counted_line}
use Rattle.lotplan.specs.Judging.{AnyPlan, FindsFault, FindsNone, HoldsBoth, JudgeAnswer, JudgeCallsFor, JudgeExplains, OfFeasible, judge_line, judge_meant, judge_status}
use Rattle.lotplan.specs.Meaning.{Meaning, long_page_line}
use Rattle.lotplan.specs.Reading.{FilesStop, ReadAnswer}
use Rattle.lotplan.specs.Saying.{Answered, Gains, IsSaid, Tells}
use Rattle.lotplan.specs.Writing.{NamesUnwritten, StartsAmong, unwritten_line}
use Rattle.lotplan.specs.declared.commands.draw.NotDrawn.{NotDrawn}
use Rattle.lotplan.specs.declared.commands.draw.NotDrawn.TheVariants as stop
use Rattle.lotplan.specs.declared.said.Said.{Said}
use Rattle.lotplan.specs.declared.status.TheConstants.{DONE, FAULTY, TOO_LONG}
use Rattle.lotplan.specs.declared.status.Status.{Status}
use Rattle.lotplan.specs.declared.status.Status.TheVariants as status

-- ---- answers
pub data DrawAnswer : Type 0 where
  -- the page was written, and has so many bytes
  drawn : ℕ → DrawAnswer
  -- the file of this name could not be written
  unwritten : List ℕ → DrawAnswer
  -- the page would be longer than it may be, and isn't written
  long_page : DrawAnswer
  -- there is no feasible plan: what `judge` answers
  judged : JudgeAnswer → DrawAnswer
  -- the certificate isn't accepted: what `check` answers
  unproved : CheckAnswer → DrawAnswer

abbrev pub drawn_word : List ℕ
drawn_word = codes "drawn"

abbrev pub draw_status : DrawAnswer → Status
draw_status (drawn count) = status.Done
draw_status (unwritten file) = status.Unwritten
draw_status long_page = status.TooLong
draw_status (judged answer) = judge_status answer
draw_status (unproved answer) = check_status answer

abbrev pub draw_line : DrawAnswer → List ℕ
draw_line (drawn count) = counted_line drawn_word count
draw_line (unwritten file) = unwritten_line file
draw_line long_page = long_page_line
draw_line (judged answer) = judge_line answer
draw_line (unproved answer) = check_line answer

-- ---- what a page says is proved
-- the certificate file that is asked for, if any
abbrev pub proof_files : Option (List ℕ) → List (List ℕ)
proof_files None = []
proof_files (Some c) = c ∷ []

-- the plan that goes with a claim: that which is drawn where an optimal cost is claimed, and else none
abbrev pub plan_for : Claim → Grids → Option Grids
plan_for (Optimal amount) grids = Some grids
plan_for Infeasible grids = None
plan_for (BoundOf amount) grids = None

-- what a page says of a claim
abbrev pub proved_of : Claim → Proved
proved_of (Optimal amount) = proved.Optimal
proved_of Infeasible = proved.Nothing
proved_of (BoundOf amount) = proved.Bound amount

-- what it says is so: no plan costs less, or none costs less than this
abbrev pub IsSo : Problem → Plan → Proved → Type 0
IsSo problem plan proved.Nothing = ⊤
IsSo problem plan proved.Optimal = IsBest problem plan
IsSo problem plan (proved.Bound amount) = IsFloor problem amount

-- the certificate file holds a certificate that is accepted with the plan that goes with its claim, and claims this
abbrev pub IsAcceptedWith : Files → (certificate_file : List ℕ) → Problem → Grids → Claim → Type 0
IsAcceptedWith before c problem grids claim =
    OfCertificate (before c) (λ certificate. (certificate.claim ≡ claim) × OfProblem problem (λ total weight. IsCertified problem total weight certificate (plan_for claim grids)))

-- nothing where no certificate is asked for, and else what an accepted one claims, which is true
abbrev pub IsShown : Files → (certificate_file : Option (List ℕ)) → Problem → Grids → Proved → Type 0
IsShown before None problem grids said = said ≡ proved.Nothing
IsShown before (Some c) problem grids said =
    (claim : Claim) × (said ≡ proved_of claim) × IsTrueOf problem claim (Some (plan_of grids)) × IsAcceptedWith before c problem grids claim

-- ---- causes
-- the model file means a problem, the plan file holds a feasible plan of it, and this is shown of what is proved, and is so
pub record HasDrawing (before : Files) (model_file plan_file : List ℕ) (certificate_file : Option (List ℕ)) : Type 0 where
  pub problem : Problem
  pub grids : Grids
  pub files : HoldsBoth before model_file plan_file problem grids
  pub feasible : IsFeasible problem (plan_of grids)
  pub said : Proved
  pub shown : IsShown before certificate_file problem grids said
  pub so : IsSo problem (plan_of grids) said

-- the page's file holds the page of that plan, which isn't too long, and it has so many bytes
pub record HasPage (before after : Files) (model_file plan_file page_file : List ℕ) (certificate_file : Option (List ℕ)) (count : ℕ) : Type 0 where
  pub drawing : HasDrawing before model_file plan_file certificate_file
  pub written : after page_file ≡ Some (page_text drawing.problem (plan_of drawing.grids) drawing.said)
  pub counted : count ≡ length (page_text drawing.problem (plan_of drawing.grids) drawing.said)
  pub short : count ≤ MAX_PAGE

-- that page would be too long
pub record HasLongPage (before : Files) (model_file plan_file : List ℕ) (certificate_file : Option (List ℕ)) : Type 0 where
  pub drawing : HasDrawing before model_file plan_file certificate_file
  pub long : MAX_PAGE < length (page_text drawing.problem (plan_of drawing.grids) drawing.said)

-- the answer isn't that a certificate is accepted
abbrev pub FindsNoProof : CheckAnswer → Type 0
FindsNoProof (accepted claim) = ⊥
FindsNoProof (no_certificate fault) = ⊤
FindsNoProof (no_plan fault) = ⊤
FindsNoProof (rejected line w) = ⊤
FindsNoProof (no_input w) = ⊤

-- why checking the certificate file of a problem with the plan that goes with its claim ends in this answer
abbrev pub WithPlanExplains : Problem → Grids → (certificate_file : List ℕ) → Shelved → Shelved → CheckAnswer → Type 0
WithPlanExplains problem grids c old new (accepted claim) =
    IsTrueOf problem claim (Some (plan_of grids)) × (IsTrue old.told → IsAcceptedWith old.file c problem grids claim)
WithPlanExplains problem grids c old new (no_certificate fault) =
    (fault ≢ text.Memory) × (IsTrue old.told → OfBytes (old.file c) (λ bytes. IsCertTextFault bytes fault))
WithPlanExplains problem grids c old new (no_plan fault) = ⊥
WithPlanExplains problem grids c old new (rejected line w) =
    IsTrue old.told → OfCertificate (old.file c) (λ certificate. OfProblem problem (λ total weight. IsCheckFault problem total weight certificate (plan_for certificate.claim grids) line w))
WithPlanExplains problem grids c old new (no_input w) = CertificateExplains c old new w

-- and where that is a file that may not be asked for
abbrev pub ProofExplains : Problem → Grids → (certificate_file : Option (List ℕ)) → Shelved → Shelved → CheckAnswer → Type 0
ProofExplains problem grids None old new answer = ⊥
ProofExplains problem grids (Some c) old new answer = WithPlanExplains problem grids c old new answer

-- the certificate isn't accepted with the plan, and this answer has its cause
abbrev pub IsUnproved : Problem → Grids → (certificate_file : Option (List ℕ)) → Shelved → Shelved → CheckAnswer → Type 0
IsUnproved problem grids c old new answer = FindsNoProof answer × ProofExplains problem grids c old new answer

-- so it is with the feasible plan of the problem that the model file means
pub record HasNoProof (old new : Shelved) (model_file plan_file : List ℕ) (certificate_file : Option (List ℕ)) (answer : CheckAnswer) : Type 0 where
  pub problem : Problem
  pub grids : Grids
  pub files : IsTrue old.told → HoldsBoth old.file model_file plan_file problem grids
  pub feasible : IsFeasible problem (plan_of grids)
  pub unproved : IsUnproved problem grids certificate_file old new answer

-- why drawing the plan in a file ends in this answer
abbrev pub DrawExplains : (model_file plan_file page_file : List ℕ) → (certificate_file : Option (List ℕ)) → Shelved → Shelved → DrawAnswer → Type 0
DrawExplains m p h c old new (drawn count) = (IsTrue old.told → HasPage old.file new.file m p h c count) × StartsAmong (h ∷ []) 1 old new
DrawExplains m p h c old new (unwritten file) =
    (file ≡ h) × (IsTrue old.told → HasDrawing old.file m p c) × Rose old.write_faults new.write_faults × StartsAmong (h ∷ []) 1 old new
DrawExplains m p h c old new long_page = (IsTrue old.told → HasLongPage old.file m p c) × OnlyReads old new
DrawExplains m p h c old new (judged answer) = FindsNone answer × JudgeExplains m p old new answer × OnlyReads old new
DrawExplains m p h c old new (unproved answer) = HasNoProof old new m p c answer × OnlyReads old new

-- what is done: an answer that has its cause
abbrev pub DrawDoes : (model_file plan_file page_file : List ℕ) → (certificate_file : Option (List ℕ)) → Shelved → Shelved → List ℕ → Status → Type 0
DrawDoes m p h c old new = Answered DrawAnswer (DrawExplains m p h c old new) draw_line draw_status

-- nothing is shown of what is proved, for this cause; out of memory needs none
abbrev pub ExplainsNoProof : Problem → Grids → (certificate_file : Option (List ℕ)) → Shelved → Shelved → NotDrawn → Type 0
ExplainsNoProof problem grids c old new (stop.Judged answer) = ⊥
ExplainsNoProof problem grids c old new (stop.Unproved answer) = IsUnproved problem grids c old new (check_meant answer)
ExplainsNoProof problem grids c old new stop.Memory = ⊤

-- the files' plan isn't drawn, for this cause; out of memory needs none
abbrev pub ExplainsNotDrawn : (model_file plan_file : List ℕ) → (certificate_file : Option (List ℕ)) → Shelved → Shelved → NotDrawn → Type 0
ExplainsNotDrawn m p c old new (stop.Judged answer) = FindsNone (judge_meant answer) × JudgeExplains m p old new (judge_meant answer)
ExplainsNotDrawn m p c old new (stop.Unproved answer) = HasNoProof old new m p c (check_meant answer)
ExplainsNotDrawn m p c old new stop.Memory = ⊤

-- the page of a plan was written and counted, or could not be, or is too long, and that is said
abbrev pub PageSays : Problem → Plan → Proved → (page_file : List ℕ) → Shelved → Shelved → Said → Type 0
PageSays problem plan shown h old new said =
    ((length (page_text problem plan shown) ≤ MAX_PAGE) × WritesAndSays drawn_word (length (page_text problem plan shown)) h (page_text problem plan shown) old new said)
    ⊎ ((MAX_PAGE < length (page_text problem plan shown)) × IsSaid long_page_line status.TooLong said × (new ≡ old))

-- why the files gave nothing to go on with: those of the plan, or that of the certificate
abbrev pub ProofStops : (model_file plan_file : List ℕ) → (certificate_file : Option (List ℕ)) → Shelved → Shelved → ReadAnswer → Type 0
ProofStops m p None old new w = ⊥
ProofStops m p (Some c) old new w = (IsTrue old.told → OfFeasible old.file m p AnyPlan) × CertificateExplains c old new w

abbrev pub DrawStops : (model_file plan_file : List ℕ) → (certificate_file : Option (List ℕ)) → Shelved → Shelved → ReadAnswer → Type 0
DrawStops m p c old new w = FilesStop m p old new w ⊎ ProofStops m p c old new w

-- ---- the status that the files call for, faults and out of memory aside
-- for a page `DONE`, or `TOO_LONG` where it is too long
abbrev pub PageCallsFor : Problem → Plan → Proved → ℕ → Type 0
PageCallsFor problem plan shown status =
    ((length (page_text problem plan shown) ≤ MAX_PAGE) × (status ≡ DONE)) ⊎ ((MAX_PAGE < length (page_text problem plan shown)) × (status ≡ TOO_LONG))

-- for a certificate, with the plan that goes with its claim, that of the page where it is accepted, and `FAULTY` where it is refused
abbrev pub ShapeCallsFor : Problem → Grids → Shape → Claim → ℕ → Type 0
ShapeCallsFor problem grids certificate claim status =
    (OfProblem problem (λ total weight. IsCertified problem total weight certificate (plan_for claim grids)) × PageCallsFor problem (plan_of grids) (proved_of claim) status)
    ⊎ ((line : ℕ) × (w : Why) × OfProblem problem (λ total weight. IsCheckFault problem total weight certificate (plan_for claim grids) line w) × (status ≡ FAULTY))

-- for its file, where it holds one
abbrev pub ProofCallsFor : Problem → Grids → Option (List ℕ) → ℕ → Type 0
ProofCallsFor problem grids = ByCertificate (λ certificate. ShapeCallsFor problem grids certificate certificate.claim)

-- for a feasible plan, where a certificate may be asked for
abbrev pub DrawingCallsFor : Files → (certificate_file : Option (List ℕ)) → Problem → Grids → ℕ → Type 0
DrawingCallsFor file None problem grids status = PageCallsFor problem (plan_of grids) proved.Nothing status
DrawingCallsFor file (Some c) problem grids status = ProofCallsFor problem grids (file c) status

-- for a model and a plan what `judge` calls for, but where the plan is feasible
abbrev pub DrawCallsFor : (model_file plan_file : List ℕ) → (certificate_file : Option (List ℕ)) → Files → ℕ → Type 0
DrawCallsFor m p c file status =
    (JudgeCallsFor (file m) (file p) status × (status ≢ DONE))
    ⊎ ((problem : Problem) × (grids : Grids) × HoldsBoth file m p problem grids × IsFeasible problem (plan_of grids) × DrawingCallsFor file c problem grids status)

-- ---- what each status says
-- where a certificate is asked for `check` accepts it, and the page says what it claims
abbrev pub SaysAsChecked : Files → (model_file plan_file : List ℕ) → (certificate_file : Option (List ℕ)) → Proved → Type 0
SaysAsChecked before m p None said = said ≡ proved.Nothing
SaysAsChecked before m p (Some c) said = (claim : Claim) × (said ≡ proved_of claim) × AllAre before m p c (accepted claim)

-- the page's file holds the page of the plan file's feasible plan, what it says is proved is so, and the line has the number of its bytes
pub record Draws (before after : Files) (model_file plan_file page_file : List ℕ) (certificate_file : Option (List ℕ)) (out_old out_new : Printed) : Type 0 where
  pub count : ℕ
  pub page : HasPage before after model_file plan_file page_file certificate_file count
  pub checked : SaysAsChecked before model_file plan_file certificate_file page.drawing.said
  pub line : Gains (counted_line drawn_word count) out_old out_new

-- the certificate isn't accepted with the feasible plan, and the line has the first fault of it
abbrev pub FindsProofFault : Shelved → Shelved → (model_file plan_file : List ℕ) → (certificate_file : Option (List ℕ)) → Printed → Printed → Type 0
FindsProofFault old new m p c = Tells CheckAnswer (HasNoProof old new m p c) check_line

-- the plan file holds no plan or one that breaks a rule, or the certificate isn't accepted
abbrev pub FindsDrawFault : Shelved → Shelved → (model_file plan_file : List ℕ) → (certificate_file : Option (List ℕ)) → Printed → Printed → Type 0
FindsDrawFault old new m p c out_old out_new = FindsFault old.file m p out_old out_new ⊎ FindsProofFault old new m p c out_old out_new

-- the plan file holds a feasible plan, the page could not be written, and the line names its file
abbrev pub FailsToDraw : Shelved → Shelved → (model_file plan_file page_file : List ℕ) → (certificate_file : Option (List ℕ)) → Printed → Printed → Type 0
FailsToDraw old new m p h c = NamesUnwritten (HasDrawing old.file m p c) h old new

-- ---- the command
abbrev pub draw_meaning : (model_file plan_file page_file : List ℕ) → (certificate_file : Option (List ℕ)) → Meaning
draw_meaning m p h c = record {
  does = DrawDoes m p h c;
  reads = m ∷ p ∷ [];
  passes = proof_files c;
  writes = h ∷ [];
  stops = DrawStops m p c;
  overlong = λ old. IsTrue old.told → HasLongPage old.file m p c;
  calls_for = DrawCallsFor m p c;
  may_be_left = λ file. ⊥;
}

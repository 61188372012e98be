-- What `draw` leaves, by its answer.
use Rattle.std.proofs.Common.{◌≡◌, ◌≢◌, ◌≤◌, ◌∙◌, ⊎_elim, ℕ, List, [], ◌∷◌, length, Option, Some, None, IsTrue, inl, inr, refl, sym, ap, subst, arith}
use Rattle.std.specs.Prelude.{Result, Ok, Err, IfOk}
use Rattle.std.specs.declared.alloc.AllocError.{AllocError}
use Rattle.lot_io.specs.Outside.{Files, GrewBy, OnlyReads, Printed, Shelved}
use Rattle.lot_sizing.specs.Problem.{Problem}
use Rattle.lot_sizing.specs.Plan.{IsFeasible, Plan}
use Rattle.plan_rules.specs.Held.{plan_of}
use Rattle.plan_rules.specs.declared.plan.Plan.{Plan as Grids}
use Rattle.cert_lines.specs.declared.parts.Claim.{Claim}
use Rattle.cert_lines.specs.declared.parts.Claim.TheVariants.{Optimal, Infeasible, Bound as BoundOf}
use Rattle.certificate.specs.Faults.{IsCertTextFault}
use Rattle.certificate.specs.Laws.{TextsMeanOneThing}
use Rattle.cert_meaning.specs.Accepts.{IsTrueOf}
use Rattle.cert_checker.specs.Cuts.{OfProblem}
use Rattle.cert_checker.specs.Checks.{IsCertified, IsCheckFault, plan_given}
use Rattle.stream_check.specs.declared.fault.StreamFault.{StreamFault}
use Rattle.stream_check.specs.Streams.{IsStreamFault, OfBytes, OfCertificate, never_refused}
use Rattle.plan_page.specs.Page.{page_text}
use Rattle.plan_page.specs.declared.limits.TheConstants.{MAX_PAGE}
use Rattle.plan_page.specs.declared.proving.Proved.{Proved}
use Rattle.plan_page.specs.declared.proving.Proved.TheVariants as proved
use Rattle.lotplan.specs.Meaning.{Says}
use Rattle.lotplan.specs.declared.commands.draw.NotDrawn.{NotDrawn}
use Rattle.lotplan.specs.declared.commands.draw.NotDrawn.TheVariants.{Judged, Unproved, Memory}
use Rattle.lotplan.specs.declared.said.Said.{Said}
use Rattle.lotplan.specs.Status.{code_of}
use Rattle.lotplan.specs.Proving.{IsGiven}
use Rattle.lotplan.specs.Reading.{ReadAnswer, HoldsPlan, refused, missing, unread, too_long, read_status}
use Rattle.lotplan.specs.Judging.{AnyPlan, FindsNone, HoldsBoth, JudgeAnswer, JudgeExplains, OfFeasible, feasible, no_plan as no_plan_held, broken, no_input as not_read, judge_line, judge_status}
use Rattle.lotplan.specs.Checking.{CheckAnswer, CertificateExplains, GivenExplains, IsRefusal, accepted, no_certificate, no_plan, rejected, no_input, check_line, check_meant, check_status}
use Rattle.lotplan.specs.Drawing.{DrawAnswer, DrawCallsFor, DrawExplains, DrawingCallsFor, Draws, ExplainsNoProof, ExplainsNotDrawn, FailsToDraw, FindsDrawFault, FindsNoProof, HasDrawing, HasNoProof, IsAcceptedWith, IsShown, IsSo, IsUnproved, PageCallsFor, PageSays, ProofCallsFor, ProofExplains, ProofStops, SaysAsChecked, ShapeCallsFor, WithPlanExplains, drawn, unwritten, long_page, judged, unproved, draw_line, draw_meaning, draw_status, plan_for, proved_of}
use Rattle.lotplan.specs.Saying.{Gains, IsSaid}
use Rattle.lotplan.specs.Writing.{StartsAtMost, unwritten_line}
use Rattle.lotplan.specs.Run.{HadNoFault}
use Rattle.lotplan.specs.declared.status.Status.{Status}
use Rattle.lotplan.specs.declared.status.TheConstants.{DONE, FAULTY, NO_COMMAND, UNWRITTEN}
use Rattle.lotplan.proofs.Checked.{Claims, certificate_after, explains_fault, given_after, of_text}
use Rattle.lotplan.proofs.Kept.{IsCommand}
use Rattle.lotplan.proofs.Outputs.{IsAnswerNumber, IsCommandNumber, answered}
use Rattle.lotplan.proofs.PageCalls.{draw_call, draw_some, held_feasible}
use Rattle.lotplan.proofs.Readings.{IsReading, Stopped, reading}
use Rattle.lotplan.proofs.Writings.{one_at_most, reads_at_most, starts_after, told_before}
use Rattle.lotplan.proofs.Checked as checking
use Rattle.lotplan.proofs.Judged as judging

-- ---- a certificate that is checked with a plan
-- a claim that is true with the plan that went with another claim is true with the plan
true_with : (problem : Problem) (grids : Grids) (claim other : Claim) → IsTrueOf problem other (plan_given (plan_for claim grids)) → IsTrueOf problem other (Some (plan_of grids))
true_with problem grids (Optimal amount) (Optimal cost) x = x
true_with problem grids Infeasible (Optimal cost) x = absurd (cc x.1)
true_with problem grids (BoundOf amount) (Optimal cost) x = absurd (cc x.1)
true_with problem grids claim Infeasible x = x
true_with problem grids claim (BoundOf bound) x = x

pub with_plan : TextsMeanOneThing → (problem : Problem) (grids : Grids) (c : List ℕ) (old mid new : Shelved) (claim : Claim) (answer : CheckAnswer) → Claims c old claim → OnlyReads old mid → GivenExplains problem (plan_for claim grids) c mid new answer → WithPlanExplains problem grids c old new answer
with_plan one problem grids c old mid new claim answer claims reads x = of answer (given_after problem (plan_for claim grids) c old mid new answer reads x)
  where
    of : (a : CheckAnswer) → GivenExplains problem (plan_for claim grids) c old new a → WithPlanExplains problem grids c old new a
    of (accepted other) y = (
      true_with problem grids claim other y.0,
      λ t.
          let g = y.1 t in
          let shape = g.3.0 in
          let same = sym (of_text one (old.file c) (λ k. k.claim ≡ claim) (claims t) g.0 g.1 shape g.3.1) ∙ g.3.2.0 in
          (g.0, g.1, g.2, (shape, g.3.1, (g.3.2.0, subst (λ k. OfProblem problem (λ total weight. IsCertified problem total weight shape (plan_for k grids))) same g.3.2.1))),
    )
    of (no_certificate fault) y = y
    of (no_plan fault) y = absurd y
    of (rejected line w) y = λ t.
        let g = y t in
        let shape = g.3.0 in
        let same = of_text one (old.file c) (λ k. k.claim ≡ claim) (claims t) g.0 g.1 shape g.3.1 in
        (g.0, g.1, g.2, (shape, g.3.1, subst (λ k. OfProblem problem (λ total weight. IsCheckFault problem total weight shape (plan_for k grids) line w)) (sym same) g.3.2))
    of (no_input w) y = y

-- where its claim is read
pub claim_refused : (problem : Problem) (grids : Grids) (c : List ℕ) (old new : Shelved) (fault : StreamFault) (answer : CheckAnswer) → IsStreamFault c old new never_refused fault → IsRefusal c fault answer → WithPlanExplains problem grids c old new answer
claim_refused problem grids c old new fault answer x is = of answer (explains_fault c old new never_refused fault answer x is)
  where
    of : (a : CheckAnswer) → checking.FaultExplains c old new never_refused a → WithPlanExplains problem grids c old new a
    of (accepted claim) y = absurd y
    of (no_certificate fault) y = y
    of (no_plan fault) y = absurd y
    of (rejected line w) y = absurd y
    of (no_input w) y = y

-- ---- what is shown of it
-- what a page says of a true claim is so
pub shown_so : (problem : Problem) (grids : Grids) (claim : Claim) → IsTrueOf problem claim (Some (plan_of grids)) → IsSo problem (plan_of grids) (proved_of claim)
shown_so problem grids (Optimal cost) x = subst (λ q. IsSo problem q proved.Optimal) (sym (same_plan_given (plan_of grids) x.0 x.1)) x.2
  where
    same_plan_given : (a b : Plan) → Some a ≡ Some b → a ≡ b
    same_plan_given a b is = cc is
shown_so problem grids Infeasible x = tt
shown_so problem grids (BoundOf bound) x = x

shown_before : (old mid : Shelved) (c : Option (List ℕ)) (problem : Problem) (grids : Grids) (said : Proved) → OnlyReads old mid → (IsTrue mid.told → IsShown mid.file c problem grids said) → IsTrue old.told → IsShown old.file c problem grids said
shown_before old mid c problem grids said reads shown t = subst (λ (f : Files). IsShown f c problem grids said) reads.files (shown (told_before reads t))

with_after : (problem : Problem) (grids : Grids) (c : List ℕ) (old mid new : Shelved) (answer : CheckAnswer) → OnlyReads old mid → WithPlanExplains problem grids c mid new answer → WithPlanExplains problem grids c old new answer
with_after problem grids c old mid new (accepted claim) reads x = (x.0, λ t. subst (λ (f : Files). IsAcceptedWith f c problem grids claim) reads.files (x.1 (told_before reads t)))
with_after problem grids c old mid new (no_certificate fault) reads x = (x.0, λ t. subst (λ (f : Files). OfBytes (f c) (λ bytes. IsCertTextFault bytes fault)) reads.files (x.1 (told_before reads t)))
with_after problem grids c old mid new (no_plan fault) reads x = absurd x
with_after problem grids c old mid new (rejected line w) reads x = λ t. subst (λ (f : Files). OfCertificate (f c) (λ certificate. OfProblem problem (λ total weight. IsCheckFault problem total weight certificate (plan_for certificate.claim grids) line w))) reads.files (x (told_before reads t))
with_after problem grids c old mid new (no_input w) reads x = certificate_after c old mid new w reads x

proof_after : (problem : Problem) (grids : Grids) (c : Option (List ℕ)) (old mid new : Shelved) (answer : CheckAnswer) → OnlyReads old mid → ProofExplains problem grids c mid new answer → ProofExplains problem grids c old new answer
proof_after problem grids None old mid new answer reads x = absurd x
proof_after problem grids (Some c) old mid new answer reads x = with_after problem grids c old mid new answer reads x

-- an accepted certificate, as `check` gives it
true_given : (problem : Problem) (grids : Grids) (claim : Claim) → IsTrueOf problem claim (Some (plan_of grids)) → IsTrueOf problem claim (plan_given (plan_for claim grids))
true_given problem grids (Optimal cost) x = x
true_given problem grids Infeasible x = x
true_given problem grids (BoundOf bound) x = x

is_given : (before : Files) (p : List ℕ) (problem : Problem) (grids : Grids) (claim : Claim) → HoldsPlan before p problem grids → IsGiven before p problem claim (plan_for claim grids)
is_given before p problem grids (Optimal amount) holds = holds
is_given before p problem grids Infeasible holds = refl
is_given before p problem grids (BoundOf amount) holds = refl

as_checked : (before : Files) (m p : List ℕ) (c : Option (List ℕ)) (problem : Problem) (grids : Grids) (said : Proved) → HoldsBoth before m p problem grids → IsShown before c problem grids said → SaysAsChecked before m p c said
as_checked before m p None problem grids said files shown = shown
as_checked before m p (Some c) problem grids said files (claim, says, true_claim, f) = (
  claim,
  says,
  (
    problem,
    files.model,
    record {
      holds = record {
        certificate = f.3.0;
        text = (f.0, f.1, f.2, f.3.1);
        given = plan_for claim grids;
        goes_with = subst (λ k. IsGiven before p problem k (plan_for claim grids)) (sym f.3.2.0) (is_given before p problem grids claim files.plan);
      };
      claims = f.3.2.0;
      is_true = true_given problem grids claim true_claim;
      certified = f.3.2.1;
    },
  ),
)

module _ (m p : List ℕ) (c : Option (List ℕ)) (problem : Problem) (grids : Grids) (old mid new : Shelved) (files : IsTrue old.told → HoldsBoth old.file m p problem grids) (feasible_plan : IsFeasible problem (plan_of grids)) (reads : OnlyReads old mid) where
  pub shown_after : (said : Proved) → (IsTrue mid.told → IsShown mid.file c problem grids said) → IsTrue old.told → IsShown old.file c problem grids said
  shown_after said shown t = shown_before old mid c problem grids said reads shown t

  pub none_after : (none : NotDrawn) → ExplainsNoProof problem grids c mid new none → ExplainsNotDrawn m p c old new none
  none_after (Judged answer) x = absurd x
  none_after (Unproved answer) x = record { problem = problem; grids = grids; files = files; feasible = feasible_plan; unproved = (x.0, proof_after problem grids c old mid new (check_meant answer) reads x.1) }
  none_after Memory x = tt

-- ---- what is said
module _ (m p h : List ℕ) (c : Option (List ℕ)) where
  pub says_page : (problem : Problem) (grids : Grids) (said : Proved) (old mid new : Shelved) (r : Result Said AllocError) → (IsTrue old.told → HoldsBoth old.file m p problem grids) → IsFeasible problem (plan_of grids) → (IsTrue old.told → IsShown old.file c problem grids said) → IsSo problem (plan_of grids) said → OnlyReads old mid → IfOk r (PageSays problem (plan_of grids) said h mid new) → IfOk r (Says (draw_meaning m p h c) old new)
  says_page problem grids said old mid new (Ok s) files feasible_plan shown so reads x = ⊎_elim
      (λ short. ⊎_elim
      (λ done. answered DrawAnswer (DrawExplains m p h c old new) draw_line draw_status (drawn (length text)) s (
        λ t. record { drawing = drawing t; written = done.1.written (told_before reads t); counted = refl; short = short.0 },
        starts_after (h ∷ []) 1 old mid new reads done.1.touches,
      )
      done.0)
      (λ lost. answered DrawAnswer (DrawExplains m p h c old new) draw_line draw_status (unwritten h) s (
        refl,
        drawing,
        omega (arith, lost.1.failed, reads.write_faults),
        starts_after (h ∷ []) 1 old mid new reads lost.1.touches,
      )
      lost.0)
      short.1)
      (λ long. answered DrawAnswer (DrawExplains m p h c old new) draw_line draw_status long_page s (λ t. record { drawing = drawing t; long = long.0 }, subst (OnlyReads old) (sym long.2) reads) long.1)
      x
    where
      text : List ℕ
      text = page_text problem (plan_of grids) said

      drawing : IsTrue old.told → HasDrawing old.file m p c
      drawing t = record { problem = problem; grids = grids; files = files t; feasible = feasible_plan; said = said; shown = shown t; so = so }
  says_page problem grids said old mid new (Err e) files feasible_plan shown so reads x = tt

  pub says_judged : (old new : Shelved) (answer : JudgeAnswer) (r : Result Said AllocError) → FindsNone answer × JudgeExplains m p old new answer → OnlyReads old new → IfOk r (IsSaid (judge_line answer) (judge_status answer)) → IfOk r (Says (draw_meaning m p h c) old new)
  says_judged old new answer (Ok said) x reads says = answered DrawAnswer (DrawExplains m p h c old new) draw_line draw_status (judged answer) said (x.0, x.1, reads) says
  says_judged old new answer (Err e) x reads says = tt

  pub says_unproved : (old new : Shelved) (answer : CheckAnswer) (r : Result Said AllocError) → HasNoProof old new m p c answer → OnlyReads old new → IfOk r (IsSaid (check_line answer) (check_status answer)) → IfOk r (Says (draw_meaning m p h c) old new)
  says_unproved old new answer (Ok said) x reads says = answered DrawAnswer (DrawExplains m p h c old new) draw_line draw_status (unproved answer) said (x, reads) says
  says_unproved old new answer (Err e) x reads says = tt

  -- ---- what each number says
  -- a certificate that isn't accepted doesn't end with `DONE`
  not_done : (answer : CheckAnswer) → FindsNoProof answer → (code : ℕ) → code ≡ code_of (check_status answer) → code ≢ DONE
  not_done (accepted claim) none code is e = none
  not_done (no_certificate fault) none code is e = omega (arith, is, e)
  not_done (no_plan fault) none code is e = omega (arith, is, e)
  not_done (rejected line w) none code is e = omega (arith, is, e)
  not_done (no_input w) none code is e = omega (arith, (reading w code is).low, e)

  none_done : (answer : JudgeAnswer) → FindsNone answer → (code : ℕ) → code ≡ code_of (judge_status answer) → code ≢ DONE
  none_done (feasible amount) none code is e = none
  none_done (no_plan_held fault) none code is e = omega (arith, is, e)
  none_done (broken rule) none code is e = omega (arith, is, e)
  none_done (not_read w) none code is e = omega (arith, (reading w code is).low, e)

  -- nor with `UNWRITTEN`
  not_unwritten : (answer : CheckAnswer) (code : ℕ) → code ≡ code_of (check_status answer) → code ≢ UNWRITTEN
  not_unwritten (accepted claim) code is e = omega (arith, is, e)
  not_unwritten (no_certificate fault) code is e = omega (arith, is, e)
  not_unwritten (no_plan fault) code is e = omega (arith, is, e)
  not_unwritten (rejected line w) code is e = omega (arith, is, e)
  not_unwritten (no_input w) code is e = (reading w code is).other e

  none_unwritten : (answer : JudgeAnswer) (code : ℕ) → code ≡ code_of (judge_status answer) → code ≢ UNWRITTEN
  none_unwritten (feasible amount) code is e = omega (arith, is, e)
  none_unwritten (no_plan_held fault) code is e = omega (arith, is, e)
  none_unwritten (broken rule) code is e = omega (arith, is, e)
  none_unwritten (not_read w) code is e = (reading w code is).other e

  module _ (code : ℕ) (old new : Shelved) (out_old out_new : Printed) where
    pub drawn_at : (answer : DrawAnswer) → DrawExplains m p h c old new answer → code ≡ code_of (draw_status answer) → Gains (draw_line answer) out_old out_new → code ≡ DONE → IsTrue old.told → Draws old.file new.file m p h c out_old out_new
    drawn_at (drawn count) x is line none t =
        let page = x.0 t in
        let d = page.drawing in
        record { count = count; page = page; checked = as_checked old.file m p c d.problem d.grids d.said d.files d.shown; line = line }
    drawn_at (unwritten file) x is line none t = absurd (omega (arith, is, none))
    drawn_at long_page x is line none t = absurd (omega (arith, is, none))
    drawn_at (judged answer) x is line none t = absurd (none_done answer x.0 code is none)
    drawn_at (unproved answer) x is line none t = absurd (not_done answer x.0.unproved.0 code is none)

    pub fault_at : (answer : DrawAnswer) → DrawExplains m p h c old new answer → code ≡ code_of (draw_status answer) → Gains (draw_line answer) out_old out_new → code ≡ FAULTY → IsTrue old.told → FindsDrawFault old new m p c out_old out_new
    fault_at (drawn count) x is line three t = absurd (omega (arith, is, three))
    fault_at (unwritten file) x is line three t = absurd (omega (arith, is, three))
    fault_at long_page x is line three t = absurd (omega (arith, is, three))
    fault_at (judged answer) x is line three t = inl (judging.fault_at m p code old new out_old out_new answer x.1 is line three t)
    fault_at (unproved answer) x is line three t = inr (record { what = answer; holds = x.0; line = line })

    pub unwritten_at : (answer : DrawAnswer) → DrawExplains m p h c old new answer → code ≡ code_of (draw_status answer) → Gains (draw_line answer) out_old out_new → code ≡ UNWRITTEN → FailsToDraw old new m p h c out_old out_new
    unwritten_at (drawn count) x is line eight = absurd (omega (arith, is, eight))
    unwritten_at (unwritten file) x is line eight = record { holds = x.1; failed = x.2; line = subst (λ f. Gains (unwritten_line f) out_old out_new) x.0 line }
    unwritten_at long_page x is line eight = absurd (omega (arith, is, eight))
    unwritten_at (judged answer) x is line eight = absurd (none_unwritten answer code is eight)
    unwritten_at (unproved answer) x is line eight = absurd (not_unwritten answer code is eight)

  -- ---- what is written
  quiet_at : (code : ℕ) (old new : Shelved) (answer : DrawAnswer) → DrawExplains m p h c old new answer → code ≡ code_of (draw_status answer) → code ≢ DONE → code ≢ UNWRITTEN → OnlyReads old new
  quiet_at code old new (drawn count) x is some other = absurd (some is)
  quiet_at code old new (unwritten file) x is some other = absurd (other is)
  quiet_at code old new long_page x is some other = x.1
  quiet_at code old new (judged answer) x is some other = x.2
  quiet_at code old new (unproved answer) x is some other = x.1

  wrote_at : (code : ℕ) (old new : Shelved) (answer : DrawAnswer) → DrawExplains m p h c old new answer → code ≡ code_of (draw_status answer) → code ≡ DONE → GrewBy 1 old.starts new.starts
  wrote_at code old new (drawn count) x is none = x.1.starts
  wrote_at code old new (unwritten file) x is none = absurd (omega (arith, is, none))
  wrote_at code old new long_page x is none = absurd (omega (arith, is, none))
  wrote_at code old new (judged answer) x is none = absurd (none_done answer x.0 code is none)
  wrote_at code old new (unproved answer) x is none = absurd (not_done answer x.0.unproved.0 code is none)

  others_at : (old new : Shelved) (answer : DrawAnswer) → DrawExplains m p h c old new answer → StartsAtMost (h ∷ []) old new × (new.told ≡ old.told)
  others_at old new (drawn count) x = (one_at_most h old new x.1, x.1.told)
  others_at old new (unwritten file) x = (one_at_most h old new x.3, x.3.told)
  others_at old new long_page x = (reads_at_most (h ∷ []) old new x.1, x.1.told)
  others_at old new (judged answer) x = (reads_at_most (h ∷ []) old new x.2, x.2.told)
  others_at old new (unproved answer) x = (reads_at_most (h ∷ []) old new x.1, x.1.told)

-- ---- what the files call for
module _ (code : ℕ) (old new : Shelved) (out_old out_new : Printed) (fine : HadNoFault old new out_old out_new) (t : IsTrue old.told) (problem : Problem) (grids : Grids) where
  by_bytes : (c bytes : List ℕ) → old.file c ≡ Some bytes → ProofCallsFor problem grids (Some bytes) code → ProofCallsFor problem grids (old.file c) code
  by_bytes c bytes is calls = subst (λ f. ProofCallsFor problem grids f code) (sym is) calls

  file_called : (c : List ℕ) (w : ReadAnswer) → CertificateExplains c old new w → code ≡ code_of (read_status w) → ProofCallsFor problem grids (old.file c) code
  file_called c (refused fault) x is = absurd x
  file_called c (missing file) x is = subst (λ f. ProofCallsFor problem grids f code) (sym (x.2 t)) is
  file_called c (unread file) x is = absurd (fine.read x.1)
  file_called c (too_long file) x is =
      let h = x.2 t in
      by_bytes c h.0 h.1 (inl (h.2, is))

  proof_called : (c : List ℕ) (answer : CheckAnswer) → FindsNoProof answer → WithPlanExplains problem grids c old new answer → code ≡ code_of (check_status answer) → ProofCallsFor problem grids (old.file c) code
  proof_called c (accepted claim) none x is = absurd none
  proof_called c (no_certificate fault) none x is =
      let f = x.1 t in
      by_bytes c f.0 f.1 (inr (f.2, inl (fault, x.0, f.3, is)))
  proof_called c (no_plan fault) none x is = absurd x
  proof_called c (rejected line w) none x is =
      let f = x t in
      by_bytes c f.0 f.1 (inr (f.2, inr (f.3.0, f.3.1, inr (line, w, f.3.2, is))))
  proof_called c (no_input w) none x is = file_called c w x is

  pub unproved_called : (c : Option (List ℕ)) (answer : CheckAnswer) → IsUnproved problem grids c old new answer → code ≡ code_of (check_status answer) → DrawingCallsFor old.file c problem grids code
  unproved_called None answer x is = absurd x.1
  unproved_called (Some c) answer x is = proof_called c answer x.0 x.1 is

-- a page, and one that is too long
shown_called : (code : ℕ) (before : Files) (c : Option (List ℕ)) (problem : Problem) (grids : Grids) (said : Proved) → IsShown before c problem grids said → PageCallsFor problem (plan_of grids) said code → DrawingCallsFor before c problem grids code
shown_called code before None problem grids said is calls = subst (λ s. PageCallsFor problem (plan_of grids) s code) is calls
shown_called code before (Some c) problem grids said (claim, says, true_claim, f) calls =
    let claimed = subst (λ s. PageCallsFor problem (plan_of grids) s code) says calls in
    let shape = f.3.0 in
    let shaped = subst (λ k. ShapeCallsFor problem grids shape k code) (sym f.3.2.0) (inl (f.3.2.1, claimed)) in
    subst (λ b. ProofCallsFor problem grids b code) (sym f.1) (inr (f.2, inr (shape, f.3.1, shaped)))

module _ (m p h : List ℕ) (c : Option (List ℕ)) where
  called_at : (code : ℕ) (old new : Shelved) (out_old out_new : Printed) → HadNoFault old new out_old out_new → IsTrue old.told → (answer : DrawAnswer) → DrawExplains m p h c old new answer → code ≡ code_of (draw_status answer) → DrawCallsFor m p c old.file code
  called_at code old new out_old out_new fine t (drawn count) x is =
      let page = x.0 t in
      let d = page.drawing in
      inr (d.problem, d.grids, d.files, d.feasible, shown_called code old.file c d.problem d.grids d.said d.shown (inl (subst (λ n. n ≤ MAX_PAGE) page.counted page.short, is)))
  called_at code old new out_old out_new fine t (unwritten file) x is = absurd (fine.written x.2)
  called_at code old new out_old out_new fine t long_page x is =
      let page = x.0 t in
      let d = page.drawing in
      inr (d.problem, d.grids, d.files, d.feasible, shown_called code old.file c d.problem d.grids d.said d.shown (inr (page.long, is)))
  called_at code old new out_old out_new fine t (judged answer) x is = inl (judging.called_at m p code old new out_old out_new fine t answer x.1 is, none_done m p h c answer x.0 code is)
  called_at code old new out_old out_new fine t (unproved answer) x is =
      let n = x.0 in
      inr (n.problem, n.grids, n.files t, n.feasible, unproved_called code old new out_old out_new fine t n.problem n.grids c answer n.unproved is)

-- ---- files that give nothing to go on with, and the number of an answer
proof_stops : (m p : List ℕ) (c : Option (List ℕ)) (old new : Shelved) (problem : Problem) (grids : Grids) (w : ReadAnswer) → (IsTrue old.told → OfFeasible old.file m p AnyPlan) → ProofExplains problem grids c old new (no_input w) → ProofStops m p c old new w
proof_stops m p None old new problem grids w holds x = absurd x
proof_stops m p (Some c) old new problem grids w holds x = (holds, x)

module _ (m p h : List ℕ) (c : Option (List ℕ)) where
  unproved_stop : (old new : Shelved) (line : List ℕ) (status : Status) (answer : CheckAnswer) → HasNoProof old new m p c answer → line ≡ check_line answer → status ≡ check_status answer → IsReading (code_of status) → Stopped (draw_meaning m p h c) old new line status
  unproved_stop old new line status (accepted claim) x says ends r = absurd x.unproved.0
  unproved_stop old new line status (no_certificate fault) x says ends r = absurd (omega (arith, ap code_of ends, r.low))
  unproved_stop old new line status (no_plan fault) x says ends r = absurd (omega (arith, ap code_of ends, r.low))
  unproved_stop old new line status (rejected at w) x says ends r = absurd (omega (arith, ap code_of ends, r.low))
  unproved_stop old new line status (no_input w) x says ends r = inl (record {
    why = w;
    cause = inr (proof_stops m p c old new x.problem x.grids w (λ t. held_feasible old.file m p x.problem x.grids (x.files t) x.feasible) x.unproved.1);
    says = says;
    ends = ends;
  })

  stop_at : (old new : Shelved) (line : List ℕ) (status : Status) (answer : DrawAnswer) → DrawExplains m p h c old new answer → line ≡ draw_line answer → status ≡ draw_status answer → IsReading (code_of status) → Stopped (draw_meaning m p h c) old new line status
  stop_at old new line status (drawn count) x says ends r = absurd (omega (arith, ap code_of ends, r.low))
  stop_at old new line status (unwritten file) x says ends r = absurd (r.other (ap code_of ends))
  stop_at old new line status long_page x says ends r = inr (record { cause = x.0; says = says; ends = ends })
  stop_at old new line status (judged answer) x says ends r = inl (judging.stop_at (draw_meaning m p h c) m p old new line status (λ why y. inl y) answer x.1 says ends r)
  stop_at old new line status (unproved answer) x says ends r = unproved_stop old new line status answer x.0 says ends r

answer_number : (answer : DrawAnswer) → IsCommandNumber (code_of (draw_status answer))
answer_number (drawn count) = record { answers = record { unprinted = λ e. omega (arith, e); no_memory = λ e. omega (arith, e) }; command = λ e. omega (arith, e) }
answer_number (unwritten file) = record { answers = record { unprinted = λ e. omega (arith, e); no_memory = λ e. omega (arith, e) }; command = λ e. omega (arith, e) }
answer_number long_page = record { answers = record { unprinted = λ e. omega (arith, e); no_memory = λ e. omega (arith, e) }; command = λ e. omega (arith, e) }
answer_number (judged answer) = judging.answer_number answer
answer_number (unproved answer) = checking.answer_number answer

-- ---- the command
pub draw_kept : (m p h : List ℕ) (c : Option (List ℕ)) → IsCommand (draw_meaning m p h c)
draw_kept m p h c = record {
  kept = record {
    after = λ old new line status d. record {
      number = subst (λ e. IsAnswerNumber (code_of e)) (sym d.ends) (answer_number d.answer).answers;
      quiet = λ some one two other. quiet_at m p h c (code_of status) old new d.answer d.why (ap code_of d.ends) some other;
      writes = (others_at m p h c old new d.answer d.why).0;
      tells = (others_at m p h c old new d.answer d.why).1;
      wrote = λ none. wrote_at m p h c (code_of status) old new d.answer d.why (ap code_of d.ends) none;
      reads = λ e. absurd (cc e);
      idle = λ e. absurd (cc e);
      stops = λ r. stop_at m p h c old new line status d.answer d.why d.says d.ends r;
      calls = λ out_old out_new fine t. called_at m p h c (code_of status) old new out_old out_new fine t d.answer d.why (ap code_of d.ends);
    };
    one = λ laws file s t a b. inl (draw_call laws m p c file s t a b);
    some = λ by file. draw_some by m p c file;
  };
  command = λ old new line status d. subst (λ e. code_of e ≢ NO_COMMAND) (sym d.ends) (answer_number d.answer).command;
}

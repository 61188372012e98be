-- What was written of the later periods says what is found of the whole.
use Rattle.std.proofs.Common.{◌≡◌, ◌≢◌, ◌≤◌, ◌<◌, ◌∙◌, ◌+◌, ◌-◌, ◌++◌, ⊎_elim, ℕ, zero, suc, List, [], ◌∷◌, length, Option, Some, None, IsTrue, inl, inr, refl, sym, subst, arith}
use Rattle.std.specs.Prelude.{Ok}
use Rattle.std.proofs.lemmas.List.{append-nil}
use Rattle.lot_sizing.specs.Problem.{Problem}
use Rattle.lot_sizing.specs.Plan.{Plan}
use Rattle.lot_sizing.specs.Texts.{plan_text}
use Rattle.lot_io.specs.Outside.{Shelved}
use Rattle.lot_draft.specs.declared.fault.ModelFault.{ModelFault}
use Rattle.instance_reader.specs.Model.{BytesMean}
use Rattle.instance_reader.specs.Written.{IsModelText}
use Rattle.plan_rules.specs.declared.plan.Plan.{Plan as Grids}
use Rattle.plan_rules.specs.Held.{plan_of}
use Rattle.plan_file.specs.Records.{IsPlanOf, records_of}
use Rattle.cert_lines.specs.declared.parts.Claim.{Claim}
use Rattle.cert_lines.specs.declared.parts.Claim.TheVariants.{Optimal, Infeasible, Bound as BoundOf}
use Rattle.certificate.specs.Limits.{IsTextOf}
use Rattle.certificate.specs.Shapes.{shape_of}
use Rattle.stream_check.specs.Streams.{too_many}
use Rattle.search_result.specs.declared.found.Found.{Found}
use Rattle.search_result.specs.declared.found.RootSays.{RootSays}
use Rattle.frozen_start.specs.Starts.{IsFloorAfter}
use Rattle.frozen_start.specs.Laws.{BestGoOn, FloorsGoOn, JoinsAreFeasible, NoneAgrees}
use Rattle.command_line.specs.Words.{AreApart}
use Rattle.replan.specs.Answers.{IsFirstLead, IsRest, IsRestRefused}
use Rattle.replan.specs.Whole.{total_claimed}
use Rattle.replan.specs.declared.fault.RestFault.{RestFault}
use Rattle.replan.specs.declared.fault.RestFault.TheVariants.{First, Lead, Draft, Memory}
use Rattle.replan.specs.declared.found.Rest.{Rest}
use Rattle.lotplan.specs.Finding.{IsFound, only}
use Rattle.lotplan.specs.Reading.{file_limit}
use Rattle.lotplan.specs.Writing.{IsNoneOf, IsUnwritten, IsWritten, StartsAmong, StopsAt, WritesAll}
use Rattle.lotplan.specs.Planning.{FailsAt, IsAnswerTo, PlanAnswer, WriteExplains, above, between, infeasible, optimal, plan_line, plan_status, unwritten}
use Rattle.lotplan.specs.Planning.{no_input as no_model}
use Rattle.lotplan.specs.Replanning.{FailsOn, GoesOn, IsFoundLine, IsNoRest, NextExplains, NextSays, StartExplains, StartSays, searched, searched_line, whole_line}
use Rattle.lotplan.specs.Saying.{IsSaid}
use Rattle.lotplan.specs.declared.said.Said.{Said}
use Rattle.lotplan.proofs.Proved.{planned, proved, uncertified_at, unplanned_at, unproved_at}
use Rattle.lotplan.proofs.Writings.{starts_more, stopped_first, stopped_second, stops_later, written_two}

-- ---- the lines
-- what `plan` prints and the line of the whole are the lines of what was searched
pub lines_of : (m : Problem) (spent : ℕ) (claim : Claim) (given : Option Grids) (says : RootSays) (nodes : ℕ) (answer : PlanAnswer) → IsAnswerTo m claim given says nodes answer → plan_line answer ++ whole_line claim (total_claimed spent claim) ≡ searched_line spent answer
lines_of m spent (Optimal amount) given says nodes answer is = subst (λ a. plan_line a ++ whole_line (Optimal amount) (total_claimed spent (Optimal amount)) ≡ searched_line spent a) (sym is) refl
lines_of m spent Infeasible given says nodes answer is = subst (λ a. plan_line a ++ whole_line Infeasible (total_claimed spent Infeasible) ≡ searched_line spent a) (sym is) (append-nil (plan_line (infeasible says nodes)))
lines_of m spent (BoundOf bound) (Some plan) says nodes answer is = subst (λ a. plan_line a ++ whole_line (BoundOf bound) (total_claimed spent (BoundOf bound)) ≡ searched_line spent a) (sym is) refl
lines_of m spent (BoundOf bound) None says nodes answer is = subst (λ a. plan_line a ++ whole_line (BoundOf bound) (total_claimed spent (BoundOf bound)) ≡ searched_line spent a) (sym is) refl

-- ---- why there is no rest
pub no_rest_of :
    (m : Problem) (plan : Plan) (first : ℕ) (fault : RestFault) → fault ≢ Memory → (fault ≡ First → m.periods ≤ first) → ((item : ℕ) → fault ≡ Lead item → (first < m.periods) × IsFirstLead m item)
    → ((why : ModelFault) → fault ≡ Draft why → IsRestRefused m plan first why) → IsNoRest m plan first fault
no_rest_of m plan first First some none lead draft = none refl
no_rest_of m plan first (Lead item) some none lead draft = lead item refl
no_rest_of m plan first (Draft why) some none lead draft = draft why refl
no_rest_of m plan first Memory some none lead draft = absurd (some refl)

-- ---- from the rest to the whole
module _ (joins : JoinsAreFeasible) (none : NoneAgrees) (floors : FloorsGoOn) (best : BestGoOn) (problem : Problem) (plan : Plan) (first : ℕ) (rest : Rest) (is : IsRest problem plan first rest) (budget : ℕ) (n q c : List ℕ) (apart : AreApart n q c) (old new : Shelved) where
  -- of the problem and the plan, where files are told
  abbrev OfThese : (Problem → Plan → Type 0) → Type 0
  OfThese P = IsTrue old.told → P problem plan

  -- once the model file was written
  module _ (bytes : List ℕ) (text : IsModelText rest.instance bytes) (means : BytesMean bytes (Ok rest.instance)) (mid : Shelved) (model : IsWritten n bytes old mid) where
    told_mid : IsTrue old.told → IsTrue mid.told
    told_mid t = subst IsTrue (sym model.touches.told) t

    goes_on : (names : List (List ℕ)) (count : ℕ) → IsNoneOf names n → StartsAmong names count mid new → IsTrue old.told → GoesOn new.file problem plan first n rest
    goes_on names count other touches t = record {
      is = is;
      written = record { bytes = bytes; written = touches.others (told_mid t) n other ∙ model.written t; text = text; means = means };
    }

    both : IsNoneOf (q ∷ c ∷ []) n
    both = (apart.plan, (apart.certificate, tt))

    plan_kept : IsTrue old.told → mid.file q ≡ old.file q
    plan_kept t = model.touches.others t q (λ e. apart.plan (sym e), tt)

    fails : (file : List ℕ) → FailsAt (λ P. IsTrue mid.told → P rest.instance) q c mid new file → FailsOn OfThese first n q c old new file
    fails file x = ⊎_elim
        (λ one. inr (inl (one.0, λ t. (rest, goes_on (q ∷ []) 1 (apart.plan, tt) one.2 t, one.1 (told_mid t)), starts_more n (q ∷ []) 1 old mid new model.touches one.2)))
        (λ more. ⊎_elim
        (λ two. inr (inr (inl (two.0, λ t. (rest, goes_on (q ∷ c ∷ []) 2 both two.2 t, two.1 (told_mid t)), starts_more n (q ∷ c ∷ []) 2 old mid new model.touches two.2))))
        (λ last. inr (inr (inr (last.0, λ t. (rest, goes_on (c ∷ []) 1 (apart.certificate, tt) last.2 t, last.1 (told_mid t)), starts_more n (c ∷ []) 1 old mid new model.touches last.2))))
        more)
        x

    after : (answer : PlanAnswer) → WriteExplains rest.instance (only budget) q c mid new answer → StartExplains OfThese first n q c budget old new (searched answer rest.spent)
    after (optimal says nodes amount) x = (
      λ t.
          let w = x.0 (told_mid t) in
          let made = best problem plan first rest.instance w.best.chosen is.may.may_go_on.no_leads is.rest is.may.stands w.best.best in
          record {
            rest = rest;
            goes_on = goes_on (q ∷ c ∷ []) 2 both x.1 t;
            is_spent = refl;
            later = w;
            best = record { best = made.0; costs = omega (arith, made.1, is.spent, w.best.costs) };
          },
      starts_more n (q ∷ c ∷ []) 2 old mid new model.touches x.1,
    )
    after (infeasible says nodes) x = (
      λ t.
          let w = x.0 (told_mid t) in
          record {
            rest = rest;
            goes_on = goes_on (c ∷ []) 1 (apart.certificate, tt) x.1 t;
            later = record { impossible = w.impossible; proof = w.proof; kept = w.kept ∙ plan_kept t; shows = w.shows };
            none = none problem plan first rest.instance is.may.may_go_on.no_leads is.rest w.impossible;
          },
      starts_more n (c ∷ []) 1 old mid new model.touches x.1,
    )
    after (between says nodes bound amount) x = (
      λ t.
          let w = x.0 (told_mid t) in
          let made = joins problem plan first rest.instance w.plan.chosen is.may.may_go_on.no_leads is.rest is.may.stands w.plan.feasible in
          let P : ℕ → Type 0 = λ spent. IsFloorAfter problem plan first (spent + bound) in
          record {
            rest = rest;
            goes_on = goes_on (q ∷ c ∷ []) 2 both x.1 t;
            is_spent = refl;
            later = w;
            joined = record { feasible = made.0; agrees = made.1; costs = omega (arith, made.2, is.spent) };
            floor = subst P (sym is.spent) (floors problem plan first rest.instance bound is.may.may_go_on.no_leads is.rest w.floor);
          },
      starts_more n (q ∷ c ∷ []) 2 old mid new model.touches x.1,
    )
    after (above says nodes bound) x = (
      λ t.
          let w = x.0 (told_mid t) in
          let P : ℕ → Type 0 = λ spent. IsFloorAfter problem plan first (spent + bound) in
          record {
            rest = rest;
            goes_on = goes_on (c ∷ []) 1 (apart.certificate, tt) x.1 t;
            is_spent = refl;
            later = record { floor = w.floor; own = w.own; proof = w.proof; kept = w.kept ∙ plan_kept t; shows = w.shows };
            floor = subst P (sym is.spent) (floors problem plan first rest.instance bound is.may.may_go_on.no_leads is.rest w.floor);
          },
      starts_more n (c ∷ []) 1 old mid new model.touches x.1,
    )
    after (unwritten file) x = (omega (arith, x.0, model.fine), fails file x.1)
    after (no_model why) x = absurd x

  next_on : (answer : PlanAnswer) → NextExplains rest.instance n q c budget old new answer → StartExplains OfThese first n q c budget old new (searched answer rest.spent)
  next_on answer x = ⊎_elim
      (λ lost. subst (λ a. StartExplains OfThese first n q c budget old new (searched a rest.spent)) (sym lost.0) (lost.1.failed, inl (refl, λ t. (rest, is), lost.1.touches)))
      (λ written. after written.0 written.1 written.2 written.3 written.4 answer written.5)
      x

  pub says_next : (said : Said) → NextSays rest n q c budget old new said → StartSays problem plan first n q c budget old new said
  says_next said (answer, x, says) = (searched answer rest.spent, next_on answer x, says)

-- ---- what is written, after the model file
module _ (rest : Rest) (budget : ℕ) (found : Found) (is_found : IsFound rest.instance (only budget) found) (n q c : List ℕ) (apart : AreApart n q c) (model : List ℕ) (is_text : IsModelText rest.instance model) (means : BytesMean model (Ok rest.instance)) (proof : List ℕ) (text : IsTextOf proof (shape_of found.certificate)) (short : length proof < too_many) (old new : Shelved) where
  pub model_lost : (said : Said) → IsSaid (plan_line (unwritten n)) (plan_status (unwritten n)) said → IsUnwritten n old new → NextSays rest n q c budget old new said
  model_lost said says lost = (unwritten n, inl (refl, lost), says)

  -- where there is no plan
  module _ (none : found.plan ≡ None) where
    pub two_written : (said : Said) → IsFoundLine rest found said → WritesAll ((n, model) ∷ (c, proof) ∷ []) old new → NextSays rest n q c budget old new said
    two_written said (answer, answers, says) all =
        let (mid, first, last) = written_two n model c proof old new all in
        (answer, inr (model, is_text, means, mid, first, proved rest.instance (only budget) found is_found q c apart.written proof text short none mid new answer answers last), says)

    pub proof_lost : (place : ℕ) (said : Said) → IsSaid (plan_line (unwritten c)) (plan_status (unwritten c)) said → (place ≡ 0 → ⊥) → StopsAt place ((n, model) ∷ (c, proof) ∷ []) old new → NextSays rest n q c budget old new said
    proof_lost place said says later stops =
        let (mid, first, lost) = stopped_second place n model c proof old new later stops in
        (unwritten c, inr (model, is_text, means, mid, first, unproved_at rest.instance (only budget) found is_found q c apart.written proof text short none mid new lost), says)

  -- where there is one, and its text
  module _ (plan : Grids) (is_plan : found.plan ≡ Some plan) (records : List ℕ) (are : records ≡ plan_text rest.instance (plan_of plan)) (read : IsPlanOf rest.instance (records_of records) (plan_of plan)) (few : length records ≤ file_limit) where
    pub three_written : (said : Said) → IsFoundLine rest found said → WritesAll ((n, model) ∷ (q, records) ∷ (c, proof) ∷ []) old new → NextSays rest n q c budget old new said
    three_written said (answer, answers, says) (mid, first, more) =
        let (later, second, last) = written_two q records c proof mid new more in
        (answer, inr (model, is_text, means, mid, first, planned rest.instance (only budget) found is_found q c apart.written proof text short plan is_plan records are read few mid later new second answer answers last), says)

    pub plan_lost : (place : ℕ) (said : Said) → IsSaid (plan_line (unwritten q)) (plan_status (unwritten q)) said → place ≡ 1 → StopsAt place ((n, model) ∷ (q, records) ∷ (c, proof) ∷ []) old new → NextSays rest n q c budget old new said
    plan_lost place said says is_one stops =
        let (mid, first, more) = stops_later place n model ((q, records) ∷ (c, proof) ∷ []) old new (λ e. omega (arith, e, is_one)) stops in
        let lost = stopped_first (place - 1) q records c proof mid new (omega (arith, is_one)) more in
        (unwritten q, inr (model, is_text, means, mid, first, unplanned_at rest.instance (only budget) found is_found q c apart.written proof text short plan is_plan records are read few mid new lost), says)

    pub last_lost : (place : ℕ) (said : Said) → IsSaid (plan_line (unwritten c)) (plan_status (unwritten c)) said → (place ≡ 0 → ⊥) → (place ≡ 1 → ⊥) → StopsAt place ((n, model) ∷ (q, records) ∷ (c, proof) ∷ []) old new → NextSays rest n q c budget old new said
    last_lost place said says not_first not_second stops =
        let (mid, first, more) = stops_later place n model ((q, records) ∷ (c, proof) ∷ []) old new not_first stops in
        let (later, second, lost) = stopped_second (place - 1) q records c proof mid new (λ e. third place not_first not_second e) more in
        (unwritten c, inr (model, is_text, means, mid, first, uncertified_at rest.instance (only budget) found is_found q c apart.written proof text short plan is_plan records are read few mid later new second lost), says)
      where
        third : (k : ℕ) → (k ≡ 0 → ⊥) → (k ≡ 1 → ⊥) → k - 1 ≡ 0 → ⊥
        third zero not_zero not_one e = not_zero refl
        third (suc zero) not_zero not_one e = not_one refl
        third (suc (suc k)) not_zero not_one e = omega (arith, e)

-- What was found and written proves what is answered.
use Rattle.std.proofs.Common.{◌≡◌, ◌≢◌, ◌∙◌, ◌≤◌, ◌<◌, inl, inr, ℕ, List, [], ◌∷◌, length, Option, Some, None, IsTrue, refl, sym, subst, arith}
use Rattle.std.specs.Prelude.{IfSome}
use Rattle.lot_sizing.specs.Problem.{IsUncoupled, Problem}
use Rattle.lot_sizing.specs.Plan as terms
use Rattle.lot_sizing.specs.Plan.{cost}
use Rattle.lot_sizing.specs.Best.{IsBest, IsImpossible}
use Rattle.lot_sizing.specs.Texts.{plan_text}
use Rattle.lot_io.specs.Outside.{Files, GrewBy, Shelved}
use Rattle.plan_rules.specs.Held.{plan_of}
use Rattle.plan_rules.specs.declared.plan.Plan.{Plan}
use Rattle.plan_file.specs.Records.{IsPlanOf, records_of}
use Rattle.cert_lines.specs.declared.parts.Claim.{Claim}
use Rattle.cert_lines.specs.declared.parts.Claim.TheVariants.{Optimal, Infeasible, Bound as BoundOf}
use Rattle.certificate.specs.Limits.{IsTextOf}
use Rattle.certificate.specs.Shapes.{shape_of}
use Rattle.cert_trees.specs.Ranges.{whole_ranges}
use Rattle.cert_meaning.specs.Accepts.{GoesWith, IsTrueOf}
use Rattle.cert_checker.specs.Checks.{ComesWith, IsGoodCertificate, plan_given}
use Rattle.stream_check.specs.Streams.{too_many}
use Rattle.own_plan.specs.OwnPeriod.{HasOwnPeriod}
use Rattle.search_result.specs.declared.found.Found.{Found}
use Rattle.search_result.specs.declared.found.RootSays.TheVariants as at_root
use Rattle.branching.specs.Search.{GoesTogether, IsDecided, IsGoodPlan, KeepsOwn, UsesRoot, cost_of}
use Rattle.branching.proofs.Overall.{some_is as same_plan}
use Rattle.lotplan.specs.declared.said.Said.{Said}
use Rattle.lotplan.specs.declared.sought.Sought.{Sought}
use Rattle.lotplan.specs.Proving.{IsGiven}
use Rattle.lotplan.specs.Finding.{IsFound, PlanCosts}
use Rattle.lotplan.specs.Writing.{IsUnwritten, IsWritten, StartsAmong}
use Rattle.lotplan.specs.Planning.{PlanAnswer, unwritten, plan_line, plan_status, IsAnswerTo, ShowsFound, WriteExplains, WriteSays, WritesFeasible, WritesPlan, WritesProof}
use Rattle.lotplan.specs.Reading.{file_limit}
use Rattle.lotplan.specs.Saying.{IsSaid}

-- ---- two files, one after the other
grew_twice : (a b c : ℕ) → GrewBy 1 a b → GrewBy 1 b c → GrewBy 2 a c
grew_twice a b c x y = (omega (arith, x.0, x.1, y.0, y.1), omega (arith, x.1, y.1))

starts_both : (p c : List ℕ) (old mid new : Shelved) → StartsAmong (p ∷ []) 1 old mid → StartsAmong (c ∷ []) 1 mid new → StartsAmong (p ∷ c ∷ []) 2 old new
starts_both p c old mid new first second = record {
  told = second.told ∙ first.told;
  others = λ t other apart. second.others (subst IsTrue (sym first.told) t) other apart.1 ∙ first.others t other (apart.0, tt);
  starts = grew_twice old.starts mid.starts new.starts first.starts second.starts;
}

-- no plan goes with an infeasible claim, and one with an optimal one
no_plan : {A : Type 0} (m : Problem) (amount : ℕ) (given : Option Plan) → GoesTogether m (Optimal amount) given → given ≡ None → A
no_plan m amount (Some plan) goes is = absurd (cc is)
no_plan m amount None goes is = absurd (cc goes)

some_plan : {A : Type 0} (m : Problem) (given : Option Plan) (plan : Plan) → GoesTogether m Infeasible given → given ≡ Some plan → A
some_plan m (Some other) plan goes is = absurd (cc goes)
some_plan m None plan goes is = absurd (cc is)

-- without coupling a bound is never claimed
pub left_alone : {A : Type 0} (found : Found) (bound : ℕ) → found.certificate.claim ≡ BoundOf bound → found.root ≡ at_root.Uncoupled → UsesRoot found found.root → A
left_alone found bound claims is uses =
    let by = subst (λ r. UsesRoot found r) is uses in
    absurd (subst IsDecided claims by.decided)

-- what was found, and the text of its certificate
module _ (m : Problem) (sought : Sought) (found : Found) (is_found : IsFound m sought found) (p c : List ℕ) (apart : p ≢ c) (bytes : List ℕ) (text : IsTextOf bytes (shape_of found.certificate)) (short : length bytes < too_many) where
  claim_true : (claim : Claim) → found.certificate.claim ≡ claim → IsTrueOf m claim (plan_given found.plan)
  claim_true claim is = subst (λ k. IsTrueOf m k (plan_given found.plan)) is is_found.proved.claim

  claim_goes : (claim : Claim) (given : Option Plan) → found.certificate.claim ≡ claim → found.plan ≡ given → GoesTogether m claim given
  claim_goes claim given is same = subst (λ g. GoesTogether m claim g) same (subst (λ k. GoesTogether m k found.plan) is is_found.together)

  within_own : (given : Option Plan) → found.plan ≡ given → KeepsOwn m given
  within_own given same = subst (KeepsOwn m) same is_found.own

  never_alone : {A : Type 0} (bound : ℕ) → found.certificate.claim ≡ BoundOf bound → IsUncoupled m → A
  never_alone bound is alone = left_alone found bound is (is_found.uncoupled.1 alone) is_found.used

  -- a bound is accepted without a plan
  bound_certified : (bound : ℕ) → found.certificate.claim ≡ BoundOf bound → IsGoodCertificate m (shape_of found.certificate) None
  bound_certified bound is total weight ts ws =
      let certified = is_found.proved.certified total weight ts ws in
      let a = certified.accepted in
      record {
        accepted = record { rows = a.rows; cuts = a.cuts; tree = a.tree; leaves = a.leaves; plan = subst (λ k. GoesWith m (whole_ranges total) k None) (sym is) tt };
        fits = record { cuts = certified.fits.cuts; leaves = certified.fits.leaves };
        plan = subst (λ k. ComesWith m k None) (sym is) tt;
      }

  -- the certificate file proves the claim
  proves : (after : Files) (claim : Claim) (given : Option Plan) → found.certificate.claim ≡ claim → after c ≡ Some bytes → IsGiven after p m claim given → IsTrueOf m claim (plan_given given) → IsGoodCertificate m (shape_of found.certificate) given → WritesProof after m p c claim found.nodes
  proves after claim given is written goes is_true certified = record {
    proof = record {
      holds = record {
        certificate = shape_of found.certificate;
        text = (bytes, written, short, text);
        given = given;
        goes_with = subst (λ k. IsGiven after p m k given) (sym is) goes;
      };
      claims = is;
      is_true = is_true;
      certified = certified;
    };
    counted = is_found.proved.nodes;
  }

  shows : (after : Files) (claim : Claim) (costs : Option ℕ) → found.certificate.claim ≡ claim → PlanCosts m found.plan costs → after c ≡ Some bytes → ShowsFound after m c sought found.root found.nodes claim costs
  shows after claim costs is plan written = record {
    found = found;
    is = is_found;
    root = refl;
    counted = refl;
    claims = is;
    plan = plan;
    text = (bytes, written, short, text);
  }

  -- ---- where there is no plan
  module _ (none : found.plan ≡ None) (old new : Shelved) where
    no_own : HasOwnPeriod m → ⊥
    no_own own = within_own None none own.0 own.1 own.2

    costs_none : PlanCosts m found.plan None
    costs_none = subst (λ g. PlanCosts m g None) (sym none) tt

    given_none : (claim : Claim) → found.certificate.claim ≡ claim → IsTrueOf m claim (plan_given None)
    given_none claim is = subst (λ g. IsTrueOf m claim (plan_given g)) none (claim_true claim is)

    certified_none : IsGoodCertificate m (shape_of found.certificate) None
    certified_none = subst (λ g. IsGoodCertificate m (shape_of found.certificate) g) none is_found.proved.certified

    proved_at : (claim : Claim) → found.certificate.claim ≡ claim → (answer : PlanAnswer) → IsAnswerTo m claim None found.root found.nodes answer → IsWritten c bytes old new → WriteExplains m sought p c old new answer
    proved_at (Optimal amount) is answer answers w = no_plan m amount None (claim_goes (Optimal amount) None is none) refl
    proved_at Infeasible is answer answers w = subst (WriteExplains m sought p c old new) (sym answers) (
      λ t. record {
        impossible = given_none Infeasible is;
        proof = proves new.file Infeasible None is (w.written t) refl (given_none Infeasible is) certified_none;
        kept = w.touches.others t p (apart, tt);
        shows = shows new.file Infeasible None is costs_none (w.written t);
      },
      w.touches,
    )
    proved_at (BoundOf bound) is answer answers w = subst (WriteExplains m sought p c old new) (sym answers) (
      λ t. record {
        floor = given_none (BoundOf bound) is;
        own = no_own;
        proof = proves new.file (BoundOf bound) None is (w.written t) refl (given_none (BoundOf bound) is) certified_none;
        kept = w.touches.others t p (apart, tt);
        shows = shows new.file (BoundOf bound) None is costs_none (w.written t);
      },
      w.touches,
    )

    none_alone : (claim : Claim) → found.certificate.claim ≡ claim → IsUncoupled m → IsImpossible m
    none_alone (Optimal amount) is alone = no_plan m amount None (claim_goes (Optimal amount) None is none) refl
    none_alone Infeasible is alone = given_none Infeasible is
    none_alone (BoundOf bound) is alone = never_alone bound is alone

    pub proved : (answer : PlanAnswer) → IsAnswerTo m found.certificate.claim found.plan found.root found.nodes answer → IsWritten c bytes old new → WriteExplains m sought p c old new answer
    proved answer answers w = proved_at found.certificate.claim refl answer (subst (λ g. IsAnswerTo m found.certificate.claim g found.root found.nodes answer) none answers) w

    pub unproved_at : IsUnwritten c old new → WriteExplains m sought p c old new (unwritten c)
    unproved_at w = (w.failed, inr (inr (refl, λ t. record { own = no_own; impossible = none_alone found.certificate.claim refl }, w.touches)))

    pub says_proved : (answer : PlanAnswer) (said : Said) → IsAnswerTo m found.certificate.claim found.plan found.root found.nodes answer → IsSaid (plan_line answer) (plan_status answer) said → IsWritten c bytes old new → WriteSays m sought p c old new said
    says_proved answer said answers says w = (answer, proved answer answers w, says)

    pub says_unproved : (said : Said) → IsSaid (plan_line (unwritten c)) (plan_status (unwritten c)) said → IsUnwritten c old new → WriteSays m sought p c old new said
    says_unproved said says w = (unwritten c, unproved_at w, says)

  -- ---- where there is one, and its text
  module _ (plan : Plan) (is_plan : found.plan ≡ Some plan) (records : List ℕ) (are : records ≡ plan_text m (plan_of plan)) (read : IsPlanOf m (records_of records) (plan_of plan)) (few : length records ≤ file_limit) where
    good : IsGoodPlan m plan
    good = subst (λ g. IfSome g (IsGoodPlan m)) is_plan is_found.plan

    costs_some : PlanCosts m found.plan (Some (cost_of m plan))
    costs_some = subst (λ g. PlanCosts m g (Some (cost_of m plan))) (sym is_plan) refl

    best_plan : (amount : ℕ) → found.certificate.claim ≡ Optimal amount → IsBest m (plan_of plan) × (cost m (plan_of plan) ≡ amount)
    best_plan amount is =
        let (q, given, best, costs) = subst (λ g. IsTrueOf m (Optimal amount) (plan_given g)) is_plan (claim_true (Optimal amount) is) in
        let same = same_plan (plan_of plan) q given in
        (subst (IsBest m) (sym same) best, subst (λ r. cost m r ≡ amount) (sym same) costs)

    best_alone : (claim : Claim) → found.certificate.claim ≡ claim → IsUncoupled m → IsBest m (plan_of plan)
    best_alone (Optimal amount) is alone = (best_plan amount is).0
    best_alone Infeasible is alone = some_plan m (Some plan) plan (claim_goes Infeasible (Some plan) is is_plan) refl
    best_alone (BoundOf bound) is alone = never_alone bound is alone

    writes_plan : (after : Files) → after p ≡ Some records → WritesPlan after m p (plan_of plan)
    writes_plan after written = record { bytes = records; written = written; text = are; read = read }

    writes_feasible : (after : Files) → after p ≡ Some records → WritesFeasible after m p (cost_of m plan)
    writes_feasible after written = record {
      chosen = plan_of plan;
      feasible = good.feasible;
      costs = refl;
      best = best_alone found.certificate.claim refl;
      written = writes_plan after written;
    }

    pub unplanned_at : (old new : Shelved) → IsUnwritten p old new → WriteExplains m sought p c old new (unwritten p)
    unplanned_at old new w = (w.failed, inl (refl, λ t. record { chosen = plan_of plan; feasible = good.feasible; best = best_alone found.certificate.claim refl }, w.touches))

    pub says_unplanned : (old new : Shelved) (said : Said) → IsSaid (plan_line (unwritten p)) (plan_status (unwritten p)) said → IsUnwritten p old new → WriteSays m sought p c old new said
    says_unplanned old new said says w = (unwritten p, unplanned_at old new w, says)

    -- the plan file was written before the certificate file
    module _ (old mid new : Shelved) (first : IsWritten p records old mid) where
      told_between : IsTrue old.told → IsTrue mid.told
      told_between t = subst IsTrue (sym first.touches.told) t

      plan_stays : StartsAmong (c ∷ []) 1 mid new → IsTrue old.told → new.file p ≡ Some records
      plan_stays touches t = touches.others (told_between t) p (apart, tt) ∙ first.written t

      planned_at : (claim : Claim) → found.certificate.claim ≡ claim → (answer : PlanAnswer) → IsAnswerTo m claim (Some plan) found.root found.nodes answer → IsWritten c bytes mid new → WriteExplains m sought p c old new answer
      planned_at (Optimal amount) is answer answers w = subst (WriteExplains m sought p c old new) (sym answers) (
        λ t.
            let stays = plan_stays w.touches t in
            let best = best_plan amount is in
            let certified = subst (λ g. IsGoodCertificate m (shape_of found.certificate) g) is_plan is_found.proved.certified in
            let is_true = subst (λ g. IsTrueOf m (Optimal amount) (plan_given g)) is_plan (claim_true (Optimal amount) is) in
            record {
              best = record { chosen = plan_of plan; best = best.0; costs = best.1; written = writes_plan new.file stays };
              proof = proves new.file (Optimal amount) (Some plan) is (w.written (told_between t)) (record { bytes = records; read = stays; short = few; fits = good.fits; is = read }) is_true certified;
              shows = shows new.file (Optimal amount) (Some amount) is (subst (λ n. PlanCosts m found.plan (Some n)) best.1 costs_some) (w.written (told_between t));
            },
        starts_both p c old mid new first.touches w.touches,
      )
      planned_at Infeasible is answer answers w = some_plan m (Some plan) plan (claim_goes Infeasible (Some plan) is is_plan) refl
      planned_at (BoundOf bound) is answer answers w = subst (WriteExplains m sought p c old new) (sym answers) (
        λ t.
            let stays = plan_stays w.touches t in
            record {
              floor = claim_true (BoundOf bound) is;
              below = claim_goes (BoundOf bound) (Some plan) is is_plan;
              own = within_own (Some plan) is_plan;
              plan = writes_feasible new.file stays;
              proof = proves new.file (BoundOf bound) None is (w.written (told_between t)) refl (claim_true (BoundOf bound) is) (bound_certified bound is);
              shows = shows new.file (BoundOf bound) (Some (cost_of m plan)) is costs_some (w.written (told_between t));
            },
        starts_both p c old mid new first.touches w.touches,
      )

      pub planned : (answer : PlanAnswer) → IsAnswerTo m found.certificate.claim found.plan found.root found.nodes answer → IsWritten c bytes mid new → WriteExplains m sought p c old new answer
      planned answer answers w = planned_at found.certificate.claim refl answer (subst (λ g. IsAnswerTo m found.certificate.claim g found.root found.nodes answer) is_plan answers) w

      pub uncertified_at : IsUnwritten c mid new → WriteExplains m sought p c old new (unwritten c)
      uncertified_at w =
          (omega (arith, w.failed, first.fine), inr (inl (refl, λ t. (cost_of m plan, writes_feasible new.file (plan_stays w.touches t)), starts_both p c old mid new first.touches w.touches)))

      pub says_planned : (answer : PlanAnswer) (said : Said) → IsAnswerTo m found.certificate.claim found.plan found.root found.nodes answer → IsSaid (plan_line answer) (plan_status answer) said → IsWritten c bytes mid new → WriteSays m sought p c old new said
      says_planned answer said answers says w = (answer, planned answer answers w, says)

      pub says_uncertified : (said : Said) → IsSaid (plan_line (unwritten c)) (plan_status (unwritten c)) said → IsUnwritten c mid new → WriteSays m sought p c old new said
      says_uncertified said says w = (unwritten c, uncertified_at w, says)

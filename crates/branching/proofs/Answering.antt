-- All that holds of what is found, with and without a search.
use Rattle.std.proofs.Common.{◌≡◌, ◌≤◌, ◌∙◌, ℕ, Bool, refl, sym, subst, arith, List, Option, Some, None, Ok, Err}
use Rattle.std.specs.Prelude.{◌↔◌, IfOk, IfSome, IsNone, Result}
use Rattle.std.specs.declared.alloc.AllocError.{AllocError}
use Rattle.lot_sizing.specs.Best.{IsFloor, IsImpossible}
use Rattle.lot_sizing.specs.Problem.{IsUncoupled, Problem}
use Rattle.lot_sizing.specs.Bill.{AreWeights, bill_of}
use Rattle.lot_sizing.specs.Plan as terms
use Rattle.lot_sizing.specs.Totals.{AreLargestTotals}
use Rattle.plan_rules.specs.declared.plan.Plan.{Plan}
use Rattle.plan_rules.specs.declared.plan.Planned.{Planned}
use Rattle.plan_rules.specs.Held.{AllFit, plan_of}
use Rattle.cert_lines.specs.declared.limits.TheConstants.{LOTS_CERT_VERSION}
use Rattle.cert_lines.specs.declared.parts.Claim.{Claim}
use Rattle.cert_lines.specs.declared.parts.Claim.TheVariants.{Optimal, Infeasible, Bound as BoundOf}
use Rattle.certificate.specs.Shapes.{shape_of}
use Rattle.cert_trees.specs.Ranges.{IsWithin, Ranges}
use Rattle.cert_meaning.specs.Accepts.{IsTrueOf}
use Rattle.cert_checker.specs.Checks.{ComesWith, plan_given}
use Rattle.item_bound.specs.declared.found.Apart.{Apart}
use Rattle.item_bound.specs.Apart.{ApartIsOne}
use Rattle.search_result.specs.declared.found.Found.{Found}
use Rattle.search_result.specs.declared.found.RootSays.{RootSays}
use Rattle.search_result.specs.declared.found.RootSays.TheVariants as root
use Rattle.search_result.specs.Found.{GoesWithPlan, IsDecidedAlone, IsProved}
use Rattle.lp_root.specs.declared.round_leaf.Root.{Root}
use Rattle.lp_root.specs.Root.{BoundsPlans}
use Rattle.tree_search.specs.declared.limits.Limits.{Limits}
use Rattle.tree_search.specs.declared.node.Range.{Range}
use Rattle.tree_search.specs.declared.sought.Searched.{Searched}
use Rattle.tree_search.proofs.Endless.{at_most-trans as at_most_on}
use Rattle.branching.specs.declared.guiding.Model.{Model}
use Rattle.branching.specs.declared.knowing.Known.{Known}
use Rattle.branching.specs.declared.wanted.Wanted.{Wanted}
use Rattle.branching.specs.Answer.{IsAnswer, IsAnswerWithin, IsRootOf}
use Rattle.branching.specs.Beginning.{AreApart}
use Rattle.branching.specs.Finishing.{IsFinished, IsSearched}
use Rattle.incumbent.specs.Kept.{KeepsGiven, KeepsOwnMade, IsNoWorse, cost_kept, plan_kept, IsMadeWithin}
use Rattle.branching.specs.Knowing.{ranges_in}
use Rattle.branching.specs.Search.{CostsAtMost, GoesTogether, IsClaimedAtLeast, IsDecided, IsImpossibleByOne, IsNoLessThanApart, IsSaidAtRoot, IsVersionOf, KeepsFirst, KeepsOwn, UsesRoot}
use Rattle.incumbent.specs.Good.{IsGoodPlan, IsGoodWithin}
use Rattle.branching.specs.SearchWithin.{HasEvidenceWithin, IsProvedWithin, IsUndecidedWithin, WholeIsProved}
use Rattle.node_domains.specs.Within.{LieInWhole, AllLieWithin, IsWhole}
use Rattle.branching.specs.Search as shown
use Rattle.branching.proofs.Best.{first_kept, good_first, good_kept, own_kept}
use Rattle.incumbent.proofs.Best.{given_on}
use Rattle.branching.proofs.Finished.{made_of}
use Rattle.branching.proofs.Overall.{cause_whole, one_within, shows_whole}
use Rattle.branching.proofs.LeastVersion.{usual_is}

-- ---- what follows from the claim and the plan without a bound
alone_plan : (m : Problem) (claim : Claim) (given : Option Plan) → GoesWithPlan claim given → ComesWith m claim given → IfSome given (IsGoodPlan m)
alone_plan m claim None goes comes = tt
alone_plan m (Optimal c) (Some p) goes comes = record { fits = comes.0; feasible = comes.1 }
alone_plan m Infeasible (Some p) goes comes = absurd (cc goes)
alone_plan m (BoundOf c) (Some p) goes comes = absurd goes

alone_least : (m : Problem) (claim : Claim) (given : Option Plan) → GoesWithPlan claim given → ComesWith m claim given → IsTrueOf m claim (plan_given given) → (q : terms.Plan) → terms.IsFeasible m q → CostsAtMost m given (terms.cost m q)
alone_least m (Optimal c) None goes comes true q feasible = absurd comes
alone_least m (Optimal c) (Some p) goes comes (best, same, is, costs) q feasible = omega (arith, is.least q feasible, costs, comes.2)
alone_least m Infeasible given goes comes true q feasible = absurd (true q feasible)
alone_least m (BoundOf c) given goes comes true q feasible = absurd goes

alone_goes : (m : Problem) (claim : Claim) (given : Option Plan) → GoesWithPlan claim given → GoesTogether m claim given
alone_goes m (Optimal c) given goes = goes
alone_goes m Infeasible given goes = goes
alone_goes m (BoundOf c) given goes = absurd goes

alone_decided : (claim : Claim) (given : Option Plan) → GoesWithPlan claim given → IsDecided claim
alone_decided (Optimal c) given goes = tt
alone_decided Infeasible given goes = tt
alone_decided (BoundOf c) given goes = absurd goes

alone_floor : (m : Problem) (claim : Claim) (given : Option Plan) (least : ℕ) → GoesWithPlan claim given → ComesWith m claim given → IsFloor m least → IsClaimedAtLeast least claim
alone_floor m (Optimal c) None least goes comes floor = absurd comes
alone_floor m (Optimal c) (Some p) least goes comes floor = omega (arith, floor (plan_of p) comes.1, comes.2)
alone_floor m Infeasible given least goes comes floor = tt
alone_floor m (BoundOf c) given least goes comes floor = absurd goes

no_bound : (claim : Claim) (P : ℕ → Type 0) → IsDecided claim → shown.IfBound claim P
no_bound (Optimal c) P decided = tt
no_bound Infeasible P decided = tt
no_bound (BoundOf c) P decided = absurd decided

first_least : (m : Problem) (first given : Option Plan) → IfSome first (IsGoodPlan m) → ((q : terms.Plan) → terms.IsFeasible m q → CostsAtMost m given (terms.cost m q)) → KeepsFirst m first given
first_least m None given good least = tt
first_least m (Some p) given good least = least (plan_of p) good.feasible

-- ---- without coupling
pub alone_answer : (m : Problem) (w : Wanted) (stopping : Bool) (found : Found) (r : Root) (a : Apart) → 1 ≤ w.budget → LOTS_CERT_VERSION ≤ w.newest → IfSome w.first (IsGoodPlan m) → IsRootOf m r → r.says ≡ root.Uncoupled → AreApart m a → ApartIsOne → IsProved m found → IsDecidedAlone found → IsAnswer m w stopping found
alone_answer m w stopping found r a some oldest good is says apart one proved alone =
    let (total, weight, totals, weights) = is.figures in
    let claim = found.certificate.claim in
    let given = found.plan in
    let comes = (proved.certified total weight totals weights).plan in
    let decided = alone_decided claim given alone.decided in
    let least = alone_least m claim given alone.decided comes proved.claim in
    let apart_of : IsUncoupled m = is.uncoupled.0 says in
    record {
      proved = proved;
      plan = alone_plan m claim given alone.decided comes;
      within = omega (arith, alone.alone, some);
      kept = first_least m w.first given good least;
      own = λ q own feasible. least q feasible;
      goes = alone_goes m claim given alone.decided;
      cause = no_bound claim (λ amount. shown.WithRows m found (shown.IsUndecided m w.budget w.limits stopping found)) decided;
      evidence = no_bound claim (λ amount. shown.WithRows m found (shown.HasEvidence m found amount)) decided;
      root = (r, is.means, says ∙ sym alone.root);
      uncoupled = (λ e. apart_of, λ free. alone.root);
      uses = subst (UsesRoot found) (sym alone.root) (record { alone = alone.alone; decided = decided });
      apart = λ amount at. alone_floor m claim given amount alone.decided comes (subst (IsFloor m) (one m a.amount amount apart.amount at) apart.floor);
      complete = λ none still total totals enough. decided;
      version = usual_is m w.newest (shape_of found.certificate) (record { plain = λ plain. alone.version; other = λ not. absurd (not apart_of.plain) }) (omega (arith, alone.version, oldest)) proved.writable;
    }

both_of : (m : Problem) (ranges : Ranges) (plan : Option Plan) → IfSome plan (IsGoodPlan m) → IfSome plan (λ p. IsWithin m ranges (plan_of p)) → IfSome plan (IsGoodWithin m ranges)
both_of m ranges None good within = tt
both_of m ranges (Some p) good within = record { good = good; within = within }

pub alone_within : (m : Problem) (ranges : Ranges) (w : Wanted) (stopping : Bool) (found : Found) (r : Root) (a : Apart) → 1 ≤ w.budget → LOTS_CERT_VERSION ≤ w.newest → IfSome w.first (IsGoodWithin m ranges) → IsRootOf m r → r.says ≡ root.Uncoupled → AreApart m a → ApartIsOne → IsProved m found → IsDecidedAlone found → IfSome found.plan (λ p. IsWithin m ranges (plan_of p)) → IsAnswerWithin m ranges w stopping found
alone_within m ranges w stopping found r a some oldest good is says apart one proved alone within =
    let answer = alone_answer m w stopping found r a some oldest (good_first m ranges w.first good) is says apart one proved alone in
    let claim = found.certificate.claim in
    let decided = alone_decided claim found.plan alone.decided in
    record {
      proved = one_within m ranges found proved alone.alone within;
      plan = both_of m ranges found.plan answer.plan within;
      within = answer.within;
      kept = answer.kept;
      goes = answer.goes;
      cause = no_bound claim (λ amount. shown.WithRows m found (IsUndecidedWithin m ranges w.budget w.limits stopping found)) decided;
      evidence = no_bound claim (λ amount. shown.WithRows m found (HasEvidenceWithin m ranges found amount)) decided;
      root = answer.root;
      uncoupled = answer.uncoupled;
      apart = answer.apart;
      version = answer.version;
      whole = λ all. answer;
    }

-- the plan that is found alone
pub plan_alone : (m : Problem) (total : ℕ → ℕ) (weight : ℕ → ℕ → ℕ) (found : Found) → AreLargestTotals m total → AreWeights (bill_of m) weight → IsProved m found → IsDecidedAlone found → IfSome found.plan (IsGoodPlan m)
plan_alone m total weight found totals weights proved alone = alone_plan m found.certificate.claim found.plan alone.decided (proved.certified total weight totals weights).plan

pub fits_alone : (m : Problem) (plan : Option Plan) → IfSome plan (IsGoodPlan m) → IfSome plan (AllFit m)
fits_alone m None good = tt
fits_alone m (Some p) good = good.fits

pub all_alone : (m : Problem) (ranges : Ranges) (plan : Option Plan) → AllLieWithin m ranges → IfSome plan (IsGoodPlan m) → IfSome plan (λ p. IsWithin m ranges (plan_of p))
all_alone m ranges None all good = tt
all_alone m ranges (Some p) all good = all (plan_of p) good.feasible

-- ---- without a point
none_least : (m : Problem) (given : Option Plan) → IsImpossible m → (q : terms.Plan) → terms.IsFeasible m q → CostsAtMost m given (terms.cost m q)
none_least m given none q feasible = absurd (none q feasible)

pub none_answer : (m : Problem) (w : Wanted) (stopping : Bool) (found : Found) (r : Root) → 1 ≤ w.budget → IfSome w.first (IsGoodPlan m) → IsRootOf m r → r.says ≡ root.Empty → IsVersionOf m w.newest (shape_of found.certificate) → IsProved m found → found.plan ≡ None → found.root ≡ r.says → IsImpossibleByOne found → IsAnswer m w stopping found
none_answer m w stopping found r some good is says version proved without root_is by =
    let impossible : IsImpossible m = subst (BoundsPlans m) says is.bounds in
    let root_empty : found.root ≡ root.Empty = root_is ∙ says in
    let claim_is = by.none in
    let least = none_least m found.plan impossible in
    let decided : IsDecided found.certificate.claim = subst IsDecided (sym claim_is) tt in
    record {
      proved = proved;
      plan = subst (λ p. IfSome p (IsGoodPlan m)) (sym without) tt;
      within = omega (arith, by.alone, some);
      kept = first_least m w.first found.plan good least;
      own = λ q own feasible. least q feasible;
      goes = subst (λ c. GoesTogether m c found.plan) (sym claim_is) (subst (λ p. IsNone p) (sym without) refl);
      cause = no_bound found.certificate.claim (λ amount. shown.WithRows m found (shown.IsUndecided m w.budget w.limits stopping found)) decided;
      evidence = no_bound found.certificate.claim (λ amount. shown.WithRows m found (shown.HasEvidence m found amount)) decided;
      root = (r, is.means, sym root_is);
      uncoupled = (λ e. is.uncoupled.0 (sym root_is ∙ e), λ free. root_is ∙ is.uncoupled.1 free);
      uses = subst (UsesRoot found) (sym root_empty) by;
      apart = λ amount at. subst (IsClaimedAtLeast amount) (sym claim_is) tt;
      complete = λ none still total totals enough. decided;
      version = version;
    }

pub none_within : (m : Problem) (ranges : Ranges) (w : Wanted) (stopping : Bool) (found : Found) (r : Root) → 1 ≤ w.budget → IfSome w.first (IsGoodWithin m ranges) → IsRootOf m r → r.says ≡ root.Empty → IsVersionOf m w.newest (shape_of found.certificate) → WholeIsProved m → IsProvedWithin m ranges found → found.plan ≡ None → found.root ≡ r.says → IsImpossibleByOne found → IsAnswerWithin m ranges w stopping found
none_within m ranges w stopping found r some good is says version whole proved without root_is by =
    let impossible : IsImpossible m = subst (BoundsPlans m) says is.bounds in
    let claim_is = by.none in
    let decided : IsDecided found.certificate.claim = subst IsDecided (sym claim_is) tt in
    record {
      proved = proved;
      plan = subst (λ p. IfSome p (IsGoodWithin m ranges)) (sym without) tt;
      within = omega (arith, by.alone, some);
      kept = first_least m w.first found.plan (good_first m ranges w.first good) (none_least m found.plan impossible);
      goes = subst (λ c. GoesTogether m c found.plan) (sym claim_is) (subst (λ p. IsNone p) (sym without) refl);
      cause = no_bound found.certificate.claim (λ amount. shown.WithRows m found (IsUndecidedWithin m ranges w.budget w.limits stopping found)) decided;
      evidence = no_bound found.certificate.claim (λ amount. shown.WithRows m found (HasEvidenceWithin m ranges found amount)) decided;
      root = (r, is.means, sym root_is);
      uncoupled = (λ e. is.uncoupled.0 (sym root_is ∙ e), λ free. root_is ∙ is.uncoupled.1 free);
      apart = λ amount at. subst (IsClaimedAtLeast amount) (sym claim_is) tt;
      version = version;
      whole = λ all. none_answer m w stopping found r some (good_first m ranges w.first good) is says version (whole ranges all found proved) without root_is by;
    }

-- ---- by a search
claimed_on : (claim : Claim) (a b : ℕ) → a ≤ b → IsClaimedAtLeast b claim → IsClaimedAtLeast a claim
claimed_on (Optimal c) a b less is = omega (arith, less, is)
claimed_on Infeasible a b less is = tt
claimed_on (BoundOf c) a b less is = omega (arith, less, is)

uses_of : (found : Found) (says : RootSays) → (says ≡ root.Uncoupled → ⊥) → (says ≡ root.Empty → ⊥) → ((c : ℕ) → says ≡ root.Closed c → IsClaimedAtLeast c found.certificate.claim) → UsesRoot found says
uses_of found root.Uncoupled coupled some closed = absurd (coupled refl)
uses_of found (root.Skipped cells) coupled some closed = tt
uses_of found (root.Closed c) coupled some closed = closed c refl
uses_of found root.Empty coupled some closed = absurd (some refl)
uses_of found (root.Stopped round) coupled some closed = tt
uses_of found (root.Passed round at) coupled some closed = tt

pub searched_within : (g : Model) (k : Known) (w : Wanted) (stopping : Bool) (found : Found) (r : Root) (a : Apart) (best : Option Planned) → IsRootOf g.instance.now r → (IsWhole g.instance.now (ranges_in g) → r.says ≡ root.Uncoupled → ⊥) → (r.says ≡ root.Empty → ⊥) → AreApart g.instance.now a → ApartIsOne → LieInWhole g.instance.now → WholeIsProved g.instance.now → IsProvedWithin g.instance.now (ranges_in g) found → IsFinished g k w.budget w.limits stopping found → found.plan ≡ plan_kept k.best → found.root ≡ r.says → IsVersionOf g.instance.now w.newest (shape_of found.certificate) → a.amount ≤ g.least → ((c : ℕ) → r.says ≡ root.Closed c → c ≤ g.least) → IfSome k.best (IsMadeWithin g.instance.now (ranges_in g)) → IsNoWorse k.best best → KeepsGiven g.instance.now w.first best → (AllLieWithin g.instance.now (ranges_in g) → KeepsOwnMade g.instance.now best) → IsAnswerWithin g.instance.now (ranges_in g) w stopping found
searched_within g k w stopping found r a best is coupled some apart one lie whole proved ends plan_is root_is version apart_least closed_least made less kept own =
    let m = g.instance.now in
    let ranges = ranges_in g in
    let claim = found.certificate.claim in
    let made_is = made_of m ranges k.best made in
    let good : IfSome found.plan (IsGoodWithin m ranges) = subst (λ p. IfSome p (IsGoodWithin m ranges)) (sym plan_is) (good_kept m ranges k.best made) in
    let keeps : KeepsFirst m w.first found.plan = subst (KeepsFirst m w.first) (sym plan_is) (first_kept m w.first k.best made_is (given_on m w.first best k.best less kept)) in
    let said : IsSaidAtRoot m found.root = (r, is.means, sym root_is) in
    let free : found.root ≡ root.Uncoupled ↔ IsUncoupled m = (λ e. is.uncoupled.0 (sym root_is ∙ e), λ f. root_is ∙ is.uncoupled.1 f) in
    let least : IsNoLessThanApart m claim = λ amount at. claimed_on claim amount g.least (omega (arith, one m amount a.amount at apart.amount, apart_least)) ends.least in
    record {
      proved = proved;
      plan = good;
      within = ends.within;
      kept = keeps;
      goes = ends.goes;
      cause = ends.cause;
      evidence = ends.evidence;
      root = said;
      uncoupled = free;
      apart = least;
      version = version;
      whole = λ all. record {
        proved = whole ranges all found proved;
        plan = good_first m ranges found.plan good;
        within = ends.within;
        kept = keeps;
        own = subst (KeepsOwn m) (sym plan_is) (own_kept m k.best made_is (λ q is_own feasible. at_most_on (cost_kept k.best) (cost_kept best) (Some (terms.cost m q)) less (own (lie ranges all) q is_own feasible)));
        goes = ends.goes;
        cause = cause_whole m ranges w.budget w.limits stopping found all ends.cause;
        evidence = shows_whole m ranges found all ends.evidence;
        root = said;
        uncoupled = free;
        uses = uses_of found found.root (λ e. coupled all (sym root_is ∙ e)) (λ e. some (sym root_is ∙ e)) (λ c e. claimed_on claim c g.least (closed_least c (sym root_is ∙ e)) ends.least);
        apart = least;
        complete = ends.complete all;
        version = version;
      };
    }

-- ---- if memory was there
pub searched_ok : (g : Model) (k : Known) (w : Wanted) (stopping : Bool) (result : Result Found AllocError) (r : Root) (a : Apart) (best : Option Planned) → g.root ≡ r.says → IsRootOf g.instance.now r → (IsWhole g.instance.now (ranges_in g) → r.says ≡ root.Uncoupled → ⊥) → (r.says ≡ root.Empty → ⊥) → AreApart g.instance.now a → ApartIsOne → LieInWhole g.instance.now → WholeIsProved g.instance.now → IfOk result (IsProvedWithin g.instance.now (ranges_in g)) → IfOk result (IsFinished g k w.budget w.limits stopping) → IfOk result (λ found. found.plan ≡ plan_kept k.best) → IfOk result (λ found. found.root ≡ g.root) → IfOk result (λ found. IsVersionOf g.instance.now w.newest (shape_of found.certificate)) → a.amount ≤ g.least → ((c : ℕ) → r.says ≡ root.Closed c → c ≤ g.least) → IfSome k.best (IsMadeWithin g.instance.now (ranges_in g)) → IsNoWorse k.best best → KeepsGiven g.instance.now w.first best → (AllLieWithin g.instance.now (ranges_in g) → KeepsOwnMade g.instance.now best) → IfOk result (IsAnswerWithin g.instance.now (ranges_in g) w stopping)
searched_ok g k w stopping (Ok found) r a best root_same is coupled some apart one lie whole proved ends plan_is root_is version apart_least closed_least made less kept own =
    searched_within g k w stopping found r a best is coupled some apart one lie whole proved ends plan_is (root_is ∙ root_same) version apart_least closed_least made less kept own
searched_ok g k w stopping (Err e) r a best root_same is coupled some apart one lie whole proved ends plan_is root_is version apart_least closed_least made less kept own = tt

pub ended_on : (g : Model) (k : Known) (budget : ℕ) (limits : Limits) (stopping : Bool) (rs : List Range) (s : Searched) (result : Result Found AllocError) → IsSearched g k budget limits stopping rs s → IfOk result (λ found. (n : ℕ) (l : Limits) (stop : Bool) (list : List Range) → IsSearched g k n l stop list s → IsFinished g k n l stop found) → IfOk result (IsFinished g k budget limits stopping)
ended_on g k budget limits stopping rs s (Ok found) is all = all budget limits stopping rs is
ended_on g k budget limits stopping rs s (Err e) is all = tt

-- What was found of a model that has a feasible own-period plan proves what is shown of it.
use Rattle.std.proofs.Common.{◌≡◌, ◌≤◌, ◌<◌, ◌*◌, ◌/◌, ◌^◌, ◌+◌, ◌∙◌, ⊎_elim, ℕ, zero, suc, false, Option, Some, None, refl, sym, ap, subst, arith}
use Rattle.std.proofs.Math.Nat.{pow-suc}
use Rattle.lot_sizing.specs.Problem.{IsUncoupled, Problem, item_count}
use Rattle.lot_sizing.specs.Sums.{sum_to}
use Rattle.lot_sizing.proofs.Sums.{sum_to-bound}
use Rattle.lot_model.specs.Views.{IsInstance}
use Rattle.plan_rules.specs.Held.{plan_of}
use Rattle.plan_rules.specs.declared.plan.Plan.{Plan}
use Rattle.cert_lines.specs.declared.limits.TheConstants.{MAX_BRANCHES}
use Rattle.cert_lines.specs.declared.parts.Claim.{Claim}
use Rattle.cert_lines.specs.declared.parts.Claim.TheVariants.{Optimal, Infeasible, Bound as BoundOf}
use Rattle.cert_trees.specs.Ranges.{WithTotals}
use Rattle.cert_meaning.specs.Accepts.{IsTrueOf}
use Rattle.cert_checker.specs.Checks.{plan_given}
use Rattle.own_plan.specs.OwnPeriod.{HasOwnPeriod}
use Rattle.tree_search.specs.Ranges.{digits}
use Rattle.tree_search.specs.Whole.{whole_height}
use Rattle.tree_search.proofs.Halves.{digits-half, digits-zero}
use Rattle.search_result.specs.declared.found.Found.{Found}
use Rattle.search_result.specs.declared.found.RootSays.TheVariants as at_root
use Rattle.branching.specs.Search.{GoesTogether, IfBound, IsDecided, IsGoodPlan, IsPlanNear, IsUndecided, KeepsOwn, UsesRoot, WithRows, no_limits}
use Rattle.lotplan.specs.Finding.{IsFound, only}
use Rattle.lotplan.specs.Planning.{IsAnswerTo, PlanAnswer, optimal}
use Rattle.lotplan.specs.Showing.{IsBestAlone, IsShort, IsShown, IsSpent, IsTrueAnswer, entry_branches}
use Rattle.std.specs.Prelude.{IfSome}

-- ---- few items over few periods have little height
digits_few : (k n : ℕ) → n < 2 ^ k → digits n ≤ k
digits_few zero n small =
    let e : n ≡ 0 = omega (arith, small) in
    subst (λ x. digits x ≤ 0) (sym e) (omega (arith, digits-zero))
digits_few (suc k) zero small = omega (arith, digits-zero)
digits_few (suc k) (suc n) small =
    let half : suc n / 2 < 2 ^ k = omega (arith, small, pow-suc 2 k) in
    omega (arith, digits-half (suc n) (omega arith), digits_few k (suc n / 2) half)

height_few : (items periods : ℕ) (total : ℕ → ℕ) → ((i : ℕ) → total i < 2 ^ 40) → whole_height items periods total ≤ items * (periods * entry_branches)
height_few items periods total small =
    sum_to-bound items (periods * entry_branches) (λ i. sum_to periods (λ t. 1 + digits (total i)))
    (λ i low high. sum_to-bound periods entry_branches (λ t. 1 + digits (total i)) (λ t t_low t_high. omega (arith, digits_few 40 (total i) (small i))))

not_deep : (m : Problem) → IsInstance m → IsShort m → WithTotals m (λ total. MAX_BRANCHES < whole_height (item_count m) m.periods total) → ⊥
not_deep m instance short deep =
    let (total, are, small) = instance.totals in
    let height = deep total are in
    let few = height_few (item_count m) m.periods total (λ i. omega (arith, small i)) in
    let assoc : item_count m * (m.periods * entry_branches) ≡ (item_count m * m.periods) * entry_branches = grind arith in
    omega (arith, height, few, assoc, short)

-- no plan is within a gap where none is given
never_near : (m : Problem) (claim : Claim) (given : Option Plan) → IsPlanNear m None claim given → ⊥
never_near m (Optimal amount) given near = near
never_near m Infeasible given near = near
never_near m (BoundOf amount) None near = near
never_near m (BoundOf amount) (Some plan) near = near

-- ---- what was found
module _ (m : Problem) (budget : ℕ) (found : Found) (is : IsFound m (only budget) found) (own : HasOwnPeriod m) (instance : IsInstance m) where
  -- some plan was
  some_found : {A : Type 0} → found.plan ≡ None → A
  some_found none = absurd (subst (KeepsOwn m) none is.own own.0 own.1 own.2)

  claim_true : (claim : Claim) → found.certificate.claim ≡ claim → IsTrueOf m claim (plan_given found.plan)
  claim_true claim e = subst (λ k. IsTrueOf m k (plan_given found.plan)) e is.proved.claim

  claim_goes : (claim : Claim) (given : Option Plan) → found.certificate.claim ≡ claim → found.plan ≡ given → GoesTogether m claim given
  claim_goes claim given e same = subst (λ g. GoesTogether m claim g) same (subst (λ k. GoesTogether m k found.plan) e is.together)

  true_at : (claim : Claim) (given : Option Plan) → found.certificate.claim ≡ claim → found.plan ≡ given → (answer : PlanAnswer) → IsAnswerTo m claim given found.root found.nodes answer → IsTrueAnswer m answer
  true_at (Optimal amount) given e same answer answers =
      let (chosen, goes, best, costs) = claim_true (Optimal amount) e in
      subst (IsTrueAnswer m) (sym answers) (record { chosen = chosen; best = best; costs = costs })
  true_at Infeasible given e same answer answers = absurd (claim_true Infeasible e own.0 own.2)
  true_at (BoundOf bound) (Some plan) e same answer answers =
      let good = subst (λ g. IfSome g (IsGoodPlan m)) same is.plan in
      subst (IsTrueAnswer m) (sym answers) (record {
        floor = claim_true (BoundOf bound) e;
        below = claim_goes (BoundOf bound) (Some plan) e same;
        chosen = plan_of plan;
        feasible = good.feasible;
        costs = refl;
        own = subst (KeepsOwn m) same is.own;
      })
  true_at (BoundOf bound) None e same answer answers = some_found same

  -- without coupling it is best, and one node shows it
  alone_at : (claim : Claim) (given : Option Plan) → found.certificate.claim ≡ claim → found.plan ≡ given → (answer : PlanAnswer) → IsAnswerTo m claim given found.root found.nodes answer → IsUncoupled m → IsBestAlone answer
  alone_at (Optimal amount) given e same answer answers free =
      let root = is.uncoupled.1 free in
      let by = subst (λ r. UsesRoot found r) root is.used in
      (amount, answers ∙ (ap (λ r. optimal r found.nodes amount) root ∙ ap (λ n. optimal at_root.Uncoupled n amount) by.alone))
  alone_at Infeasible given e same answer answers free = absurd (claim_true Infeasible e own.0 own.2)
  alone_at (BoundOf bound) given e same answer answers free =
      let by = subst (λ r. UsesRoot found r) (is.uncoupled.1 free) is.used in
      absurd (subst IsDecided e by.decided)

  -- with few items and periods a bound has spent the budget
  spends : (bound : ℕ) → found.certificate.claim ≡ BoundOf bound → IsShort m → budget < found.nodes + 2
  spends bound e short =
      let (rows, good, undecided) = subst (λ k. IfBound k (λ amount. WithRows m found (IsUndecided m budget no_limits false found))) e is.cause in
      ⊎_elim (λ left. ⊎_elim (λ spent. spent) (λ deep. absurd (not_deep m instance short deep.height)) left) (λ early. ⊎_elim (λ near. absurd (never_near m found.certificate.claim found.plan near)) (λ stopped. absurd (cc stopped)) early) undecided

  spent_at : (claim : Claim) (given : Option Plan) → found.certificate.claim ≡ claim → found.plan ≡ given → (answer : PlanAnswer) → IsAnswerTo m claim given found.root found.nodes answer → IsShort m → IsSpent budget answer
  spent_at (Optimal amount) given e same answer answers short = subst (IsSpent budget) (sym answers) tt
  spent_at Infeasible given e same answer answers short = subst (IsSpent budget) (sym answers) tt
  spent_at (BoundOf bound) (Some plan) e same answer answers short = subst (IsSpent budget) (sym answers) (spends bound e short)
  spent_at (BoundOf bound) None e same answer answers short = subst (IsSpent budget) (sym answers) (spends bound e short)

  pub shown : (answer : PlanAnswer) → IsAnswerTo m found.certificate.claim found.plan found.root found.nodes answer → IsShown m budget answer
  shown answer answers = record {
    found = found;
    is = is;
    answers = answers;
    holds = true_at found.certificate.claim found.plan refl refl answer answers;
    alone = alone_at found.certificate.claim found.plan refl refl answer answers;
    spent = spent_at found.certificate.claim found.plan refl refl answer answers;
  }

-- A certificate is accepted or refused, whichever grids hold the plan.
use Rattle.std.proofs.Common.{◌≡◌, ◌≤◌, ◌∙◌, ⊎_elim, inl, inr, ℕ, refl, sym, subst, List, Option, Some}
use Rattle.std.specs.Prelude.{Ok}
use Rattle.bill.specs.Laws.{TotalsExist, WeightsExist}
use Rattle.lot_sizing.specs.Problem.{IsWithinLimits, Problem}
use Rattle.lot_sizing.specs.Plan as terms
use Rattle.lot_sizing.specs.Bill.{AreWeights, bill_of}
use Rattle.lot_sizing.specs.Totals.{AreLargestTotals}
use Rattle.lot_sizing.proofs.Same.{SamePlan, cost_same, feasible_same}
use Rattle.lot_draft.specs.Meaning.{problem_of}
use Rattle.lot_draft.specs.Refusals.{first_in, backlog_fault, ends_fault, lots_fault, or_then}
use Rattle.lot_draft.proofs.Faults.{first_none, rest_none}
use Rattle.lot_draft.proofs.Limits.{plain, within}
use Rattle.lot_model.specs.Meaning.{most_asked, there_of}
use Rattle.lot_model.specs.Valid.{HaveOwnNames, HaveOwnResourceNames}
use Rattle.lot_model.proofs.Validity.{valid}
use Rattle.instance_reader.specs.Model.{BytesMean}
use Rattle.plan_rules.specs.Held.{AllFit, plan_of}
use Rattle.plan_rules.specs.declared.plan.Plan.{Plan}
use Rattle.lin_rows.specs.declared.column.Column.TheVariants.{X, Y}
use Rattle.cert_lines.specs.declared.parts.Claim.{Claim}
use Rattle.cert_lines.specs.declared.parts.Claim.TheVariants.{Optimal, Infeasible, Bound as BoundOf}
use Rattle.certificate.specs.Shapes.{Shape}
use Rattle.cert_trees.specs.Spans.{IsIn}
use Rattle.cert_trees.specs.Ranges.{IsWithin, Ranges, whole_ranges}
use Rattle.cert_meaning.specs.Accepts.{GoesWith}
use Rattle.cert_checker.specs.Laws.{CertifiedIsNotRefused}
use Rattle.cert_checker.specs.Checks.{ComesWith, IsCertified}
use Rattle.lotplan.specs.Checking.{GivenCallsFor}

-- what holds of each problem that bytes mean
pub record IsMeant (m : Problem) : Type 0 where
  pub some_period : 1 ≤ m.periods
  pub limits : IsWithinLimits m
  pub totals : (total : ℕ → ℕ) × AreLargestTotals m total
  pub weights : (weight : ℕ → ℕ → ℕ) × AreWeights (bill_of m) weight
  pub names : HaveOwnNames m
  pub resource_names : HaveOwnResourceNames m

pub meant : TotalsExist → WeightsExist → (bytes : List ℕ) (m : Problem) → BytesMean bytes (Ok m) → IsMeant m
meant totals weights bytes m means = ⊎_elim
    (λ none. absurd (let is = none.1 in cc is))
    (λ some.
    let (t, is, problem) = some in
    let (same, rules) = problem.means in
    let model = problem.model in
    let p = problem_of model in
    let checked = plain model rules.plain in
    let after = rest_none (first_in (backlog_fault model.items) 1 model.items) (or_then (first_in ends_fault 1 model.items) (first_in lots_fault 1 model.items)) rules.later in
    let ends = first_none (first_in ends_fault 1 model.items) (first_in lots_fault 1 model.items) after in
    let lots = rest_none (first_in ends_fault 1 model.items) (first_in lots_fault 1 model.items) after in
    let limits = within model checked ends lots in
    let valid_model = valid model rules.plain rules.later in
    subst IsMeant (sym same) (record {
      some_period = limits.some_period;
      limits = limits;
      totals = totals (bill_of p) (most_asked p) (there_of p) rules.ranked.0 rules.ranked.1;
      weights = weights (bill_of p) rules.ranked.0 rules.ranked.1;
      names = valid_model.names;
      resource_names = valid_model.resource_names;
    }))
    means

module _ (m : Problem) (some : 1 ≤ m.periods) (p q : Plan) (same : SamePlan m (plan_of p) (plan_of q)) (fits : AllFit m q) where
  comes_same : (claim : Claim) → ComesWith m claim (Some p) → ComesWith m claim (Some q)
  comes_same (Optimal c) comes = (fits, feasible_same m (plan_of p) (plan_of q) some same comes.1, sym (cost_same m (plan_of p) (plan_of q) same) ∙ comes.2)
  comes_same Infeasible comes = comes
  comes_same (BoundOf c) comes = comes

  within_same : (ranges : Ranges) → IsWithin m ranges (plan_of p) → IsWithin m ranges (plan_of q)
  within_same ranges within i t low high t_low t_high =
      let cell = within i t low high t_low t_high in
      (subst (IsIn (ranges (X i t))) (same.make i t low high t_low t_high) cell.0, subst (IsIn (ranges (Y i t))) (same.setup i t low high t_low t_high) cell.1)

  same_given : (a b : terms.Plan) → Some a ≡ Some b → a ≡ b
  same_given a b is = cc is

  goes_same : (ranges : Ranges) (claim : Claim) → ComesWith m claim (Some p) → GoesWith m ranges claim (Some (plan_of p)) → GoesWith m ranges claim (Some (plan_of q))
  goes_same ranges (Optimal c) comes goes =
      let comes_too = comes_same (Optimal c) comes in
      let within = subst (IsWithin m ranges) (sym (same_given (plan_of p) goes.0 goes.1)) goes.3 in
      (plan_of q, refl, comes_too.1, within_same ranges within, comes_too.2)
  goes_same ranges Infeasible comes goes = goes
  goes_same ranges (BoundOf c) comes goes = goes

  pub certified_same : (total : ℕ → ℕ) (weight : ℕ → ℕ → ℕ) (c : Shape) → IsCertified m total weight c (Some p) → IsCertified m total weight c (Some q)
  certified_same total weight c is =
      let a = is.accepted in
      record {
        accepted = record { rows = a.rows; cuts = a.cuts; tree = a.tree; leaves = a.leaves; plan = goes_same (whole_ranges total) c.claim is.plan a.plan };
        fits = record { cuts = is.fits.cuts; leaves = is.fits.leaves };
        plan = comes_same c.claim is.plan;
      }

module _ (law : CertifiedIsNotRefused) (m : Problem) (known : IsMeant m) (c : Shape) where
  pub given_call : (given : Option Plan) (s t : ℕ) → GivenCallsFor m c given s → GivenCallsFor m c given t → s ≡ t
  given_call given s t a b =
      let total = known.totals in
      let weight = known.weights in
      ⊎_elim
      (λ x. ⊎_elim
      (λ y. x.1 ∙ sym y.1)
      (λ y. absurd (law m total.0 weight.0 known.limits c given y.0 y.1 (x.0 total.0 weight.0 total.1 weight.1) (y.2 total.0 weight.0 total.1 weight.1)))
      b)
      (λ x. ⊎_elim
      (λ y. absurd (law m total.0 weight.0 known.limits c given x.0 x.1 (y.0 total.0 weight.0 total.1 weight.1) (x.2 total.0 weight.0 total.1 weight.1)))
      (λ y. x.3 ∙ sym y.3)
      b)
      a

  -- two plans that have the same numbers
  pub planned_call : (p q : Plan) (s t : ℕ) → SamePlan m (plan_of p) (plan_of q) → SamePlan m (plan_of q) (plan_of p) → AllFit m p → AllFit m q → GivenCallsFor m c (Some p) s → GivenCallsFor m c (Some q) t → s ≡ t
  planned_call p q s t same back p_fits q_fits a b = ⊎_elim
      (λ x. given_call (Some q) s t (inl (λ total weight ts ws. certified_same m known.some_period p q same q_fits total weight c (x.0 total weight ts ws), x.1)) b)
      (λ x. ⊎_elim
      (λ y. given_call (Some p) s t (inr x) (inl (λ total weight ts ws. certified_same m known.some_period q p back p_fits total weight c (y.0 total weight ts ws), y.1)))
      (λ y. x.3 ∙ sym y.3)
      b)
      a

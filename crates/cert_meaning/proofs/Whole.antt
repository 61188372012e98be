-- The claim of an accepted certificate is true.
use Rattle.std.proofs.Common.{◌≤◌, ℕ, arith, []}
use Rattle.std.specs.Prelude.{Option}
use Rattle.std.proofs.lemmas.List.Elements.{All-nil}
use Rattle.lot_sizing.specs.Problem.{Problem}
use Rattle.lot_sizing.specs.Plan.{Plan, IsFeasible, cost}
use Rattle.lot_sizing.specs.Bill.{AreWeights, bill_of}
use Rattle.lin_rows.specs.Columns.{value_in}
use Rattle.cert_lines.specs.declared.parts.Claim.{Claim}
use Rattle.cert_lines.specs.declared.parts.Claim.TheVariants.{Optimal, Infeasible, Bound as BoundOf}
use Rattle.certificate.specs.Shapes.{Shape}
use Rattle.cert_trees.specs.Laws.{PlansAreWithin}
use Rattle.cert_trees.specs.Ranges.{IsChoice, IsWithin, Ranges, whole_ranges}
use Rattle.cert_trees.specs.Paths.{IsMet}
use Rattle.cert_trees.proofs.Walk.{find}
use Rattle.cert_meaning.specs.declared.says.LeafSays.{LeafSays}
use Rattle.cert_meaning.specs.declared.says.LeafSays.TheVariants.{NoPlan, AtLeast}
use Rattle.cert_meaning.specs.Says.{IsSoOf}
use Rattle.cert_meaning.specs.Accepts.{GoesWith, IsAccepted, IsEnough, IsTrueOf, IsTrueWithin, SaysEnough}
use Rattle.cert_meaning.specs.Laws.{CutsHold, LeavesBound}
use Rattle.cert_meaning.proofs.Leaves.{IsKnown}

-- what is said at the leaf where a plan lies
record IsTold (m : Problem) (claim : Claim) (p : Plan) : Type 0 where
  says : LeafSays
  enough : IsEnough claim says
  so : IsSoOf m says p

told : CutsHold → LeavesBound → (m : Problem) (total : ℕ → ℕ) (weight : ℕ → ℕ → ℕ) (ranges : Ranges) (c : Shape) (given : Option Plan) → IsKnown m total → AreWeights (bill_of m) weight → IsAccepted m total weight ranges c given → (p : Plan) → IsFeasible m p → IsWithin m ranges p → IsTold m c.claim p
told cuts_hold leaves_bound m total weight ranges c given known are is p f within =
    let rows = cuts_hold m known.rank total weight known.some known.ranks known.totals are c.cuts is.rows is.cuts in
    let found = find m ranges (value_in p) (SaysEnough m total is.rows ranges c.claim) [] c.tree is.tree is.leaves (All-nil (λ b. IsChoice m b.column)) (All-nil (IsMet (value_in p))) in
    let (says, said, enough) = found.is in
    record {
      says = says;
      enough = enough;
      so = leaves_bound m known.rank total is.rows found.path ranges found.leaf says known.some known.ranks known.totals rows.0 rows.1 found.choices said p f within found.met;
    }

-- a leaf that says enough for an amount says that no plan costs less
amount_by : (m : Problem) (b : ℕ) (says : LeafSays) (p : Plan) → IsEnough (BoundOf b) says → IsSoOf m says p → b ≤ cost m p
amount_by m b NoPlan p enough so = absurd so
amount_by m b (AtLeast n) p enough so = omega (arith, enough, so)

best_by : (m : Problem) (b : ℕ) (says : LeafSays) (p : Plan) → IsEnough (Optimal b) says → IsSoOf m says p → b ≤ cost m p
best_by m b NoPlan p enough so = absurd so
best_by m b (AtLeast n) p enough so = omega (arith, enough, so)

none_by : (m : Problem) (says : LeafSays) (p : Plan) → IsEnough Infeasible says → IsSoOf m says p → ⊥
none_by m NoPlan p enough so = so
none_by m (AtLeast n) p enough so = enough

true_by : (m : Problem) (ranges : Ranges) (claim : Claim) (given : Option Plan) → GoesWith m ranges claim given → ((p : Plan) → IsFeasible m p → IsWithin m ranges p → IsTold m claim p) → IsTrueWithin m ranges claim given
true_by m ranges (Optimal c) given (q, e, f, within, costs) tells =
    let least = λ (p : Plan) (g : IsFeasible m p) (w : IsWithin m ranges p). let t = tells p g w in best_by m c t.says p t.enough t.so in
    (q, e, record { feasible = f; within = within; least = λ p g w. omega (arith, costs, least p g w) }, costs)
true_by m ranges Infeasible given goes tells = λ p f w. let t = tells p f w in none_by m t.says p t.enough t.so
true_by m ranges (BoundOf b) given goes tells = λ p f w. let t = tells p f w in amount_by m b t.says p t.enough t.so

pub accepted_within : CutsHold → LeavesBound → (m : Problem) (total : ℕ → ℕ) (weight : ℕ → ℕ → ℕ) (ranges : Ranges) (c : Shape) (given : Option Plan) → IsKnown m total → AreWeights (bill_of m) weight → IsAccepted m total weight ranges c given → IsTrueWithin m ranges c.claim given
accepted_within cuts_hold leaves_bound m total weight ranges c given known are is = true_by m ranges c.claim given is.plan (λ p f w. told cuts_hold leaves_bound m total weight ranges c given known are is p f w)

-- what is true within the whole ranges is true of all plans
pub whole_by : PlansAreWithin → (m : Problem) (total : ℕ → ℕ) → IsKnown m total → (claim : Claim) (given : Option Plan) → IsTrueWithin m (whole_ranges total) claim given → IsTrueOf m claim given
whole_by within m total known (Optimal c) given (q, e, best, costs) = (q, e, record { feasible = best.feasible; least = λ p f. best.least p f (within m known.rank total known.some known.ranks known.totals p f) }, costs)
whole_by within m total known Infeasible given is = λ p f. is p f (within m known.rank total known.some known.ranks known.totals p f)
whole_by within m total known (BoundOf b) given is = λ p f. is p f (within m known.rank total known.some known.ranks known.totals p f)

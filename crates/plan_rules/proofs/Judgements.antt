-- What is found of a plan is one thing: its rules are looked at one after the other, and the first that is broken is said with its first place.
use Rattle.std.proofs.Common.{◌≡◌, ◌⊎◌, ⊎_elim, inl, inr, ℕ, refl, sym, ap, arith, ◌∙◌}
use Rattle.std.specs.Prelude.{Result, Ok, Err}
use Rattle.lot_sizing.specs.Problem.{Problem, item_count, resource_count}
use Rattle.lot_sizing.specs.Plan.{Plan, Each, IsSetup, IsBalanced, IsMadeWithSetup, IsWithinCapacity, IsEndStock, IsBacklogAllowed, IsLot, IsInHorizon, cost, time_used}
use Rattle.plan_rules.specs.Held.{AllFit, plan_of}
use Rattle.plan_rules.specs.Order.{IsBefore, IsFirst}
use Rattle.plan_rules.specs.Broken.{IsFirstEnd, IsJudged, balance_left, balance_right}
use Rattle.plan_rules.specs.declared.broken.Broken.{Broken}
use Rattle.plan_rules.specs.declared.broken.Broken.TheVariants.{Shape, SetupRange, Balance, SetupMissing, Capacity, EndStock, BacklogNotAllowed, Lot, Late}
use Rattle.plan_rules.specs.declared.plan.Plan as grids

abbrev Found : Type 0
Found = Result ℕ Broken

-- a rule holds and the rest is found, or the rule is broken, first at a place, and that is said
abbrev Step : ℕ → ℕ → (ℕ → ℕ → Type 0) → (ℕ → ℕ → Found) → (Found → Type 0) → Found → Type 0
Step rows columns R say rest r = (Each rows columns R × rest r) ⊎ ((i t : ℕ) × IsFirst rows columns R i t × (r ≡ say i t))

order : (i t j u : ℕ) → IsBefore i t j u ⊎ (IsBefore j u i t ⊎ ((i ≡ j) × (t ≡ u)))
order i t j u = grind arith

-- there is one first place
first_is_one : (rows columns : ℕ) (R : ℕ → ℕ → Type 0) (i t j u : ℕ) → IsFirst rows columns R i t → IsFirst rows columns R j u → (i ≡ j) × (t ≡ u)
first_is_one rows columns R i t j u a b =
    ⊎_elim
    (λ sooner. absurd (a.broken (b.before i t a.row_low a.row_high a.column_low a.column_high sooner)))
    (⊎_elim (λ later. absurd (b.broken (a.before j u b.row_low b.row_high b.column_low b.column_high later))) (λ same. same))
    (order i t j u)

no_first : (rows columns : ℕ) (R : ℕ → ℕ → Type 0) (i t : ℕ) → Each rows columns R → IsFirst rows columns R i t → ⊥
no_first rows columns R i t each first = first.broken (each i t first.row_low first.row_high first.column_low first.column_high)

step_is_one : (rows columns : ℕ) (R : ℕ → ℕ → Type 0) (say : ℕ → ℕ → Found) (rest : Found → Type 0) → ((a b : Found) → rest a → rest b → a ≡ b) → (a b : Found) → Step rows columns R say rest a → Step rows columns R say rest b → a ≡ b
step_is_one rows columns R say rest one a b (inl x) (inl y) = one a b x.1 y.1
step_is_one rows columns R say rest one a b (inl x) (inr y) = absurd (no_first rows columns R y.0 y.1 x.0 y.2)
step_is_one rows columns R say rest one a b (inr x) (inl y) = absurd (no_first rows columns R x.0 x.1 y.0 x.2)
step_is_one rows columns R say rest one a b (inr x) (inr y) =
    let same = first_is_one rows columns R x.0 x.1 y.0 y.1 x.2 y.2 in
    x.3 ∙ rw (same.0, same.1) refl ∙ sym y.3

-- the rules in their order, from the last to the first
abbrev Spent : Problem → Plan → Found → Type 0
Spent m p r = r ≡ Ok (cost m p)

abbrev FromHorizon : Problem → Plan → Found → Type 0
FromHorizon m p = Step (item_count m) m.periods (IsInHorizon m p) (λ i t. Err (Late i t)) (Spent m p)

abbrev FromLots : Problem → Plan → Found → Type 0
FromLots m p = Step (item_count m) m.periods (IsLot m p) (λ i t. Err (Lot i t)) (FromHorizon m p)

abbrev FromBacklogs : Problem → Plan → Found → Type 0
FromBacklogs m p = Step (item_count m) m.periods (IsBacklogAllowed m p) (λ i t. Err (BacklogNotAllowed i t)) (FromLots m p)

abbrev FromEnds : Problem → Plan → Found → Type 0
FromEnds m p = Step (item_count m) 1 (λ i t. IsEndStock m p i) (λ i t. Err (EndStock i)) (FromBacklogs m p)

abbrev FromCapacity : Problem → Plan → Found → Type 0
FromCapacity m p = Step (resource_count m) m.periods (IsWithinCapacity m p) (λ k t. Err (Capacity k t (time_used m p k t))) (FromEnds m p)

abbrev FromMade : Problem → Plan → Found → Type 0
FromMade m p = Step (item_count m) m.periods (IsMadeWithSetup p) (λ i t. Err (SetupMissing i t)) (FromCapacity m p)

abbrev FromBalance : Problem → Plan → Found → Type 0
FromBalance m p = Step (item_count m) m.periods (IsBalanced m p) (λ i t. Err (Balance i t (balance_left m p i t) (balance_right m p i t))) (FromMade m p)

abbrev FromSetups : Problem → Plan → Found → Type 0
FromSetups m p = Step (item_count m) m.periods (IsSetup p) (λ i t. Err (SetupRange i t)) (FromBalance m p)

from_setups_is_one : (m : Problem) (p : Plan) (a b : Found) → FromSetups m p a → FromSetups m p b → a ≡ b
from_setups_is_one m p =
    let spent : (a b : Found) → Spent m p a → Spent m p b → a ≡ b = λ a b x y. x ∙ sym y in
    let horizon = step_is_one _ _ _ (λ i t. Err (Late i t)) (Spent m p) spent in
    let lots = step_is_one _ _ _ (λ i t. Err (Lot i t)) (FromHorizon m p) horizon in
    let backlogs = step_is_one _ _ _ (λ i t. Err (BacklogNotAllowed i t)) (FromLots m p) lots in
    let ends = step_is_one _ _ _ (λ i t. Err (EndStock i)) (FromBacklogs m p) backlogs in
    let capacity = step_is_one _ _ _ (λ k t. Err (Capacity k t (time_used m p k t))) (FromEnds m p) ends in
    let made = step_is_one _ _ _ (λ i t. Err (SetupMissing i t)) (FromCapacity m p) capacity in
    let balance = step_is_one _ _ _ (λ i t. Err (Balance i t (balance_left m p i t) (balance_right m p i t))) (FromMade m p) made in
    step_is_one _ _ _ (λ i t. Err (SetupRange i t)) (FromBalance m p) balance

-- the first item whose last stock is out of its bounds, in a table of one column
first_end : (m : Problem) (p : Plan) (i : ℕ) → IsFirstEnd m p i → IsFirst (item_count m) 1 (λ j t. IsEndStock m p j) i 1
first_end m p i first = record {
  row_low = first.low;
  row_high = first.high;
  column_low = omega arith;
  column_high = omega arith;
  broken = first.broken;
  before = λ j u j_low j_high u_low u_high sooner. first.before j j_low (⊎_elim (λ less. less) (λ same. absurd (omega (arith, same.1, u_low))) sooner);
}

to_steps : (m : Problem) (p : grids.Plan) (r : Found) → IsJudged m p r → (AllFit m p × FromSetups m (plan_of p) r) ⊎ ((AllFit m p → ⊥) × (r ≡ Err Shape))
to_steps m p (Ok amount) (fit, f, spent) =
    inl (fit, inl (f.setup, inl (f.balance, inl (f.made, inl (f.capacity, inl ((λ i t low high t_low t_high. f.end_stock i low high), inl (f.backlog, inl (f.lots, inl (f.horizon, ap Ok spent)))))))))
to_steps m p (Err Shape) not = inr (not, refl)
to_steps m p (Err (SetupRange i t)) (fit, b) = inl (fit, inr (i, t, b, refl))
to_steps m p (Err (Balance i t left right)) (fit, b) = inl (fit, inl (b.0, inr (i, t, b.1, rw (b.2, b.3) refl)))
to_steps m p (Err (SetupMissing i t)) (fit, b) = inl (fit, inl (b.0.0, inl (b.0.1, inr (i, t, b.1, refl))))
to_steps m p (Err (Capacity k t used)) (fit, b) = inl (fit, inl (b.0.0.0, inl (b.0.0.1, inl (b.0.1, inr (k, t, b.1, rw b.2 refl)))))
to_steps m p (Err (EndStock i)) (fit, b) = inl (fit, inl (b.0.0.0.0, inl (b.0.0.0.1, inl (b.0.0.1, inl (b.0.1, inr (i, 1, first_end m (plan_of p) i b.1, refl))))))
to_steps m p (Err (BacklogNotAllowed i t)) (fit, b) =
    inl (fit, inl (b.0.0.0.0.0, inl (b.0.0.0.0.1, inl (b.0.0.0.1, inl (b.0.0.1, inl ((λ j u low high u_low u_high. b.0.1 j low high), inr (i, t, b.1, refl)))))))
to_steps m p (Err (Lot i t)) (fit, b) =
    inl (fit, inl (b.0.0.0.0.0.0, inl (b.0.0.0.0.0.1, inl (b.0.0.0.0.1, inl (b.0.0.0.1, inl ((λ j u low high u_low u_high. b.0.0.1 j low high), inl (b.0.1, inr (i, t, b.1, refl))))))))
to_steps m p (Err (Late i t)) (fit, b) =
    inl (fit, inl (b.0.0.0.0.0.0.0, inl (b.0.0.0.0.0.0.1, inl (b.0.0.0.0.0.1, inl (b.0.0.0.0.1, inl ((λ j u low high u_low u_high. b.0.0.0.1 j low high), inl (b.0.0.1, inl (b.0.1, inr (i, t, b.1, refl)))))))))

pub judgement_is_one : (m : Problem) (p : grids.Plan) (a b : Found) → IsJudged m p a → IsJudged m p b → a ≡ b
judgement_is_one m p a b found other =
    ⊎_elim
    (λ x. ⊎_elim (λ y. from_setups_is_one m (plan_of p) a b x.1 y.1) (λ y. absurd (y.0 x.0)) (to_steps m p b other))
    (λ x. ⊎_elim (λ y. absurd (x.0 y.0)) (λ y. x.1 ∙ sym y.1) (to_steps m p b other))
    (to_steps m p a found)

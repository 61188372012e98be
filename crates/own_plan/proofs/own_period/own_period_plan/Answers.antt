use Rattle.std.proofs.Common.{◌≡◌, ◌≤◌, ◌∙◌, ℕ, ap, rules}
use Rattle.std.specs.Prelude.{Option, Some, None, Result, Ok, Err}
use Rattle.lot_sizing.specs.Problem.{Problem, EachItem, IsPlain}
use Rattle.lot_sizing.specs.Plan.{IsFeasible, cost}
use Rattle.lot_sizing.specs.Totals.{IsRanking}
use Rattle.plan_rules.specs.Cells.{Cells, table_of}
use Rattle.plan_rules.specs.Held.{plan_of}
use Rattle.plan_rules.specs.Rows.{HasChosen, HasNoPlan, IfFound, IfNoneFound, IsLeastWith}
use Rattle.plan_rules.specs.declared.plan.Planned.{Planned}
use Rattle.own_plan.specs.OwnPeriod.{HasOwnPeriod, IsOwnPeriod}
use Rattle.own_plan.specs.Made.{CostsAsOwn}
use Rattle.own_plan.specs.Rows.{IsOwnRow}
use Rattle.own_plan.proofs.Own.{none_own, own_is_one, own_of}
use Rattle.own_plan.proofs.own_period.own_period_plan.Goals as goal

own_made : (m : Problem) (make setup : Cells) (p : Planned) → 1 ≤ m.periods → IsPlain m → EachItem m (IsOwnRow m (table_of make) (table_of setup)) → HasChosen make setup p.plan → IsFeasible m (plan_of p.plan) → IsLeastWith m (table_of make) (table_of setup) (plan_of p.plan) → IsOwnPeriod m (plan_of p.plan)
own_made m make setup p some plain rows chosen f least =
    let make_is = ap table_of chosen.make in
    let setup_is = ap table_of chosen.setup in
    own_of m (table_of make) (table_of setup) (plan_of p.plan) some plain rows f
    (record { make = λ i t low high t_low t_high. ap (λ (g : Cells). table_of g i t) chosen.make; setup = λ i t low high t_low t_high. ap (λ (g : Cells). table_of g i t) chosen.setup })
    make_is setup_is least

found_own : {E : Type 0} (r : Result (Option Planned) E) (m : Problem) (make setup : Cells) → 1 ≤ m.periods → IsPlain m → EachItem m (IsOwnRow m (table_of make) (table_of setup)) → IfFound r (λ p. HasChosen make setup p.plan) → IfFound r (λ p. IsFeasible m (plan_of p.plan)) → IfFound r (λ p. IsLeastWith m (table_of make) (table_of setup) (plan_of p.plan)) → IfFound r (λ p. IsOwnPeriod m (plan_of p.plan))
found_own (Ok (Some p)) m make setup some plain rows chosen f least = own_made m make setup p some plain rows chosen f least
found_own (Ok None) m make setup some plain rows chosen f least = search
found_own (Err e) m make setup some plain rows chosen f least = search

found_one : {E : Type 0} (r : Result (Option Planned) E) (m : Problem) (rank : ℕ → ℕ) → IsRanking m rank → IfFound r (λ p. IsOwnPeriod m (plan_of p.plan)) → IfFound r (λ p. p.cost ≡ cost m (plan_of p.plan)) → IfFound r (CostsAsOwn m)
found_one (Ok (Some p)) m rank ranks own costs = λ q is. costs ∙ (own_is_one m rank ranks (plan_of p.plan) q own is).1
found_one (Ok None) m rank ranks own costs = search
found_one (Err e) m rank ranks own costs = search

none_found : {E : Type 0} (r : Result (Option Planned) E) (m : Problem) (rank : ℕ → ℕ) (make setup : Cells) → IsRanking m rank → EachItem m (IsOwnRow m (table_of make) (table_of setup)) → IfNoneFound r (HasNoPlan m (table_of make) (table_of setup)) → IfNoneFound r (HasOwnPeriod m → ⊥)
none_found (Ok (Some p)) m rank make setup ranks rows none = search
none_found (Ok None) m rank make setup ranks rows none = none_own m rank (table_of make) (table_of setup) ranks rows none
none_found (Err e) m rank make setup ranks rows none = search

pub returns-clause-own : goal.returns-clause-own
returns-clause-own c =
    let m = c.args.instance.now in
    let plain : IsPlain m = search rules in
    let e = c.complete_at_cost.ensures in
    found_own c.complete_at_cost.result m c.fill_own_lots.new.make c.fill_own_lots.new.setup c.items.ensures.instance.limits.some_period plain c.fill_own_lots.ensures.rows e.choice e.feasible e.least

pub returns-clause-none : goal.returns-clause-none
returns-clause-none c =
    let m = c.args.instance.now in
    let ranked = c.items.ensures.instance.ranked in
    none_found c.complete_at_cost.result m ranked.0 c.fill_own_lots.new.make c.fill_own_lots.new.setup ranked.1 c.fill_own_lots.ensures.rows c.complete_at_cost.ensures.none

pub returns-clause-one : goal.returns-clause-one
returns-clause-one c =
    let m = c.args.instance.now in
    let plain : IsPlain m = search rules in
    let ranked = c.items.ensures.instance.ranked in
    let e = c.complete_at_cost.ensures in
    found_one c.complete_at_cost.result m ranked.0 ranked.1 (found_own c.complete_at_cost.result m c.fill_own_lots.new.make c.fill_own_lots.new.setup c.items.ensures.instance.limits.some_period plain c.fill_own_lots.ensures.rows e.choice e.feasible e.least) e.cost

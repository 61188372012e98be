-- The least stocks and backlogs of quantities and setups that a feasible plan has fit 64 bits.
use Rattle.std.proofs.Common.{◌≡◌, ◌^◌, ⊎_elim, inl, inr, ℕ, refl, sym, subst, arith}
use Rattle.std.proofs.lemmas.Bool.{cases_lt}
use Rattle.lot_sizing.specs.Problem.{Problem}
use Rattle.lot_sizing.specs.Plan.{Plan, Table, EachCell, IsFeasible}
use Rattle.lot_sizing.specs.Least.{HasChoice, least_backlog, least_stock}
use Rattle.lot_model.specs.Views.{IsInstance}
use Rattle.plan_rules.specs.Rows.{HasLeast, HasNoPlan, IsLeastWith, IsTooLarge}
use Rattle.plan_rules.proofs.Choices.{least_with, none_infeasible, none_too_large}
use Rattle.lot_quantities.specs.Completed.{HasCapped, IsCapped}

-- the same numbers
pub capped_as : (n n2 x x2 : ℕ) → n ≡ n2 → x ≡ x2 → IsCapped n2 x2 → IsCapped n x
capped_as n n2 x x2 number cap is = subst (λ k. IsCapped k x) (sym number) (subst (IsCapped n2) (sym cap) is)

least_here : (m : Problem) (make setup stock backlog : Table) (q : Plan) → IsInstance m → IsFeasible m q → HasChoice m make setup q → EachCell m (HasCapped m make stock backlog) → EachCell m (HasLeast m make stock backlog)
least_here m make setup stock backlog q within f choice capped i t low high t_low t_high =
    let here = capped i t low high t_low t_high in
    let small : IsTooLarge m make i t → ⊥ = λ large. none_too_large m make setup within (i, t, low, high, t_low, t_high, large) q f choice in (
      ⊎_elim (λ less. here.stock.fits less) (λ no. absurd (small (inl (omega (arith, no))))) (cases_lt (least_stock m make i t) (2 ^ 64)),
      ⊎_elim (λ less. here.backlog.fits less) (λ no. absurd (small (inr (omega (arith, no))))) (cases_lt (least_backlog m make i t) (2 ^ 64)),
    )

own_choice : (m : Problem) (p : Plan) → HasChoice m p.make p.setup p
own_choice m p = record { make = λ i t low high t_low t_high. refl; setup = λ i t low high t_low t_high. refl }

-- a feasible plan that was filled so is the least with its quantities and setups
pub least_filled : (m : Problem) (p : Plan) → IsInstance m → EachCell m (HasCapped m p.make p.stock p.backlog) → IsFeasible m p → IsLeastWith m p.make p.setup p
least_filled m p within capped f = least_with m p (least_here m p.make p.setup p.stock p.backlog p within f (own_choice m p) capped)

-- and where it isn't feasible none is
pub none_filled : (m : Problem) (p : Plan) → IsInstance m → EachCell m (HasCapped m p.make p.stock p.backlog) → (IsFeasible m p → ⊥) → HasNoPlan m p.make p.setup
none_filled m p within capped not = λ q f choice. none_infeasible m p within.limits.some_period (least_here m p.make p.setup p.stock p.backlog q within f choice capped) not q f choice

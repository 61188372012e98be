use Rattle.std.proofs.Common.{◌≡◌, ◌+◌, ◌-◌, ◌∙◌, ◌∷◌, ◌++◌, [], suc, ap, sym, arith}
use Rattle.std.proofs.lemmas.Grind.{get_or_default_zero}
use Rattle.lot_sizing.specs.Single.{net_demand, positions_to}
use Rattle.lot_sizing.proofs.Positions.{idle_positions, next_positions}
use Rattle.echelon.specs.Views.{single_of_item}
use Rattle.echelon.proofs.single.positions.Goals as goal
use Rattle.echelon.proofs.single.positions.Goals.{then-index-ne0+in_ok-push, else-index-ne0}

pub loop-period-preserved : goal.loop-period-preserved
loop-period-preserved c =
    let s = single_of_item c.args.single.now in
    let t = c.loop-period.period in
    let e : suc (t - 1) ≡ t = omega arith in
    let i : suc (t - 1) ≡ t + 1 - 1 = omega arith in
    let here = c.index.ensures ∙ get_or_default_zero s.net (t - 1) c.index.result.now (omega arith) in
    let same : net_demand s (suc (t - 1)) ≡ c.index.result.now = ap (net_demand s) e ∙ sym here in
    elim c.if-index-ne0.branch [
      | then-index-ne0+in_ok-push w ↦ ap (λ v. v.items) w.periods-is ∙ w.in_ok-push.ensures.items ∙ ap (λ xs. xs ++ t ∷ []) c.loop-period.invariant ∙ ap (λ k. positions_to s (t - 1) ++ k ∷ []) (sym e) ∙ sym (next_positions s (t - 1) (omega (arith, same, w.if-index-ne0.true))) ∙ ap (positions_to s) i
      | else-index-ne0 w ↦ ap (λ v. v.items) w.periods-is ∙ c.loop-period.invariant ∙ sym (idle_positions s (t - 1) (omega (arith, same, w.if-index-ne0.false))) ∙ ap (positions_to s) i
    ]

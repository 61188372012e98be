use Rattle.std.proofs.Common.{◌≡◌, ◌-◌, ◌∙◌, sym, ap, arith, List, [], ◌∷◌, ◌++◌, take, drop, FitsSigned, w64, to_z, of_z, rules}
use mir.Facts.{to_z-of_z}
use Rattle.std.specs.Prelude.{ℤ}
use Rattle.lot_model.specs.Drafted.{wholes}
use Rattle.replan.proofs.Growing.{one_later}
use Rattle.replan.proofs.lines.later.Goals as goal

pub loop-place-preserved : goal.loop-place-preserved
loop-place-preserved c =
    let x = c.whole-amount.result in
    let fits : FitsSigned w64 x = search rules in
    let same : to_z w64 (of_z w64 x) ≡ x = to_z-of_z fits in
    let before = wholes (take (c.loop-place.place - c.args.first) (drop c.args.first c.args.amounts.now)) in
    c.in_ok-push.ensures.items
    ∙ (ap (λ (xs : List ℤ). xs ++ to_z w64 (of_z w64 x) ∷ []) c.loop-place.invariant
    ∙ (ap (λ (z : ℤ). before ++ z ∷ []) (same ∙ c.whole-amount.ensures)
    ∙ sym (one_later c.args.amounts.now c.args.first c.loop-place.place (omega arith) (omega arith))))

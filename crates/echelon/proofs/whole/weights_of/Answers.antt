use Rattle.std.proofs.Common.{◌≡◌, ◌∙◌, ◌-◌, ◌+◌, suc, ap, sym, subst, arith}
use Rattle.echelon.specs.Views.{HasEach}
use Rattle.echelon.specs.Weights.{weight_in}
use Rattle.echelon.proofs.Nets.{each_more}
use Rattle.echelon.proofs.whole.weights_of.Goals as goal

pub loop-other-preserved : goal.loop-other-preserved
loop-other-preserved c =
    let f = weight_in c.args.explosion.now c.args.item in
    let k = c.loop-other.other in
    let next : k + 1 - 1 ≡ suc (k - 1) = omega (arith, c.loop-other.auto.other) in
    let same : k ≡ k + 1 - 1 = omega arith in
    subst (HasEach (k + 1 - 1) f) (sym c.in_ok-push.ensures.items) (each_more (k - 1) (k + 1 - 1) c.weight.result f c.loop-other.list.items next c.loop-other.invariant (c.weight.ensures ∙ ap f same))

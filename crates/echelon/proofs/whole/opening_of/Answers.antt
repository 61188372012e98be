use Rattle.std.proofs.Common.{◌∙◌, arith}
use Rattle.lot_sizing.specs.Problem.{item_at}
use Rattle.echelon.specs.Weights.{weight_in}
use Rattle.echelon.proofs.Wholes.{sum_more}
use Rattle.echelon.proofs.whole.opening_of.Goals as goal

pub loop-other-preserved : goal.loop-other-preserved
loop-other-preserved c =
    let j = c.loop-other.other in
    let small = c.requires.explosion.rows.small c.args.item j c.requires.low c.requires.high c.loop-other.auto.other (omega (arith, c.loop-other-test.true, c.items-other-end.ensures.value)) in
    sum_more (weight_in c.args.explosion.now c.args.item) (λ k. (item_at c.args.instance.now k).opening) j c.from-units.result c.from.result c.loop-other.sum c.loop-other.auto.other (c.from-units.ensures ∙ c.weight.ensures) (omega (arith, c.from-units.ensures, c.weight.ensures, small)) (c.from.ensures ∙ c.opening.ensures.value) (omega (arith, c.from.ensures, c.opening.ensures.small)) c.loop-other.invariant

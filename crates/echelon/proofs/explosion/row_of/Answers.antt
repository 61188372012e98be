use Rattle.std.proofs.Common.{◌≡◌, ◌+◌, ◌-◌, sym, subst, arith}
use Rattle.lot_sizing.specs.Problem.{item_count}
use Rattle.echelon.specs.Weights.{IsRow}
use Rattle.echelon.proofs.Explosions.{row_more}
use Rattle.echelon.proofs.explosion.row_of.Goals as goal

pub loop-other-preserved : goal.loop-other-preserved
loop-other-preserved c =
    subst (IsRow c.args.instance.now c.args.item (c.loop-other.other + 1 - 1)) (sym c.in_ok-push.ensures.items)
    (row_more c.args.instance.now c.args.item c.loop-other.other c.weight.result c.loop-other.row.items c.loop-other.auto.other c.weight.ensures.small c.weight.ensures.value c.loop-other.invariant)

pub returns : goal.returns
returns c =
    let e : c.loop-other.other - 1 ≡ item_count c.args.instance.now = omega (arith, c.loop-other-test.false, c.loop-other.auto.other-end, c.loop-other.auto.other, c.items-other-end.ensures.value) in
    subst (λ n. IsRow c.args.instance.now c.args.item n c.loop-other.row.items) e c.loop-other.invariant

use Rattle.std.proofs.Common.{◌≡◌, ◌+◌, sym, subst, arith, length}
use Rattle.lot_sizing.specs.Problem.{entry}
use Rattle.echelon.specs.Order.{IsOrderedTo}
use Rattle.echelon.proofs.Orders.{pass, put}
use Rattle.echelon.proofs.explosion.order_rank.Goals.{then-ranks-item+in_ok-push, else-ranks-item}
use Rattle.echelon.proofs.explosion.order_rank.Goals as goal

pub loop-item-preserved : goal.loop-item-preserved
loop-item-preserved c =
    let rank = entry c.args.ranks.now in
    let n = length c.args.ranks.now in
    let b = c.args.rank in
    let j = c.loop-item.item in
    elim c.if-ranks-item.branch [
      | then-ranks-item+in_ok-push w ↦ subst (λ o. IsOrderedTo rank n b (j + 1) o.items) (sym w.order-is) (subst (IsOrderedTo rank n b (j + 1)) (sym w.in_ok-push.ensures.items) (put rank n b j c.loop-item.order.items c.loop-item.auto.item (omega (arith, c.loop-item-test.true)) w.if-ranks-item.true c.loop-item.invariant))
      | else-ranks-item w ↦ subst (λ o. IsOrderedTo rank n b (j + 1) o.items) (sym w.order-is) (pass rank n b j c.loop-item.order.items w.if-ranks-item.false c.loop-item.invariant)
    ]

pub returns : goal.returns
returns c =
    let e : c.loop-item.item ≡ length c.args.ranks.now + 1 = omega (arith, c.loop-item-test.false, c.loop-item.auto.item-end (omega arith)) in
    subst (λ j. IsOrderedTo (entry c.args.ranks.now) (length c.args.ranks.now) c.args.rank j c.loop-item.order.items) e c.loop-item.invariant

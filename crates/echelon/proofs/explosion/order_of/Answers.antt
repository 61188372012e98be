use Rattle.std.proofs.Common.{◌≡◌, ◌+◌, sym, subst, arith, length}
use Rattle.lot_sizing.specs.Problem.{entry}
use Rattle.echelon.specs.Order.{IsOrderedTo}
use Rattle.echelon.proofs.Orders.{next_rank, none_yet}
use Rattle.echelon.proofs.explosion.order_of.Goals as goal

pub loop-rank-init : goal.loop-rank-init
loop-rank-init c =
    let rank = entry c.args.ranks.now in
    let n = length c.args.ranks.now in
    subst (IsOrderedTo rank n 0 1) (sym c.in_ok-order.ensures.items) (none_yet rank n)

pub loop-rank-preserved : goal.loop-rank-preserved
loop-rank-preserved c = next_rank (entry c.args.ranks.now) (length c.args.ranks.now) c.loop-rank.rank c.order_rank.new.order.items c.in_ok-order_rank.ensures

pub returns : goal.returns
returns c =
    let rank = entry c.args.ranks.now in
    let n = length c.args.ranks.now in
    let all : c.loop-rank.rank ≡ n + 1 = omega (arith, c.loop-rank-test.false, c.loop-rank.auto.rank-end) in
    subst (λ b. IsOrderedTo rank n b 1 c.loop-rank.order.items) all c.loop-rank.invariant

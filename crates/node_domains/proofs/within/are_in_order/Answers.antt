use Rattle.std.proofs.Common.{arith, refl}
use Rattle.node_domains.specs.Within.{IsCellGiven, given_ranges}
use Rattle.node_domains.proofs.Cells.{cell_given, cell_up_to, cells_of, given_of, item_more}
use Rattle.node_domains.proofs.within.are_in_order.Goals as goal

pub returns-then-not-is_item_up_to : goal.returns-then-not-is_item_up_to
returns-then-not-is_item_up_to c =
    let m = c.args.instance.now in
    let r = c.args.ranges.now in
    let most = c.largest_total-most.result in
    let item = c.loop-item.item in
    let (total, totals, same) = c.largest_total-most.ensures.value in
    let high = c.items-item-end.ensures.value in (
      λ yes. absurd (cc yes),
      λ given.
          let all = c.is_item_up_to.ensures.1 (λ t t_low t_high. cell_up_to m r most item t total totals same (cells_of m r total totals given item t (omega arith) (omega (arith, c.loop-item-test.true, high)) t_low t_high)) in
          let no = c.if-not-is_item_up_to.true in
          cc (all, no),
    )

pub loop-item-preserved : goal.loop-item-preserved
loop-item-preserved c =
    let m = c.args.instance.now in
    let r = c.args.ranges.now in
    let most = c.largest_total-most.result in
    let item = c.loop-item.item in
    item_more (IsCellGiven m (given_ranges r)) item m.periods c.loop-item.invariant (λ t t_low t_high. cell_given m r most item t c.largest_total-most.ensures.all (c.is_item_up_to.ensures.0 c.if-not-is_item_up_to.false t t_low t_high))

pub returns : goal.returns
returns c = (
  λ yes. given_of c.args.instance.now c.args.ranges.now c.requires.shape (λ i t low high t_low t_high. c.loop-item.invariant i t low (omega (arith, high, c.loop-item-test.false, c.loop-item.auto.item-end, c.items-item-end.ensures.value)) t_low t_high),
  λ given. refl,
)

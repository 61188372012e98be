use Rattle.std.proofs.Common.{arith}
use Rattle.bill.proofs.ranking.Reach.first_on_cycle.Goals as goal

pub returns-then-goes_into : goal.returns-then-goes_into
returns-then-goes_into c = λ b reach. record {
  low = c.loop-item.auto.item;
  high = omega (arith, reach.size);
  cycle = (c.goes_into.ensures.path b reach).0 c.if-goes_into.true;
  first = λ j low before cycle. cc (c.loop-item.invariant j low before, ((reach.each j low (omega (arith, before, reach.size))).each j low (omega (arith, before, reach.size))).1 cycle);
}

pub returns : goal.returns
returns c = λ b reach i low high cycle. cc (c.loop-item.invariant i low (omega (arith, high, reach.size)), ((reach.each i low high).each i low high).1 cycle)

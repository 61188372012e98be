use Rattle.std.proofs.Common.{subst, arith, length}
use Rattle.chain_dp.specs.States.{IsNarrowEnd}
use Rattle.chain_dp.proofs.Stated.{narrow_three}
use Rattle.chain_dp.proofs.states.narrow_cost.Goals as goal

pub returns : goal.returns
returns c small =
    let low = c.args.low.now in
    let mid = c.args.mid.now in
    let top = c.args.top.now in
    let stretches = c.args.stretches.now in
    let table = c.in_ok-table.table.items in
    let lots = length stretches in
    let cost = c.least_of_ends.result in
    let end = subst (λ ts. IsNarrowEnd low mid stretches ts lots lots cost) c.deref.ensures.value c.least_of_ends.ensures in
    narrow_three low mid top stretches table lots cost (record {
      count = omega arith;
      wide = λ v h. omega (arith, c.requires.wide v h, c.requires.stretches);
      rows = c.requires.rows;
      width = omega (arith, c.requires.stretches);
      states = c.in_ok-table.ensures;
      end = end;
    }) small

use Rattle.std.proofs.Common.{◌≡◌, ◌+◌, ◌-◌, subst, arith, length}
use Rattle.chain_dp.specs.Tables.{IsLeastEnd, IsPairPlane}
use Rattle.chain_dp.proofs.Tabled.{two_cost}
use Rattle.chain_dp.proofs.costs.cost_of_two.Goals as goal

pub returns : goal.returns
returns c =
    let low = c.args.low.now in
    let mid = c.args.mid.now in
    let lots = c.len-lots.result - 1 in
    let size : lots + 1 ≡ length mid.asked.items = omega (arith, c.len-lots.ensures, c.requires.some) in
    let stretches = c.in_ok-stretches.stretches.items in
    let firsts = c.in_ok-firsts.firsts.items in
    let plane = c.in_ok-plane.plane.items in
    let rows = c.in_ok-stretches.ensures in
    let begins = c.in_ok-firsts.ensures in
    let table_1 = subst (λ ss. IsPairPlane low mid ss c.deref-2.result.now (length c.deref-2.result.now) plane) c.deref.ensures.value c.in_ok-plane.ensures in
    let table_2 = subst (λ fs. IsPairPlane low mid stretches fs (length fs) plane) c.deref-2.ensures.value table_1 in
    let table = subst (λ n. IsPairPlane low mid stretches firsts n plane) begins.shape.size table_2 in
    let end_1 = subst (λ ss. IsLeastEnd low mid ss c.deref-4.result.now (length c.deref-4.result.now) lots c.least_of_ends-cost.result) c.deref-3.ensures.value c.least_of_ends-cost.ensures in
    let end_2 = subst (λ ps. IsLeastEnd low mid stretches ps (length ps) lots c.least_of_ends-cost.result) c.deref-4.ensures.value end_1 in
    let end = subst (λ n. IsLeastEnd low mid stretches plane n lots c.least_of_ends-cost.result) table.size end_2 in
    two_cost low mid stretches firsts plane lots c.least_of_ends-cost.result size (record {
      count = rows.length;
      wide = λ v h. omega (arith, rows.wide v (omega (arith, h, rows.length)), c.requires.low.needs, size);
      rows = rows.rows;
      begins = begins;
      table = table;
      end = end;
    })

use Rattle.std.proofs.Common.{◌≡◌, ◌+◌, ◌-◌, ◌∙◌, sym, subst, arith, length, []}
use Rattle.std.proofs.lemmas.List.{get_or_read}
use Rattle.chain_dp.specs.Lists.{plane_of}
use Rattle.chain_dp.specs.Tables.{AreChainPlanes, IsLeastEnd}
use Rattle.chain_dp.proofs.Tabled.{three_cost}
use Rattle.chain_dp.proofs.costs.cost_of_three.Goals as goal

pub returns : goal.returns
returns c =
    let low = c.args.low.now in
    let mid = c.args.mid.now in
    let top = c.args.top.now in
    let lots = c.len-lots.result - 1 in
    let width = length top.asked.items in
    let size : lots + 1 ≡ width = omega (arith, c.len-lots.ensures, c.requires.some) in
    let stretches = c.in_ok-stretches.stretches.items in
    let planes = c.in_ok-planes.planes.items in
    let rows = c.in_ok-stretches.ensures in
    let cost = c.least_of_ends-cost.result in
    let inside : c.behind-planes.inside.rows.items ≡ c.index.result.now = c.behind-planes.view_is in
    let last : c.deref-4.result.now ≡ plane_of planes lots = c.deref-4.ensures.value ∙ inside ∙ get_or_read planes lots c.index.result.now (omega (arith, c.in_ok-planes.ensures.length, size)) c.index.ensures [] in
    let tables_1 = subst (λ ss. AreChainPlanes low mid top ss width planes) c.deref-2.ensures.value c.in_ok-planes.ensures.planes in
    let tables = subst (λ n. AreChainPlanes low mid top stretches n planes) (sym size) tables_1 in
    let count : length (plane_of planes lots) ≡ lots = omega (arith, (tables lots (omega (arith, c.in_ok-planes.ensures.length, size))).shape.size) in
    let end_1 = subst (λ ss. IsLeastEnd low mid ss c.deref-4.result.now (length c.deref-4.result.now) lots cost) c.deref-3.ensures.value c.least_of_ends-cost.ensures in
    let end_2 = subst (λ ps. IsLeastEnd low mid stretches ps (length ps) lots cost) last end_1 in
    let end = subst (λ n. IsLeastEnd low mid stretches (plane_of planes lots) n lots cost) count end_2 in
    three_cost low mid top stretches planes lots cost size (record {
      count = rows.length;
      wide = λ v h. omega (arith, rows.wide v (omega (arith, h, rows.length)), c.requires.low.needs, size);
      rows = rows.rows;
      size = omega (arith, c.in_ok-planes.ensures.length, size);
      tables = tables;
      end = end;
    })

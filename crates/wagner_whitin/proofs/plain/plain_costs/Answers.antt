use Rattle.std.proofs.Common.{◌≡◌, ◌+◌, ◌∷◌, ◌++◌, [], ap, subst, sym, arith, length}
use Rattle.lot_sizing.specs.Single.{position_count}
use Rattle.echelon.specs.Views.{single_of_item}
use Rattle.wagner_whitin.specs.Tables.{IsCheapestLast, IsTable}
use Rattle.wagner_whitin.proofs.Tabled.{table_by_last}
use Rattle.wagner_whitin.proofs.plain.plain_costs.Goals as goal

pub loop-preserved : goal.loop-preserved
loop-preserved c =
    let s = single_of_item c.args.single.now in
    let g = c.loop.potentials.items in
    let p = c.loop.counter in
    let best = c.cheapest_last-best.result in
    let size : length c.deref-in-loop.result.now ≡ p = omega (arith, c.deref-in-loop.ensures.len, c.loop.invariant.size) in
    let last : IsCheapestLast s g (p + 1) best = subst (λ k. IsCheapestLast s g (k + 1) best) size (subst (λ xs. IsCheapestLast s xs (length c.deref-in-loop.result.now + 1) best) c.deref-in-loop.ensures.value c.cheapest_last-best.ensures) in
    let more = table_by_last s p g c.loop.lasts.items best c.loop.invariant last in
    subst (λ xs. IsTable s (p + 1) xs c.push.new.self.items) (sym c.in_ok-push-2.ensures.items) (subst (IsTable s (p + 1) (g ++ best.cost ∷ [])) (sym c.in_ok-push.ensures.items) more)

pub returns : goal.returns
returns c =
    let s = single_of_item c.args.single.now in
    let e : c.loop.counter ≡ position_count s = omega (arith, ap length c.in_ok-needed.ensures.positions) in
    subst (λ k. IsTable s k c.loop.potentials.items c.loop.lasts.items) e c.loop.invariant

use Rattle.std.proofs.Common.{◌≡◌, ◌+◌, sym, subst, arith, length}
use Rattle.uncoupled.specs.Floors.{ProveBestFrom, ProvesBest}
use Rattle.uncoupled.proofs.Floors.{prove_more}
use Rattle.uncoupled.proofs.planning.cheapest_lots.Goals as goal

pub loop-item-preserved : goal.loop-item-preserved
loop-item-preserved c =
    let m = c.args.instance.now in
    let lists = c.loop-item.potentials.items in
    let before = c.loop-item.invariant in
    let place : c.loop-item.item ≡ 1 + length lists = omega (arith, before.one_each) in
    let proves = subst (λ k. ProvesBest m k c.in_ok-proved.proved) place c.in_ok-proved.ensures.proves in
    record {
      rows = c.in_ok-proved.ensures.rows;
      one_each = omega (arith, before.one_each, c.in_ok-push.ensures.len);
      prove = subst (ProveBestFrom m 1) (sym c.in_ok-push.ensures.items) (prove_more m 1 lists c.in_ok-proved.proved before.prove proves);
    }

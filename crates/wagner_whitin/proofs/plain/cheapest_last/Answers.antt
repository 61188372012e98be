use Rattle.std.proofs.Common.{◌+◌, ◌-◌, ⊎_elim, inl, inr, ap, subst, arith, length}
use Rattle.std.proofs.lemmas.Bool.{cases_eq}
use Rattle.lot_sizing.specs.Single.{IsServer, block_cost, period_of, potential}
use Rattle.echelon.specs.Views.{single_of_item}
use Rattle.wagner_whitin.proofs.Serving.{positions_small}
use Rattle.wagner_whitin.proofs.Summing.{candidate_last, last_of}
use Rattle.wagner_whitin.proofs.plain.cheapest_last.Goals as goal

pub overflow_cast-last : goal.overflow_cast-last
overflow_cast-last c = omega (arith, positions_small (single_of_item c.args.single.now) c.requires.within, c.requires.some)

pub overflow_add-last : goal.overflow_add-last
overflow_add-last c = omega (arith, positions_small (single_of_item c.args.single.now) c.requires.within, c.requires.some)

pub cheapest_server-best-requires-clause-before : goal.cheapest_server-best-requires-clause-before
cheapest_server-best-requires-clause-before c = omega (arith, positions_small (single_of_item c.args.single.now) c.requires.within, c.requires.some, c.last_potential.ensures.value, c.requires.small (length c.args.potentials.now) (omega arith))

pub cheapest_server-requires-clause-before : goal.cheapest_server-requires-clause-before
cheapest_server-requires-clause-before c = omega (arith, positions_small (single_of_item c.args.single.now) c.requires.within, c.requires.some, c.potential_before-before.ensures, c.requires.small (c.loop-first.first - 1) (omega arith))

pub loop-first-preserved : goal.loop-first-preserved
loop-first-preserved c =
    let s = single_of_item c.args.single.now in
    let g = c.args.potentials.now in
    let inv = c.loop-first.invariant in
    let first = c.loop-first.first in
    let last = length g + 1 in
    let new = c.cheapest_server.ensures.candidate in
    let before = c.potential_before-before.ensures in
    let chosen = last_of s g last c.loop-first.best c.cheapest_server.result c.cheaper-best.result c.cheaper-best.ensures.either
    (record { block = inv.block; ends = inv.ends; cost = inv.cost; small = inv.small })
    (candidate_last s g c.potential_before-before.result first last c.cheapest_server.result before new (omega arith) (omega (arith, c.loop-first.auto.first, before, c.requires.small (first - 1) (omega arith)))) in
    record {
      block = chosen.block;
      ends = chosen.ends;
      cost = chosen.cost;
      least = λ b is_block b_last where_first. ⊎_elim
          (λ earlier. ⊎_elim
          (λ same. omega (arith, c.cheaper-best.ensures.least.1, new.least b.server (subst (λ k. IsServer s b.server (period_of s k)) same is_block.server), before, ap (λ k. potential g (k - 1)) same, ap (λ k. block_cost s (record { first = k; last = b.last; server = b.server })) same, ap (λ k. block_cost s (record { first = first; last = k; server = b.server })) b_last))
          (λ apart. omega (arith, c.cheaper-best.ensures.least.0, inv.least b is_block b_last (inl (omega (arith, earlier, apart)))))
          (cases_eq b.first first))
          (λ own. omega (arith, c.cheaper-best.ensures.least.0, inv.least b is_block b_last (inr own)))
          where_first;
      small = chosen.small;
    }

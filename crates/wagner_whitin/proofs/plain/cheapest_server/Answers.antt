use Rattle.std.proofs.Common.{◌≡◌, ◌+◌, ⊎_elim, refl, ap, sym, subst, arith}
use Rattle.std.proofs.lemmas.Bool.{cases_lt}
use Rattle.lot_sizing.specs.Single.{IsServer, block_cost}
use Rattle.echelon.specs.Views.{single_of_item}
use Rattle.wagner_whitin.specs.declared.plain.Candidate.{Candidate}
use Rattle.wagner_whitin.proofs.Summing.{block_from, offer_of, own_block, period_at}
use Rattle.wagner_whitin.proofs.plain.cheapest_server.Goals as goal

pub block_cost-requires-clause-block : goal.block_cost-requires-clause-block
block_cost-requires-clause-block c =
    let s = single_of_item c.args.single.now in
    let at = period_at s c.args.needed.now c.args.first c.requires.within c.requires.needed c.requires.low (omega (arith, c.requires.order, c.requires.high)) in
    own_block s c.args.first c.args.last _ at c.requires.low c.requires.order c.requires.high

pub last_server-server-end-requires-clause-low : goal.last_server-server-end-requires-clause-low
last_server-server-end-requires-clause-low c = (period_at (single_of_item c.args.single.now) c.args.needed.now c.args.first c.requires.within c.requires.needed c.requires.low (omega (arith, c.requires.order, c.requires.high))).low

pub last_server-server-end-requires-clause-high : goal.last_server-server-end-requires-clause-high
last_server-server-end-requires-clause-high c = (period_at (single_of_item c.args.single.now) c.args.needed.now c.args.first c.requires.within c.requires.needed c.requires.low (omega (arith, c.requires.order, c.requires.high))).high

pub loop-server-init : goal.loop-server-init
loop-server-init c =
    let s = single_of_item c.args.single.now in
    let at = period_at s c.args.needed.now c.args.first c.requires.within c.requires.needed c.requires.low (omega (arith, c.requires.order, c.requires.high)) in
    record {
      block = own_block s c.args.first c.args.last _ at c.requires.low c.requires.order c.requires.high;
      begins = refl;
      ends = refl;
      cost = ap (λ x. c.args.before + x) c.block_cost.ensures.value;
      least = λ u low high. absurd (omega (arith, low, high));
      small = omega (arith, c.block_cost.ensures.small);
    }

pub block_cost-requires-in-loop-server-clause-block : goal.block_cost-requires-in-loop-server-clause-block
block_cost-requires-in-loop-server-clause-block c =
    let s = single_of_item c.args.single.now in
    let at = period_at s c.args.needed.now c.args.first c.requires.within c.requires.needed c.requires.low (omega (arith, c.requires.order, c.requires.high)) in
    block_from s c.args.first c.args.last c.loop-server.server _ at c.requires.low c.requires.order c.requires.high ((c.last_server-server-end.ensures.servers c.loop-server.server c.loop-server.auto.server).1 (omega arith))

pub loop-server-preserved : goal.loop-server-preserved
loop-server-preserved c =
    let s = single_of_item c.args.single.now in
    let u = c.loop-server.server in
    let at = period_at s c.args.needed.now c.args.first c.requires.within c.requires.needed c.requires.low (omega (arith, c.requires.order, c.requires.high)) in
    let block = block_from s c.args.first c.args.last u _ at c.requires.low c.requires.order c.requires.high ((c.last_server-server-end.ensures.servers u c.loop-server.auto.server).1 (omega arith)) in
    let inv = c.loop-server.invariant in
    let value = c.block_cost-in-loop-server.ensures.value in
    let new : Candidate = record { cost = c.args.before + c.block_cost-in-loop-server.result; block = record { first = c.args.first; last = c.args.last; server = u } } in
    let offer = offer_of s c.args.before c.args.first c.args.last c.loop-server.best new c.cheaper-best.result c.cheaper-best.ensures.either
    (record { block = inv.block; begins = inv.begins; ends = inv.ends; cost = inv.cost; small = inv.small })
    (record { block = block; begins = refl; ends = refl; cost = ap (λ x. c.args.before + x) value; small = omega (arith, c.block_cost-in-loop-server.ensures.small) }) in
    record {
      block = offer.block;
      begins = offer.begins;
      ends = offer.ends;
      cost = offer.cost;
      least = λ v low high. ⊎_elim
          (λ before. omega (arith, c.cheaper-best.ensures.least.0, inv.least v low before))
          (λ no. let e : v ≡ u = omega (arith, no, high) in omega (arith, c.cheaper-best.ensures.least.1, value, ap (λ k. block_cost s (record { first = c.args.first; last = c.args.last; server = k })) e))
          (cases_lt v u);
      small = offer.small;
    }

pub returns : goal.returns
returns c =
    let s = single_of_item c.args.single.now in
    let at = period_at s c.args.needed.now c.args.first c.requires.within c.requires.needed c.requires.low (omega (arith, c.requires.order, c.requires.high)) in
    let inv = c.loop-server.invariant in
    record {
      candidate = record {
        block = inv.block;
        begins = inv.begins;
        ends = inv.ends;
        cost = inv.cost;
        least = λ u may. inv.least u may.low (omega (arith, (c.last_server-server-end.ensures.servers u may.low).0 (subst (IsServer s u) (sym at.same) may)));
        small = inv.small;
      };
    }

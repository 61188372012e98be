use Rattle.std.proofs.Common.{refl, arith}
use Rattle.lot_sizing.specs.Problem.{Problem}
use Rattle.echelon.specs.Weights.{IsEchelonOf, weight_in}
use Rattle.echelon.specs.declared.net.EchelonItem.{EchelonItem}
use Rattle.echelon.proofs.Balances.{balanced_in, net_within}
use Rattle.echelon.proofs.Wholes.{asks_as, echelon_within}
use Rattle.echelon.proofs.whole.echelon_of.Goals as goal

abbrev made : goal.After-is_backlogged → EchelonItem
made c = record { item = c.args.item; demand = c.in_ok-demands_of.field-0; opening = c.opening_of.result; end_min = c.end_min_of.result; weights = c.in_ok-weights_of.field-0; backs = c.in_ok-backs_of.field-0; backlogged = c.is_backlogged.result }

abbrev problem : goal.After-is_backlogged → Problem
problem c = c.args.instance.now

is_echelon : (c : goal.After-is_backlogged) → IsEchelonOf c.args.instance.now (weight_in c.args.explosion.now) c.args.item (made c)
is_echelon c = record {
  item = refl;
  demand = c.in_ok-demands_of.ensures;
  opening = c.opening_of.ensures;
  end_min = c.end_min_of.ensures;
  weights = c.in_ok-weights_of.ensures;
  backs = c.in_ok-backs_of.ensures;
  backlogged = c.is_backlogged.ensures;
}

pub returns-clause-echelon : goal.returns-clause-echelon
returns-clause-echelon c = is_echelon c

pub returns-clause-asks : goal.returns-clause-asks
returns-clause-asks c = asks_as (problem c) (weight_in c.args.explosion.now) c.args.item (made c) (is_echelon c)

pub returns-clause-within : goal.returns-clause-within
returns-clause-within c =
    let explosion = c.requires.explosion in
    echelon_within (problem c) (weight_in c.args.explosion.now) c.args.item (made c) explosion.instance.limits c.requires.low c.requires.high (λ k low high. explosion.rows.small c.args.item k c.requires.low c.requires.high low high) (is_echelon c)

pub returns-clause-balances : goal.returns-clause-balances
returns-clause-balances c =
    let explosion = c.requires.explosion in
    let (rank, ranks) = explosion.instance.ranked in
    balanced_in (problem c) (weight_in c.args.explosion.now) rank c.args.item (made c) explosion.instance.limits.some_period explosion.rows.weights ranks c.requires.low c.requires.high c.requires.lead_free (is_echelon c)

pub returns-clause-net : goal.returns-clause-net
returns-clause-net c = λ total totals.
    let explosion = c.requires.explosion in
    let (rank, ranks) = explosion.instance.ranked in
    net_within (problem c) (weight_in c.args.explosion.now) rank total c.args.item (made c) explosion.instance.limits.some_period explosion.rows.weights ranks totals (λ j low high. (explosion.instance.limits.each_item j low high).ends) c.requires.low c.requires.high (is_echelon c)

pub returns-clause-net_small : goal.returns-clause-net_small
returns-clause-net_small c =
    let explosion = c.requires.explosion in
    let (total, totals, small) = explosion.instance.totals in
    let (rank, ranks) = explosion.instance.ranked in
    omega (arith, small c.args.item, net_within (problem c) (weight_in c.args.explosion.now) rank total c.args.item (made c) explosion.instance.limits.some_period explosion.rows.weights ranks totals (λ j low high. (explosion.instance.limits.each_item j low high).ends) c.requires.low c.requires.high (is_echelon c))

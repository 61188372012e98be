use Rattle.std.proofs.Common.{◌≡◌, ◌+◌, ◌*◌, ◌^◌, ◌<◌, ◌∙◌, ap, arith, length}
use Rattle.std.specs.Prelude.{pos}
use Rattle.std.proofs.lemmas.Int.{to_z_pos}
use mir.Syntax.{w128}
use Rattle.lot_sizing.specs.Sums.{sum_to}
use Rattle.lot_sizing.specs.Problem.{entry}
use Rattle.lot_sizing.specs.Net.{left_after, net_in}
use Rattle.echelon.specs.Views.{asked_of_echelon}
use Rattle.facility_form.proofs.Pricing.{held_is, worth_is}
use Rattle.facility_form.proofs.price_rows.right_of.Goals as goal

pub worth_of-worth-requires-clause-net : goal.worth_of-worth-requires-clause-net
worth_of-worth-requires-clause-net c = c.nets_are_small.ensures.net c.args.echelon.now c.requires.within c.args.net.now c.requires.net

pub held_of-held-requires-clause-left : goal.held_of-held-requires-clause-left
held_of-held-requires-clause-left c = c.nets_are_small.ensures.left c.args.echelon.now c.requires.within c.args.left.now c.requires.left

pub returns : goal.returns
returns c =
    let a = asked_of_echelon c.args.echelon.now in
    let T = length c.args.echelon.now.demand.items in
    let price = c.args.prices.now.price.items in
    let hold = c.args.prices.now.hold.items in
    let sum = c.worth_of-worth.result + c.held_of-held.result in
    let small : sum < 2 ^ 127 = omega (arith, c.worth_of-worth.ensures.small, c.held_of-held.ensures.small) in
    let is : sum ≡ sum_to T (λ t. net_in a t * entry price t) + sum_to T (λ t. entry hold t * left_after a t) = omega (
      arith,
      c.worth_of-worth.ensures.value,
      worth_is T (net_in a) c.args.net.now c.deref.result.now price c.deref.ensures.value c.requires.net,
      c.held_of-held.ensures.value,
      held_is T (left_after a) c.args.left.now c.deref-2.result.now hold c.deref-2.ensures.value c.requires.left,
    ) in
    to_z_pos w128 sum small ∙ ap pos is

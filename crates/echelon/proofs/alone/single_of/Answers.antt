use Rattle.std.proofs.Common.{◌≡◌, ◌∙◌, ap, refl, sym, subst, arith, length}
use Rattle.std.proofs.lemmas.List.{take_all}
use Rattle.lot_sizing.specs.Problem.{item_at}
use Rattle.lot_sizing.specs.Net.{IsSingleOf}
use Rattle.lot_sizing.specs.Single.{IsWithinBounds}
use Rattle.echelon.specs.Views.{single_in, single_of_item}
use Rattle.echelon.specs.declared.single.SingleItem.{SingleItem}
use Rattle.echelon.proofs.Singles.{is_single, net_is, within_bounds}
use Rattle.echelon.proofs.alone.single_of.Goals as goal

abbrev made : goal.After-drop-demands-2 → SingleItem
made c = record { net = c.in_ok-net.field-0.net; setup = c.in_ok-to_vec.field-0; unit = c.in_ok-to_vec-2.field-0; hold = c.in_ok-to_vec-3.field-0; back = c.in_ok-backlog_costs.field-0 }

same : (c : goal.After-drop-demands-2) → single_of_item (made c) ≡ single_in c.args.instance.now c.args.item
same c =
    let m = c.args.instance.now in
    let i = c.args.item in
    let list = c.demands-demand-items.ensures.value in
    let demands : c.deref.result.now ≡ (item_at m i).demand = c.deref.ensures.value ∙ c.loop-demand.invariant ∙ take_all c.loop-demand.demand-index (item_at m i).demand (omega (arith, ap length list, c.loop-demand-test.false)) in
    let nets = net_is m i c.deref.result.now c.in_ok-net.field-0.net.items c.from-opening.result c.from-end_min.result c.periods.ensures.instance.limits c.requires.low c.requires.high demands (c.from-opening.ensures ∙ c.opening.ensures.value) (c.from-end_min.ensures ∙ c.end_min.ensures.value) c.in_ok-net.ensures.net in
    let setup = c.in_ok-to_vec.ensures.items_if_clones_equal (λ x y h. h) ∙ c.setup_costs.ensures.value in
    let unit = c.in_ok-to_vec-2.ensures.items_if_clones_equal (λ x y h. h) ∙ c.unit_costs.ensures.value in
    let hold = c.in_ok-to_vec-3.ensures.items_if_clones_equal (λ x y h. h) ∙ c.hold_costs.ensures.value in
    rw (nets, setup, unit, hold, c.in_ok-backlog_costs.ensures) refl

pub returns-clause-single : goal.returns-clause-single
returns-clause-single c = same c

pub returns-clause-of_item : goal.returns-clause-of_item
returns-clause-of_item c = subst (IsSingleOf c.args.instance.now c.args.item) (sym (same c)) (is_single c.args.instance.now c.args.item)

pub returns-clause-within : goal.returns-clause-within
returns-clause-within c = subst IsWithinBounds (sym (same c)) (within_bounds c.args.instance.now c.args.item c.periods.ensures.instance.limits c.requires.low c.requires.high)

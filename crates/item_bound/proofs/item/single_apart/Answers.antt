use Rattle.std.proofs.Common.{◌∙◌, sym, subst}
use Rattle.lot_sizing.specs.Problem.{IsSeries, item_at}
use Rattle.lot_sizing.specs.declared.limits.TheConstants.{MAX_AMOUNT}
use Rattle.echelon_rows.specs.Rows.{echelon_in}
use Rattle.item_bound.specs.Apart.{held_apart, owed_apart}
use Rattle.item_bound.proofs.Own.{net_list, own_within, single_is}
use Rattle.item_bound.proofs.item.single_apart.Goals as goal

pub returns-clause-single : goal.returns-clause-single
returns-clause-single c =
    let m = c.args.instance.now in
    let i = c.args.item in
    let e = c.args.echelon.now in
    single_is (echelon_in e) _ _ _ _ _ (item_at m i).setup_cost (item_at m i).unit_cost (held_apart m i) (owed_apart m i)
    (net_list e c.in_ok-net.field-0.net.items c.in_ok-net.ensures.net)
    (c.in_ok-to_vec.ensures.items_if_clones_equal (λ x y h. h) ∙ c.setup_costs.ensures.value)
    (c.in_ok-to_vec-2.ensures.items_if_clones_equal (λ x y h. h) ∙ c.unit_costs.ensures.value)
    c.in_ok-held.ensures.own
    c.in_ok-owed_if.ensures.own

pub returns-clause-within : goal.returns-clause-within
returns-clause-within c =
    let m = c.args.instance.now in
    let e = c.args.echelon.now in
    own_within m c.args.item e _ c.requires c.in_ok-net.ensures.net
    (subst (IsSeries m.periods MAX_AMOUNT) (sym (c.in_ok-to_vec.ensures.items_if_clones_equal (λ x y h. h))) c.setup_costs.ensures.series)
    (subst (IsSeries m.periods MAX_AMOUNT) (sym (c.in_ok-to_vec-2.ensures.items_if_clones_equal (λ x y h. h))) c.unit_costs.ensures.series)
    c.in_ok-held.ensures.series
    c.in_ok-owed_if.ensures.series

use Rattle.std.proofs.Common.{◌≡◌, ◌-◌, ◌∙◌, ap, sym, subst, arith, [], ◌∷◌, ◌++◌}
use Rattle.lot_sizing.specs.Problem.{item_count}
use Rattle.lp_relaxation.specs.Names.{PutNames, end_name, names_to}
use Rattle.lp_relaxation.proofs.Listing.{end_put, put_names, put_none}
use Rattle.lp_relaxation.proofs.names.put_ends.Goals as goal

pub loop-item-init : goal.loop-item-init
loop-item-init c = put_none c.args.instance.now c.args.names.now.items

pub loop-item-preserved : goal.loop-item-preserved
loop-item-preserved c =
    let m = c.args.instance.now in
    let mid = c.loop-item.names.items in
    let name = end_name c.args.largest c.loop-item.item in
    let pushed : c.push.new.self.items ≡ mid ++ (name ∷ []) = c.in_ok-push.ensures.items ∙ ap (λ n. mid ++ (n ∷ [])) c.end_name.ensures in
    put_names m (end_name c.args.largest) c.loop-item.item c.args.names.now.items mid c.push.new.self.items c.loop-item.auto.item c.loop-item.invariant
    (subst (λ ns. PutNames m mid (name ∷ []) ns) (sym pushed) (end_put m c.args.largest c.loop-item.item mid))

pub returns : goal.returns
returns c =
    let e : c.loop-item.item - 1 ≡ item_count c.args.instance.now = omega (arith, c.loop-item-test.false, c.loop-item.auto.item-end, c.loop-item.auto.item, c.items-item-end.ensures.value) in
    subst (λ n. PutNames c.args.instance.now c.args.names.now.items (names_to n (end_name c.args.largest)) c.loop-item.names.items) e c.loop-item.invariant

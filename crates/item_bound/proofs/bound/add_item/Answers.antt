use Rattle.std.proofs.Common.{◌≤◌, ◌+◌, refl, sym, subst, ap}
use Rattle.std.specs.Prelude.{IfSome, IsNone}
use Rattle.lot_sizing.specs.declared.limits.TheConstants.{MAX_TOTAL}
use Rattle.echelon.specs.declared.net.EchelonItem.{EchelonItem}
use Rattle.echelon.specs.Views.{net_of_all}
use Rattle.echelon.specs.Weights.{weight_in}
use Rattle.cert_checker.specs.Cuts.{IsCutEchelon}
use Rattle.item_bound.proofs.Adding.{with_cut, without_cut}
use Rattle.item_bound.proofs.bound.add_item.Goals as goal

pub returns-in_default : goal.returns-in_default
returns-in_default c = without_cut c.args.instance.now c.args.item c.args.found.now c.requires.item (c.in_ok-echelon.ensures.none (subst IsNone (sym c.in_default.is) refl)) c.requires.before

pub own_cut-requires : goal.own_cut-requires
own_cut-requires c =
    let e = c.in-Some.echelon in
    let P = IsCutEchelon c.args.instance.now c.args.item in
    let Q = λ (a : EchelonItem). net_of_all a ≤ MAX_TOTAL in
    let has : P e = subst (λ found. IfSome found P) c.in-Some.is c.in_ok-echelon.ensures.some in
    let small : Q e = subst (λ found. IfSome found Q) c.in-Some.is c.in_ok-echelon.ensures.net in
    record { item = c.requires.item; echelon = has; net = small }

pub returns : goal.returns
returns c =
    let m = c.args.instance.now in
    let i = c.args.item in
    let instance = c.requires.explosion.instance in
    let (total, totals, few) = instance.totals in
    let P = IsCutEchelon m i in
    let has : P c.in-Some.echelon = subst (λ found. IfSome found P) c.in-Some.is c.in_ok-echelon.ensures.some in
    let own = c.in_ok-potentials.field-0 in
    with_cut m instance.limits total totals (weight_in c.args.explosion.now) c.requires.explosion.rows.weights i c.requires.item own.potentials own.row c.in_ok-potentials.ensures c.args.found.now _ has.lead_free c.requires.before
    (ap (λ k. c.args.found.now.amount + k) c.right_amount.ensures)
    c.in_ok-push.ensures.items c.in_ok-push-2.ensures.items

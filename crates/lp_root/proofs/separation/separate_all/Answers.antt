use Rattle.std.proofs.Common.{refl, subst}
use Rattle.lin_rows.specs.Points.{read_at}
use Rattle.lp_root.specs.RootSteps.{PutsItem}
use Rattle.lp_root.proofs.RootCuts.{items_next, items_passed, put_none}
use Rattle.lp_root.proofs.separation.separate_all.Goals as goal

pub loop-item-init : goal.loop-item-init
loop-item-init c = put_none c.args.instance.now _ c.args.list.now (λ weight are. refl)

pub returns-in-Some : goal.returns-in-Some
returns-in-Some c =
    let m = c.args.instance.now in
    let read = read_at c.args.point.now in
    let old = c.loop-item.list in
    let new = c.separate_item.new.list in
    items_passed m read c.loop-item.item c.in-Some.l c.args.list.now old new c.loop-item.invariant (subst (λ end. PutsItem m read c.loop-item.item end old new) c.in-Some.is c.in_ok-l.ensures)

pub loop-item-preserved : goal.loop-item-preserved
loop-item-preserved c =
    let m = c.args.instance.now in
    let read = read_at c.args.point.now in
    let old = c.loop-item.list in
    let new = c.separate_item.new.list in
    items_next m read c.loop-item.item c.args.list.now old new c.loop-item.auto.item c.loop-item.invariant (subst (λ end. PutsItem m read c.loop-item.item end old new) c.in_default.is c.in_ok-l.ensures)

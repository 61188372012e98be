use Rattle.std.proofs.Common.{refl}
use Rattle.lin_rows.specs.declared.prices.Potentials.{Potentials}
use Rattle.lin_rows.specs.Rows.{HoldsIn}
use Rattle.echelon.specs.Views.{single_of_item}
use Rattle.item_bound.proofs.Echelons.{at_plans, in_problem}
use Rattle.item_bound.proofs.Own.{is_own_cut, own_allowed, own_lists}
use Rattle.item_bound.proofs.item.own_cut.Goals as goal

pub returns-in-Ok : goal.returns-in-Ok
returns-in-Ok c =
    let m = c.args.instance.now in
    let i = c.args.item in
    let e = c.args.echelon.now in
    let a = c.in_ok-single.single in
    let s = single_of_item a in
    let p : Potentials = record { setup = a.setup; unit = a.unit; hold = a.hold; back = c.in_ok-back.back; steps = c.in_ok-found.found.potentials } in
    let lists = own_lists m i e s c.in_ok-back.back.items c.requires c.in_ok-single.ensures.single c.in_ok-single.ensures.within c.in_ok-back.ensures.own c.in_ok-back.ensures.series in
    let row = c.in-Ok.row in
    is_own_cut m i e c.requires p lists s c.in_ok-single.ensures.single c.in_ok-found.found c.in_ok-found.ensures.solution refl c.echelon_rows_are_one.ensures row c.in-Ok.ensures.allowed c.in-Ok.ensures.row
    (at_plans m i e c.requires.echelon (λ p. HoldsIn p row) c.in-Ok.ensures.holds)
    (in_problem m i e c.requires.echelon row.terms c.in-Ok.ensures.columns_exist)

pub want_of_memory-requires : goal.want_of_memory-requires
want_of_memory-requires c =
    let m = c.args.instance.now in
    let i = c.args.item in
    let e = c.args.echelon.now in
    let a = c.in_ok-single.single in
    let s = single_of_item a in
    let p : Potentials = record { setup = a.setup; unit = a.unit; hold = a.hold; back = c.in_ok-back.back; steps = c.in_ok-found.found.potentials } in
    let lists = own_lists m i e s c.in_ok-back.back.items c.requires c.in_ok-single.ensures.single c.in_ok-single.ensures.within c.in_ok-back.ensures.own c.in_ok-back.ensures.series in
    c.in-Err.ensures.allowed_is_made (own_allowed m i e c.requires p lists s c.in_ok-single.ensures.single c.in_ok-found.found c.in_ok-found.ensures.solution refl c.solutions_are_allowed.ensures)

use Rattle.std.proofs.Common.{arith, refl}
use Rattle.lin_rows.specs.Points.{read_at}
use Rattle.lp_root.specs.Rounds.{AreCutsAt}
use Rattle.lp_root.proofs.RootCuts.{as_long, find_put, put_none}
use Rattle.lp_root.proofs.separation.separate_at.Goals as goal

pub separate-requires-clause-high : goal.separate-requires-clause-high
separate-requires-clause-high c =
    let e = c.args.echelon.now in
    omega (arith, c.requires.high, as_long c.args.instance.now e.item e c.requires.echelon)

pub returns-in_ok-push-in-Ok-Some-2 : goal.returns-in_ok-push-in-Ok-Some-2
returns-in_ok-push-in-Ok-Some-2 c =
    find_put c.args.instance.now c.args.echelon.now (read_at c.args.point.now) c.args.l c.in-Ok-Some.chosen.items c.in_ok-row_of_set-in-Ok-Some.field-0 _ c.args.list.now _ refl
    (rw c.in-Ok-Some.field-0-is at c.in-Ok-Some.ensures.answer)
    (rw c.deref.ensures.value at c.in_ok-row_of_set-in-Ok-Some.ensures)
    c.in_ok-push-in-Ok-Some-2.ensures.items c.in_ok-push-in-Ok-Some.ensures.items

pub returns-in-Ok-None : goal.returns-in-Ok-None
returns-in-Ok-None c =
    let e = c.args.echelon.now in
    put_none c.args.instance.now (AreCutsAt e (read_at c.args.point.now) c.args.l) c.args.list.now (rw c.in-Ok-None.field-0-is at c.in-Ok-None.ensures.answer)

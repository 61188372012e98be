use Rattle.std.proofs.Common.{◌≡◌, ◌≤◌, ◌-◌, arith}
use Rattle.lin_rows.specs.Points.{read_at}
use Rattle.echelon_rows.specs.Rows.{Echelon, echelon_in}
use Rattle.ls_cuts.proofs.Fitting.{all_owed, nothing_owed, one_owed, step_of}
use Rattle.ls_cuts.proofs.backlogs.owed.Goals as goal

pub returns-then-not-echelon : goal.returns-then-not-echelon
returns-then-not-echelon c = nothing_owed c.args.echelon.now (read_at c.args.point.now) c.args.period c.from.result c.requires.within c.if-not-echelon.true c.from.ensures

pub returns-in-None : goal.returns-in-None
returns-in-None c = λ fits.
    let e : Echelon = echelon_in c.args.echelon.now in
    let high : c.loop-item.item ≤ e.items = omega arith in
    c.in-None.ensures (step_of e (read_at c.args.point.now) c.args.period c.loop-item.item c.loop-item.sum c.loop-item.auto.item high c.loop-item.invariant.value fits)

pub loop-item-preserved : goal.loop-item-preserved
loop-item-preserved c =
    let next = one_owed (echelon_in c.args.echelon.now) (read_at c.args.point.now) c.args.period c.loop-item.item c.loop-item.sum c.in-Some.next c.loop-item.auto.item c.loop-item.invariant.value c.loop-item.invariant.fits c.in-Some.ensures.0 c.in-Some.ensures.1 in
    record { value = next.0; fits = next.1 }

pub returns : goal.returns
returns c =
    let e : Echelon = echelon_in c.args.echelon.now in
    let last : c.loop-item.item - 1 ≡ e.items = omega arith in
    all_owed e (read_at c.args.point.now) c.args.period (c.loop-item.item - 1) c.loop-item.sum last c.loop-item.invariant.value c.loop-item.invariant.fits

use Rattle.std.proofs.Common.{◌≡◌, refl, subst, take}
use Rattle.std.proofs.lemmas.List.{take_all}
use mir.Facts.{to_z-of_z}
use mir.Val.{to_z, of_z}
use mir.Syntax.{w128}
use Rattle.lin_rows.specs.Sums.{EachHasRoom, FitsAdded, total_of}
use Rattle.std.specs.Prelude.{◌*ℤ◌}
use Rattle.lin_rows.proofs.Coefficients.{all_more}
use Rattle.lin_rows.proofs.adding.fits_added.Goals as goal

pub loop-place-preserved : goal.loop-place-preserved
loop-place-preserved c =
    let ts = c.args.terms.now in
    let k = c.loop-place.place in
    all_more (λ a. FitsAdded (total_of c.args.sums.now a.column) (to_z w128 (of_z w128 c.args.times) *ℤ a.times)) ts k c.loop-place-test.true c.loop-place.invariant (c.if-not-has_room_for_term.ensures.0 refl)

pub returns-clause-all : goal.returns-clause-all
returns-clause-all c = λ _.
    let e : to_z w128 (of_z w128 c.args.times) ≡ c.args.times = to_z-of_z c.ranges.times in
    let each : EachHasRoom c.args.sums.now (take c.loop-place.place c.args.terms.now) c.args.times = rw e at c.loop-place.invariant in
    subst (λ xs. EachHasRoom c.args.sums.now xs c.args.times) (take_all c.loop-place.place c.args.terms.now c.loop-place-test.false) each

use Rattle.std.proofs.Common.{◌≡◌, ◌-◌, suc, ap, arith, slice_index_or, length}
use Rattle.lot_sizing.specs.Problem.{entry}
use Rattle.lot_sizing.proofs.Sums.{sum_to-front}
use Rattle.facility_form.proofs.assignment.sums_asked.Goals as goal

pub overflow_add-sum : goal.overflow_add-sum
overflow_add-sum c =
    let t = c.loop-place.place in
    let e : suc t - 1 ≡ t = omega arith in
    omega (arith, c.requires.small, c.loop-place.invariant.sum, sum_to-front (suc t) (length c.args.net.now) (entry c.args.net.now) (omega arith), ap (λ k. slice_index_or c.args.net.now k 0) e)

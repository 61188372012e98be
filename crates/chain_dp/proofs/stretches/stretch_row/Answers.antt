use Rattle.std.proofs.Common.{◌<◌, ◌+◌, ◌∙◌, sym, ap, subst, length}
use Rattle.chain_dp.specs.Numbers.{IsLeastOf}
use Rattle.chain_dp.specs.Lists.{at}
use Rattle.chain_dp.specs.Tables.{IsStretchRow, step_cost}
use Rattle.chain_dp.proofs.Pushed.{pushed_length, stretch_pushed}
use Rattle.chain_dp.proofs.stretches.stretch_row.Goals as goal

pub loop-lot-preserved : goal.loop-lot-preserved
loop-lot-preserved c =
    let level = c.args.level.now in
    let first = c.args.first in
    let xs = c.loop-lot.cells.items in
    let x = c.stretch_entry-entry.result in
    let n = c.loop-lot.lot in
    let next = subst (λ ys. first < n → IsLeastOf first n (λ w. step_cost ys level n w + at level.setup_cost.items n) x) c.deref.ensures.value c.stretch_entry-entry.ensures.next in
    let row = stretch_pushed level first n x xs c.loop-lot.invariant.size c.loop-lot.invariant.row c.stretch_entry-entry.ensures.none next in
    record {
      size = ap length c.in_ok-push.ensures.items ∙ pushed_length xs x n c.loop-lot.invariant.size;
      row = subst (IsStretchRow level first) (sym c.in_ok-push.ensures.items) row;
    }

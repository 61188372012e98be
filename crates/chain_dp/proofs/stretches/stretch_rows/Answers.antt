use Rattle.std.proofs.Common.{◌≡◌, ◌∙◌, sym, ap, subst, arith, length, []}
use Rattle.chain_dp.specs.Lists.{AreWide}
use Rattle.chain_dp.specs.Tables.{AreStretches, IsStretchRow}
use Rattle.chain_dp.proofs.Pushed.{each_pushed, pushed_length}
use Rattle.chain_dp.proofs.stretches.stretch_rows.Goals as goal

pub loop-first-preserved : goal.loop-first-preserved
loop-first-preserved c =
    let level = c.args.level.now in
    let xs = c.loop-first.rows.items in
    let x = c.in_ok-stretch_row.field-0 in
    let n = c.loop-first.first in
    let inv = c.loop-first.invariant in
    let e = c.in_ok-push.ensures.items in
    let size = pushed_length xs x n inv.size in
    record {
      size = ap length e ∙ size;
      wide = subst (AreWide (length level.asked.items)) (sym e) (λ v h. each_pushed (λ k row. length row ≡ length level.asked.items) xs x [] n inv.size (λ k low. inv.wide k (omega (arith, low, inv.size))) c.in_ok-stretch_row.ensures.length v (omega (arith, h, size)));
      rows = subst (AreStretches level) (sym e) (λ v h. each_pushed (λ k row. IsStretchRow level k row) xs x [] n inv.size (λ k low. inv.rows k (omega (arith, low, inv.size))) c.in_ok-stretch_row.ensures.row v (omega (arith, h, size)));
    }

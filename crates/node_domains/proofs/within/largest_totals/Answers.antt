use Rattle.std.proofs.Common.{◌∙◌, arith}
use Rattle.node_domains.proofs.Filled.{totals_filled}
use Rattle.node_domains.proofs.within.largest_totals.Goals as goal

pub loop-item-preserved : goal.loop-item-preserved
loop-item-preserved c =
    let before = c.loop-item.invariant in
    let m = c.args.instance.now in
    record {
      fits = record { items = c.set_row.ensures.items ∙ before.fits.items; periods = c.set_row.ensures.periods ∙ before.fits.periods };
      totals = λ total totals.
          totals_filled m c.loop-item.grid c.set_row.new.grid c.loop-item.item c.largest_total.result total (omega (arith, c.loop-item-test.true, c.items-item-end.ensures.value)) before.fits (c.largest_total.ensures.all total totals) c.set_row.ensures.others c.set_row.ensures.here (before.totals total totals);
    }

pub returns-clause-totals : goal.returns-clause-totals
returns-clause-totals c = λ total totals i t low high t_low t_high.
    c.loop-item.invariant.totals total totals i t low (omega (arith, high, c.loop-item-test.false, c.loop-item.auto.item-end, c.items-item-end.ensures.value)) t_low t_high

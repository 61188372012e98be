use Rattle.std.proofs.Common.{arith, ◌∙◌, ◌+◌, ◌-◌, ◌*◌, ap}
use Rattle.node_domains.proofs.Filled.{row_filled}
use Rattle.node_domains.proofs.places.least_grid.Goals as goal

pub loop-item-preserved : goal.loop-item-preserved
loop-item-preserved c =
    let before = c.loop-item.invariant in
    let m = c.args.instance.now in
    record {
      fits = record { items = c.set_least.ensures.items ∙ before.fits.items; periods = c.set_least.ensures.periods ∙ before.fits.periods };
      least = row_filled m c.loop-item.grid c.set_least.new.grid c.args.ranges.now c.args.first c.loop-item.item (c.args.first + (c.loop-item.item - 1) * c.periods-periods.result) (omega arith) (omega (arith, c.loop-item-test.true, c.items-item-end.ensures.value)) before.fits (ap (λ n. c.args.first + (c.loop-item.item - 1) * n) c.periods-periods.ensures.value) c.set_least.ensures.others c.set_least.ensures.here before.least;
    }

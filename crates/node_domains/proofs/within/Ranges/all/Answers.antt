use Rattle.node_domains.proofs.Cells.{filled_given, filled_whole}
use Rattle.node_domains.proofs.within.Ranges.all.Goals as goal

pub returns-clause-given : goal.returns-clause-given
returns-clause-given c =
    filled_given c.args.instance.now _ c.items-items.result c.periods-periods.result (record {
      low = c.in_ok-low.ensures;
      setup_low = c.in_ok-setup_low.ensures;
      setup_high = c.in_ok-setup_high.ensures;
      high = c.in_ok-high.ensures.fits;
      totals = c.in_ok-high.ensures.totals;
      items = c.items-items.ensures.value;
      periods = c.periods-periods.ensures.value;
    })

pub returns-clause-whole : goal.returns-clause-whole
returns-clause-whole c =
    filled_whole c.args.instance.now _ c.items-items.result c.periods-periods.result (record {
      low = c.in_ok-low.ensures;
      setup_low = c.in_ok-setup_low.ensures;
      setup_high = c.in_ok-setup_high.ensures;
      high = c.in_ok-high.ensures.fits;
      totals = c.in_ok-high.ensures.totals;
      items = c.items-items.ensures.value;
      periods = c.periods-periods.ensures.value;
    })

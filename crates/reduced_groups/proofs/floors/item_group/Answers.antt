use Rattle.must_start.specs.Rows.{start_in}
use Rattle.reduced_groups.specs.Prices.{price_in}
use Rattle.reduced_groups.proofs.Found.{item_known}
use Rattle.reduced_groups.proofs.floors.item_group.Goals as goal

pub returns-in-Ok-clause-floor : goal.returns-in-Ok-clause-floor
returns-in-Ok-clause-floor c =
    let (rank, ranks) = c.an_instance_breaks_no_rule.ensures.ranked in
    item_known c.args.given.instance.now rank (start_in c.args.given.started.now) (price_in c.args.given.prices.now) c.must_start_holds.ensures.one ranks c.requires.started.starts c.args.item c.in-Ok.cost (c.requires.low, c.requires.high) c.in-Ok.ensures.least

use Rattle.std.proofs.Common.{◌≡◌, true, rules}
use Rattle.std.specs.Result.{is_ok}
use Rattle.report.proofs.Lists.{pushed}
use Rattle.report.proofs.summing.item_values.Goals as goal

pub loop-item-preserved : goal.loop-item-preserved
loop-item-preserved c =
    let good : is_ok c.push.result ≡ true = search rules in
    let items = rw good at c.push.ensures.items in
    rw items (pushed c.loop-item.list.items c.in_ok-item_value.field-0 c.loop-item.item _ c.loop-item.auto.item c.loop-item.invariant c.in_ok-item_value.ensures)

use Rattle.std.proofs.Common.{◌≡◌, true, rules}
use Rattle.std.specs.Result.{is_ok}
use Rattle.report.proofs.Lists.{pushed}
use Rattle.report.proofs.summing.resource_values.Goals as goal

pub loop-resource-preserved : goal.loop-resource-preserved
loop-resource-preserved c =
    let good : is_ok c.push.result ≡ true = search rules in
    let items = rw good at c.push.ensures.items in
    rw items (pushed c.loop-resource.list.items c.in_ok-resource_value.field-0 c.loop-resource.resource _ c.loop-resource.auto.resource c.loop-resource.invariant c.in_ok-resource_value.ensures)

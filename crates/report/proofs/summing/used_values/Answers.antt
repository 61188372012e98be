use Rattle.std.proofs.Common.{◌≡◌, ◌∙◌, ap, true, rules}
use Rattle.std.specs.Result.{is_ok}
use Rattle.report.specs.Summary.{amount}
use Rattle.report.proofs.Lists.{pushed}
use Rattle.report.proofs.summing.used_values.Goals as goal

pub loop-period-preserved : goal.loop-period-preserved
loop-period-preserved c =
    let good : is_ok c.push.result ≡ true = search rules in
    let items = rw good at c.push.ensures.items in
    rw items (pushed c.loop-period.list.items c.in_ok-amount.field-0 c.loop-period.period _ c.loop-period.auto.period c.loop-period.invariant (c.in_ok-amount.ensures ∙ ap amount c.time_used.ensures.value))

use Rattle.std.proofs.Common.{◌≡◌, ◌-◌, arith}
use Rattle.plan_page.proofs.totals.item_parts.Goals as goal

pub returns-clause-parts : goal.returns-clause-parts
returns-clause-parts c =
    let end : c.loop-period.period - 1 ≡ c.args.instance.now.periods = omega (arith, c.loop-period-test.false, c.loop-period.auto.period-end, c.loop-period.auto.period, c.periods-period-end.ensures.value) in
    let all = c.loop-period.invariant in
    record {
      unit = rw end at all.unit;
      setup = rw end at all.setup;
      hold = rw end at all.hold;
      backlog = rw end at all.backlog;
    }

use Rattle.std.proofs.Common.{◌≡◌, ◌-◌, arith}
use Rattle.report.proofs.summing.item_totals.Goals as goal

pub returns : goal.returns
returns c =
    let end : c.loop-period.period - 1 ≡ c.args.instance.now.periods = omega (arith, c.loop-period-test.false, c.loop-period.auto.period-end, c.loop-period.auto.period, c.periods-period-end.ensures.value) in
    let all = c.loop-period.invariant in
    record {
      backlog = rw end at all.backlog;
      hold = rw end at all.hold;
      made = rw end at all.made;
      setup = rw end at all.setup;
      setups = rw end at all.setups;
      unit = rw end at all.unit;
    }

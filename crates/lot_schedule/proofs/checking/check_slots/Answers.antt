use Rattle.std.proofs.Common.{arith}
use Rattle.plan_rules.specs.Held.{plan_of}
use Rattle.lot_schedule.proofs.Checked.{good_next}
use Rattle.lot_schedule.proofs.checking.check_slots.Goals as goal

pub loop-place-preserved : goal.loop-place-preserved
loop-place-preserved c = record {
  run = c.next_run-run.ensures;
  good = good_next c.args.instance.now (plan_of c.args.plan.now) c.args.slots.now c.loop-place.place c.loop-place.invariant.good c.in_ok-check_slot.ensures.good;
}

pub returns-clause-good : goal.returns-clause-good
returns-clause-good c = λ o less. c.loop-place.invariant.good o (omega (arith, less, c.loop-place-test.false))

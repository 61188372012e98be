use Rattle.plan_rules.specs.Held.{plan_of}
use Rattle.lot_schedule.proofs.Checked.{schedule_of}
use Rattle.lot_schedule.proofs.checking.check_schedule.Goals as goal

pub returns-clause-schedule : goal.returns-clause-schedule
returns-clause-schedule c = schedule_of c.args.instance.now (plan_of c.args.plan.now) c.args.slots.now c.requires.exist c.in_ok-check_slots.ensures.good c.in_ok-check_all.ensures.all

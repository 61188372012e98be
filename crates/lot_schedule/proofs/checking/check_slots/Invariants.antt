use Rattle.lot_schedule.specs.Faults.{AreGoodBefore}
use Rattle.lot_schedule.specs.Runs.{IsRun}
use Rattle.plan_rules.specs.Held.{plan_of}
use Rattle.lot_schedule.proofs.checking.check_slots.Given as goal

abbrev pub invariant-loop-place : goal.invariant-loop-place
invariant-loop-place l = record { run : IsRun l.slots l.run l.place; good : AreGoodBefore l.instance (plan_of l.plan) l.slots l.place }

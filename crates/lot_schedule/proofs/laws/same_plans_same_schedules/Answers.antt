use Rattle.lot_schedule.proofs.Alike.{schedule_same}
use Rattle.lot_schedule.proofs.laws.same_plans_same_schedules.Goals as goal

pub returns : goal.returns
returns c = schedule_same

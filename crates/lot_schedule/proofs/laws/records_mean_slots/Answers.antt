use Rattle.lot_schedule.proofs.Readings.{slots_or_fault}
use Rattle.lot_schedule.proofs.laws.records_mean_slots.Goals as goal

pub returns : goal.returns
returns c = slots_or_fault

use Rattle.lot_schedule.proofs.Meanings.{one_meaning}
use Rattle.lot_schedule.proofs.laws.records_mean_one_thing.Goals as goal

pub returns : goal.returns
returns c = one_meaning

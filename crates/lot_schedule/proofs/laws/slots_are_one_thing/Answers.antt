use Rattle.lot_schedule.proofs.Findings.{one_thing}
use Rattle.lot_schedule.proofs.laws.slots_are_one_thing.Goals as goal

pub returns : goal.returns
returns c = one_thing

use Rattle.lotplan.proofs.Schedchecked.{decided}
use Rattle.lotplan.proofs.laws.schedules_are_decided.Goals as goal

pub returns : goal.returns
returns c = decided c.records_mean_one_thing.ensures c.records_mean_slots.ensures c.slots_are_judged.ensures

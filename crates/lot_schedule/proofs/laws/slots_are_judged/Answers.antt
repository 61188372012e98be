use Rattle.lot_schedule.proofs.Verdicts.{slots_judged}
use Rattle.lot_schedule.proofs.laws.slots_are_judged.Goals as goal

pub returns : goal.returns
returns c = slots_judged

use Rattle.report.proofs.Parts.{add_up}
use Rattle.report.proofs.summing.parts_add_up.Goals as goal

pub returns : goal.returns
returns c = add_up

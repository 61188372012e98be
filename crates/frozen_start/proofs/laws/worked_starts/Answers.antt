use Rattle.frozen_start.proofs.Examples as worked
use Rattle.frozen_start.proofs.laws.worked_starts.Goals as goal

pub returns : goal.returns
returns c = (worked.late, worked.set, worked.row)

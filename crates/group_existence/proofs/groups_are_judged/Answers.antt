use Rattle.group_existence.proofs.Judged.{groups_judged, work_judged}
use Rattle.group_existence.proofs.groups_are_judged.Goals as goal

pub returns-clause-apart : goal.returns-clause-apart
returns-clause-apart c = groups_judged

pub returns-clause-work : goal.returns-clause-work
returns-clause-work c = work_judged

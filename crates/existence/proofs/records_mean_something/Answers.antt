use Rattle.existence.proofs.Records.{records_some}
use Rattle.existence.proofs.records_mean_something.Goals as goal

pub returns : goal.returns
returns c = records_some

use Rattle.plan_file.proofs.Meanings.{means_one}
use Rattle.plan_file.proofs.laws.records_mean_one_thing.Goals as goal

pub returns : goal.returns
returns c = means_one

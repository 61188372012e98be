use Rattle.existence.proofs.Bytes.{bytes_some}
use Rattle.existence.proofs.bytes_mean_something.Goals as goal

pub returns : goal.returns
returns c = bytes_some c.a_model_means_something.ensures

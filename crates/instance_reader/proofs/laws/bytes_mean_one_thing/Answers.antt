use Rattle.instance_reader.proofs.Meanings.{bytes_one}
use Rattle.instance_reader.proofs.laws.bytes_mean_one_thing.Goals as goal

pub returns : goal.returns
returns c = bytes_one

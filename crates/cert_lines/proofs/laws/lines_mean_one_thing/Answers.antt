use Rattle.cert_lines.proofs.Alike.{one_value}
use Rattle.cert_lines.proofs.laws.lines_mean_one_thing.Goals as goal

pub returns : goal.returns
returns c = one_value

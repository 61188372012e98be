use Rattle.cert_lines.proofs.Heads.{one_head}
use Rattle.cert_lines.proofs.laws.heads_mean_one_thing.Goals as goal

pub returns : goal.returns
returns c = one_head

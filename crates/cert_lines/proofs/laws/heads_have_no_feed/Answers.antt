use Rattle.cert_lines.proofs.Heads.{head_plain}
use Rattle.cert_lines.proofs.laws.heads_have_no_feed.Goals as goal

pub returns : goal.returns
returns c = head_plain

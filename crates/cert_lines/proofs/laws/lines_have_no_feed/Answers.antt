use Rattle.cert_lines.proofs.Feeds.{line_plain}
use Rattle.cert_lines.proofs.laws.lines_have_no_feed.Goals as goal

pub returns : goal.returns
returns c = line_plain

use Rattle.std.proofs.Common.{take}
use Rattle.cert_lines.specs.Text.{HasNoFeed}
use Rattle.cert_stream.proofs.lines.before_feed.Given as goal

abbrev pub invariant-loop-at : goal.invariant-loop-at
invariant-loop-at l = HasNoFeed (take l.at l.bytes)

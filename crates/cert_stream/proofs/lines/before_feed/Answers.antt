use Rattle.certificate.proofs.Feeds.{feed_more}
use Rattle.cert_stream.proofs.lines.before_feed.Goals as goal

pub loop-at-preserved : goal.loop-at-preserved
loop-at-preserved c = feed_more c.args.bytes.now c.loop-at.at c.loop-at-test.true c.if-byte-eq10.false c.loop-at.invariant

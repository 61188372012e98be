use Rattle.certificate.proofs.Feeds.{feed_more}
use Rattle.certificate.proofs.rest.split_line.Goals as goal

pub loop-at-preserved : goal.loop-at-preserved
loop-at-preserved c = feed_more c.args.text.now c.loop-at.at c.loop-at-test.true c.if-byte-eq10.false c.loop-at.invariant

use Rattle.std.proofs.Common.{◌+◌, ap, arith, refl}
use Rattle.std.specs.Prelude.{slice_range}
use Rattle.cert_stream.specs.declared.lines.LineReader.{LineReader}
use Rattle.cert_stream.proofs.Filling.{feed_found, too_many_found}
use Rattle.cert_stream.proofs.lines.LineReader.take_bytes.Goals as goal

pub returns-then-len-count-gt-MAX_LINE-clause-found : goal.returns-then-len-count-gt-MAX_LINE-clause-found
returns-then-len-count-gt-MAX_LINE-clause-found c =
    let a = c.args.self.now in
    too_many_found a a (slice_range c.deref.result.now a.start a.end) c.before_feed-count.result (ap (λ xs. slice_range xs a.start a.end) c.deref.ensures.value) c.before_feed-count.ensures.bound c.before_feed-count.ensures.plain (omega arith)

pub returns-then-ended-clause-found : goal.returns-then-ended-clause-found
returns-then-ended-clause-found c =
    let a = c.args.self.now in
    let b : LineReader = record a { start = a.start + (c.before_feed-count.result + 1); line = c.extend_from_slice.new.self } in
    feed_found a b (slice_range c.deref.result.now a.start a.end) c.before_feed-count.result c.requires.sound (ap (λ xs. slice_range xs a.start a.end) c.deref.ensures.value) (omega arith) c.before_feed-count.ensures.plain (c.before_feed-count.ensures.feed (omega arith)) (omega arith) refl refl refl c.in_ok-extend_from_slice.ensures.items

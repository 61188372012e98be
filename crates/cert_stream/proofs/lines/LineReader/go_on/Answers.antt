use Rattle.std.proofs.Common.{◌<◌, ap, arith, length, subst}
use Rattle.cert_stream.specs.declared.lines.Found.TheVariants.{NoFeed}
use Rattle.cert_stream.specs.Reader.{IsFound, text_from}
use Rattle.cert_stream.proofs.Filling.{begun_on, begun_same, fed, grown, same_text, too_many}
use Rattle.cert_stream.proofs.lines.LineReader.go_on.Goals as goal

pub returns-in-Feed-clause-next : goal.returns-in-Feed-clause-next
returns-in-Feed-clause-next g c = λ told.
    let a = c.args.self.now in
    let m = c.has_more.new.self in
    let b = c.take_bytes.new.self in
    let shelf = g.S.Shelf.shown c.has_more.new.shelf in
    let name = c.args.name.now in
    let text = same_text (g.S.Shelf.shown c.args.shelf.now) shelf name a m c.in_ok-has_more.ensures.line (c.in_ok-has_more.ensures.rest told) in
    fed shelf name m b (text_from (g.S.Shelf.shown c.args.shelf.now) name a) text (begun_same a m c.in_ok-has_more.ensures.line c.requires.begun) c.in_ok-take_bytes.ensures.kept (subst (λ f. IsFound f m b) c.in-Feed.is c.in_ok-take_bytes.ensures.found)

pub returns-in-NoFeed-clause-begun : goal.returns-in-NoFeed-clause-begun
returns-in-NoFeed-clause-begun g c = λ _.
    let a = c.args.self.now in
    let m = c.has_more.new.self in
    let b = c.take_bytes.new.self in
    let found : IsFound NoFeed m b = subst (λ f. IsFound f m b) c.in-NoFeed.is c.in_ok-take_bytes.ensures.found in
    let some : m.start < m.end = c.in_ok-has_more.ensures.more c.if-not-branch.false in
    let more : length m.line.items < length b.line.items = grown m b c.in_ok-has_more.ensures.sound some found in
    (begun_on m b (begun_same a m c.in_ok-has_more.ensures.line c.requires.begun) found, omega (arith, more, ap (λ v. length v.items) c.in_ok-has_more.ensures.line))

pub returns-in-TooMany-clause-next : goal.returns-in-TooMany-clause-next
returns-in-TooMany-clause-next g c = λ told.
    let a = c.args.self.now in
    let m = c.has_more.new.self in
    let shelf = g.S.Shelf.shown c.has_more.new.shelf in
    let name = c.args.name.now in
    let text = same_text (g.S.Shelf.shown c.args.shelf.now) shelf name a m c.in_ok-has_more.ensures.line (c.in_ok-has_more.ensures.rest told) in
    too_many shelf name m c.take_bytes.new.self (text_from (g.S.Shelf.shown c.args.shelf.now) name a) text (begun_same a m c.in_ok-has_more.ensures.line c.requires.begun) (subst (λ f. IsFound f m c.take_bytes.new.self) c.in-TooMany.is c.in_ok-take_bytes.ensures.found)

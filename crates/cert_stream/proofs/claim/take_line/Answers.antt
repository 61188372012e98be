use Rattle.certificate.specs.Stacks.{dues_in}
use Rattle.cert_stream.specs.Reader.{rest_in}
use Rattle.cert_stream.proofs.Taken.{one_taken}
use Rattle.cert_stream.proofs.claim.take_line.Goals as goal

pub returns-in-Ok-clause-step : goal.returns-in-Ok-clause-step
returns-in-Ok-clause-step g c = λ told.
    let name = c.args.name.now in
    let a = c.args.reader.now in
    let b = c.next_value.new.reader in
    one_taken c.args.version c.in_ok-line.field-0 c.in-Line.line a b (dues_in c.args.dues.now) (dues_in c.take.new.self) (rest_in (g.S.Shelf.shown c.args.shelf.now) name a) (rest_in (g.S.Shelf.shown c.next_value.new.shelf) name b) c.in-Line.is (c.in_ok-line.ensures.value told) c.in_ok-line.ensures.given c.in-Ok.ensures.taken

use Rattle.certificate.specs.Values.{body_values, values_text}
use Rattle.cert_stream.specs.Reader.{rest_in}
use Rattle.stream_check.proofs.Heads.{certificate_heads, heads_given, heads_in}
use Rattle.stream_check.proofs.pass.read_first.Goals as goal

pub returns-in-Ok-clause-awaited : goal.returns-in-Ok-clause-awaited
returns-in-Ok-clause-awaited g c = λ s told is.
    let rest = rest_in (g.S.Shelf.shown c.args.shelf.now) c.args.name.now c.args.reader.now in
    let given = (rw c.in-Ok.is at c.in_ok-heads.ensures.awaited) told (heads_in s) (values_text (body_values s)) (certificate_heads rest s is) is.text in
    heads_given s c.in-Ok.heads (g.S.Shelf.shown c.args.shelf.now) (g.S.Shelf.shown c.read_heads.new.shelf) c.args.name.now rest c.read_heads.new.reader c.read_heads.ensures.reads told is given.0 given.1

pub returns-in-Err-clause-awaited : goal.returns-in-Err-clause-awaited
returns-in-Err-clause-awaited g c = λ s told is.
    let rest = rest_in (g.S.Shelf.shown c.args.shelf.now) c.args.name.now c.args.reader.now in
    (rw c.in-Err.is at c.in_ok-heads.ensures.awaited) told (heads_in s) (values_text (body_values s)) (certificate_heads rest s is) is.text

use Rattle.std.proofs.Common.{◌+◌, arith, refl}
use Rattle.std.specs.Vec.{with_items}
use Rattle.std.proofs.lemmas.List.{with_items_is}
use Rattle.cert_stream.specs.declared.lines.LineReader.{LineReader}
use Rattle.cert_stream.proofs.Pieces.{fetched_rest}
use Rattle.cert_stream.proofs.lines.LineReader.fill.Goals as goal

pub returns-clause-rest : goal.returns-clause-rest
returns-clause-rest g c = λ told.
    let a = c.args.self.now in
    let room = c.fetch.new.room in
    let b : LineReader = record a { room = with_items a.room room; start = 0; end = c.in-Ok.count; at = a.at + c.in-Ok.count } in
    let f = c.in-Ok.ensures.bytes told in
    fetched_rest c.args.name.now (g.S.Shelf.shown c.args.shelf.now) (g.S.Shelf.shown c.fetch.new.self) a b f.0 room c.in-Ok.count c.fetch.ensures.reads f.1 f.2 (with_items_is a.room room (omega arith)) c.requires.given refl refl refl

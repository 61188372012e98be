use Rattle.std.proofs.Common.{IsTrue, subst}
use Rattle.cert_lines.specs.declared.head.HeadLine.{HeadLine}
use Rattle.certificate.specs.Faults.{StartsWithHead}
use Rattle.cert_stream.specs.Reader.{IsNext, rest_in}
use Rattle.cert_stream.proofs.Starts.{awaited_head, head_value, none_whole}
use Rattle.cert_stream.proofs.values.next_head.Goals as goal

pub returns-in-Line-clause-head : goal.returns-in-Line-clause-head
returns-in-Line-clause-head g c = λ told.
    let text = rest_in (g.S.Shelf.shown c.args.shelf.now) c.args.name.now c.args.reader.now in
    let rest = rest_in (g.S.Shelf.shown c.next_line.new.shelf) c.args.name.now c.next_line.new.self in
    let line = c.next_line.new.self.line.items in
    head_value c.args.place c.read_head.result text line c.deref.result.now rest (subst (λ v. IsNext v line text rest) c.in-Line.is (c.in_ok-next_line.ensures.next told)) c.deref.ensures.value c.read_head.ensures.some c.read_head.ensures.none

pub returns-in-Line-clause-awaited : goal.returns-in-Line-clause-awaited
returns-in-Line-clause-awaited g c = λ told.
    let text = rest_in (g.S.Shelf.shown c.args.shelf.now) c.args.name.now c.args.reader.now in
    let rest = rest_in (g.S.Shelf.shown c.next_line.new.shelf) c.args.name.now c.next_line.new.self in
    awaited_head c.args.place c.read_head.result c.deref.result.now text rest (returns-in-Line-clause-head g c told) c.read_head.ensures.some

pub returns-in_default : goal.returns-in_default
returns-in_default g c =
    let text = rest_in (g.S.Shelf.shown c.args.shelf.now) c.args.name.now c.args.reader.now in
    let rest = rest_in (g.S.Shelf.shown c.next_line.new.shelf) c.args.name.now c.next_line.new.self in
    let none : IsTrue (g.S.Shelf.shown c.args.shelf.now).told → (h : HeadLine) → StartsWithHead c.args.place text h → ⊥ = λ told. none_whole c.args.place c.in_ok-next_line.field-0 text c.next_line.new.self.line.items rest c.in_default.not-Line (c.in_ok-next_line.ensures.next told) in
    record {
      sound = c.in_ok-next_line.ensures.sound;
      head = none;
      given = tt;
      awaited = λ told h more form e. absurd (none told h (record { rest = more; text = e; line = form }));
      goes_on = c.in_ok-next_line.ensures.goes_on;
      broken = tt;
      reads = c.next_line.ensures.reads;
    }

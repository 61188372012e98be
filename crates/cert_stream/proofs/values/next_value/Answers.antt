use Rattle.std.proofs.Common.{◌++◌, ◌∙◌, ap, subst, sym}
use Rattle.std.specs.Prelude.{Err}
use Rattle.cert_lines.specs.Text.{line_text}
use Rattle.cert_lines.specs.Line.{HasLine, IsLine}
use Rattle.cert_lines.specs.Shapes.{line_shape}
use Rattle.cert_stream.specs.declared.lines.Next.TheVariants.{Line}
use Rattle.cert_stream.specs.Reader.{IsNext, rest_in}
use Rattle.cert_stream.proofs.Starts.{awaited_line, formless, none_awaited, overlong, unended}
use Rattle.cert_stream.proofs.values.next_value.Goals as goal

pub returns-in-Ok-clause-awaited : goal.returns-in-Ok-clause-awaited
returns-in-Ok-clause-awaited g c = λ told l more line e.
    let text = rest_in (g.S.Shelf.shown c.args.shelf.now) c.args.name.now c.args.reader.now in
    let rest = rest_in (g.S.Shelf.shown c.next_line.new.shelf) c.args.name.now c.next_line.new.self in
    let items = c.next_line.new.self.line.items in
    let is : IsNext Line items text rest = subst (λ v. IsNext v items text rest) c.in-Line.is (c.in_ok-next_line.ensures.next told) in
    let value = c.in-Ok.ensures.value in
    let form : HasLine c.args.version (line_shape c.in-Ok.line) = subst (λ t. IsLine c.args.version t (line_shape c.in-Ok.line)) value.text value in
    awaited_line c.args.version text (line_shape c.in-Ok.line) l rest more (is.0 ∙ ap (λ t. line_text t ++ rest) (sym c.deref.ensures.value ∙ value.text)) form line e

pub returns-in-Err-NoForm-clause-value : goal.returns-in-Err-NoForm-clause-value
returns-in-Err-NoForm-clause-value g c = λ told.
    let text = rest_in (g.S.Shelf.shown c.args.shelf.now) c.args.name.now c.args.reader.now in
    let rest = rest_in (g.S.Shelf.shown c.next_line.new.shelf) c.args.name.now c.next_line.new.self in
    let items = c.next_line.new.self.line.items in
    let none = c.in-Err-NoForm.ensures.no_form (ap Err c.in-Err-NoForm.field-0-is) in
    formless c.args.version text items rest (subst (λ v. IsNext v items text rest) c.in-Line.is (c.in_ok-next_line.ensures.next told)) (λ l is. none l (subst (λ t. IsLine c.args.version t l) (sym c.deref.ensures.value) is))

pub returns-in-Err-NoForm-clause-awaited : goal.returns-in-Err-NoForm-clause-awaited
returns-in-Err-NoForm-clause-awaited g c = λ told. none_awaited c.args.version (rest_in (g.S.Shelf.shown c.args.shelf.now) c.args.name.now c.args.reader.now) (returns-in-Err-NoForm-clause-value g c told)

pub returns-in-Unended-clause-value : goal.returns-in-Unended-clause-value
returns-in-Unended-clause-value g c = λ told.
    let text = rest_in (g.S.Shelf.shown c.args.shelf.now) c.args.name.now c.args.reader.now in
    let rest = rest_in (g.S.Shelf.shown c.next_line.new.shelf) c.args.name.now c.next_line.new.self in
    let items = c.next_line.new.self.line.items in
    unended c.args.version text items rest (subst (λ v. IsNext v items text rest) c.in-Unended.is (c.in_ok-next_line.ensures.next told))

pub returns-in-Unended-clause-awaited : goal.returns-in-Unended-clause-awaited
returns-in-Unended-clause-awaited g c = λ told. none_awaited c.args.version (rest_in (g.S.Shelf.shown c.args.shelf.now) c.args.name.now c.args.reader.now) (returns-in-Unended-clause-value g c told)

pub returns-in-TooLong-clause-value : goal.returns-in-TooLong-clause-value
returns-in-TooLong-clause-value g c = λ told.
    let text = rest_in (g.S.Shelf.shown c.args.shelf.now) c.args.name.now c.args.reader.now in
    let rest = rest_in (g.S.Shelf.shown c.next_line.new.shelf) c.args.name.now c.next_line.new.self in
    let items = c.next_line.new.self.line.items in
    overlong c.args.version text (subst (λ v. IsNext v items text rest) c.in-TooLong.is (c.in_ok-next_line.ensures.next told))

pub returns-in-TooLong-clause-awaited : goal.returns-in-TooLong-clause-awaited
returns-in-TooLong-clause-awaited g c = λ told. none_awaited c.args.version (rest_in (g.S.Shelf.shown c.args.shelf.now) c.args.name.now c.args.reader.now) (returns-in-TooLong-clause-value g c told)

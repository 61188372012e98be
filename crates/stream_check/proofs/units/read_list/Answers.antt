use Rattle.std.proofs.Common.{◌≡◌, ◌∙◌, ◌∷◌, ap, rules, sym}
use Rattle.cert_lines.specs.Shapes.{ListLine, ListShape, line_shape, list_shape}
use Rattle.certificate.specs.declared.fault.CertTextFault.TheVariants as text
use Rattle.certificate.specs.Values.{Values}
use Rattle.stream_check.specs.declared.fault.StreamFault.TheVariants as stream
use Rattle.stream_check.specs.Passes.{Awaits, IsRefusal}
use Rattle.stream_check.specs.Streams.{never_refused}
use Rattle.stream_check.proofs.Lines.{other_list}
use Rattle.stream_check.proofs.Ways.{on_stops}
use Rattle.stream_check.proofs.units.read_list.Goals as goal

pub returns-in_err-list-clause-awaited : goal.returns-in_err-list-clause-awaited
returns-in_err-list-clause-awaited g c =
    let why : (list : ListShape) (ls : Values) → Awaits (g.S.Shelf.shown c.args.shelf.now) c.args.text.name.now c.args.reader.now c.args.text.version (ListLine list ∷ ls) → IsRefusal never_refused c.in_err-list.field-0.0 = λ list ls w. c.in_err-list.ensures.awaited (ListLine list) ls w in
    search (rules, why)

pub returns-in-List-clause-awaited : goal.returns-in-List-clause-awaited
returns-in-List-clause-awaited g c = λ list ls awaits.
    let given = c.in_ok-list.ensures.awaited (ListLine list) ls awaits in
    let same : ListLine (list_shape c.in-List.list) ≡ ListLine list = sym (ap line_shape c.in-List.is) ∙ given.0 in
    (cc, given.1)

pub returns : goal.returns
returns g c =
    let first = c.in_ok-list.ensures.step.on in
    record {
      further = tt;
      awaited = λ list ls awaits.
          let given = c.in_ok-list.ensures.awaited (ListLine list) ls awaits in
          other_list c.in_ok-list.field-0 list c.in_default.not-List given.0;
      step = record { on = tt; stopped = on_stops first (stream.Text (text.Shape c.args.reader.now.number)) (λ e. cc e, first.goes_on.found) };
    }

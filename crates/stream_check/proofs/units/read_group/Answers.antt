use Rattle.std.proofs.Common.{◌≡◌, ◌∙◌, ◌∷◌, ap, rules, sym}
use Rattle.item_groups.specs.declared.group.Group.{Group}
use Rattle.cert_lines.specs.Shapes.{GroupLine, line_shape}
use Rattle.certificate.specs.declared.fault.CertTextFault.TheVariants as text
use Rattle.certificate.specs.Values.{Values}
use Rattle.stream_check.specs.declared.fault.StreamFault.TheVariants as stream
use Rattle.stream_check.specs.Passes.{Awaits, IsRefusal}
use Rattle.stream_check.specs.Streams.{never_refused}
use Rattle.stream_check.proofs.Lines.{other_group}
use Rattle.stream_check.proofs.Ways.{on_stops}
use Rattle.stream_check.proofs.units.read_group.Goals as goal

pub returns-in_err-group-clause-awaited : goal.returns-in_err-group-clause-awaited
returns-in_err-group-clause-awaited g c =
    let why : (group : Group) (ls : Values) → Awaits (g.S.Shelf.shown c.args.shelf.now) c.args.text.name.now c.args.reader.now c.args.text.version (GroupLine group ∷ ls) → IsRefusal never_refused c.in_err-group.field-0.0 = λ group ls w. c.in_err-group.ensures.awaited (GroupLine group) ls w in
    search (rules, why)

pub returns-in-Group-clause-awaited : goal.returns-in-Group-clause-awaited
returns-in-Group-clause-awaited g c = λ group ls awaits.
    let given = c.in_ok-group.ensures.awaited (GroupLine group) ls awaits in
    let same : GroupLine c.in-Group.group ≡ GroupLine group = sym (ap line_shape c.in-Group.is) ∙ given.0 in
    (cc, given.1)

pub returns : goal.returns
returns g c =
    let first = c.in_ok-group.ensures.step.on in
    record {
      further = tt;
      awaited = λ group ls awaits.
          let given = c.in_ok-group.ensures.awaited (GroupLine group) ls awaits in
          other_group c.in_ok-group.field-0 group c.in_default.not-Group given.0;
      step = record { on = tt; stopped = on_stops first (stream.Text (text.Shape c.args.reader.now.number)) (λ e. cc e, first.goes_on.found) };
    }

use Rattle.std.proofs.Common.{◌≡◌, ◌∙◌, ◌∷◌, ap, rules, sym}
use Rattle.cert_lines.specs.declared.parts.Part.{Part}
use Rattle.cert_lines.specs.Shapes.{PartLine, line_shape}
use Rattle.certificate.specs.Values.{Values}
use Rattle.stream_check.specs.Passes.{Awaits, IsRefusal}
use Rattle.stream_check.specs.Streams.{never_refused}
use Rattle.stream_check.proofs.Lines.{other_part}
use Rattle.stream_check.proofs.units.read_part.Goals.{in-Part, in_default}
use Rattle.stream_check.proofs.units.read_part.Goals as goal

pub returns-in_err-part-clause-awaited : goal.returns-in_err-part-clause-awaited
returns-in_err-part-clause-awaited g c =
    let why : (part : Part) (ls : Values) → Awaits (g.S.Shelf.shown c.args.shelf.now) c.args.text.name.now c.args.reader.now c.args.text.version (PartLine part ∷ ls) → IsRefusal never_refused c.in_err-part.field-0.0 = λ part ls w. c.in_err-part.ensures.awaited (PartLine part) ls w in
    search (rules, why)

pub returns-clause-awaited : goal.returns-clause-awaited
returns-clause-awaited g c =
    elim c.match-branch-2.branch [
      | in-Part w ↦ rw w.result-is (λ part ls awaits.
          let given = c.in_ok-part.ensures.awaited (PartLine part) ls awaits in
          let same : PartLine w.in-Part.part ≡ PartLine part = sym (ap line_shape w.in-Part.is) ∙ given.0 in
          (cc, given.1))
      | in_default w ↦ rw w.result-is (λ part ls awaits.
          let given = c.in_ok-part.ensures.awaited (PartLine part) ls awaits in
          other_part c.in_ok-part.field-0 part w.in_default.not-Part given.0)
    ]

use Rattle.std.proofs.Common.{◌≡◌, ◌∙◌, List, [], ◌∷◌, ℕ, rules, subst, sym}
use Rattle.cert_lines.specs.Shapes.{EndLine, line_shape}
use Rattle.cert_stream.specs.declared.values.Value.{Value}
use Rattle.cert_stream.specs.declared.values.Value.TheVariants as value
use Rattle.cert_lines.specs.declared.line.CertLine.{CertLine}
use Rattle.certificate.specs.declared.fault.CertTextFault.TheVariants as text
use Rattle.stream_check.specs.declared.fault.StreamFault.TheVariants as stream
use Rattle.cert_stream.specs.Values.{IsValue}
use Rattle.stream_check.specs.Passes.{Awaits, IsRefusal}
use Rattle.stream_check.specs.Streams.{never_refused}
use Rattle.stream_check.proofs.Files.{at_end}
use Rattle.stream_check.proofs.Lines.{other_end, some_bytes}
use Rattle.stream_check.proofs.Ways.{on_stops}
use Rattle.stream_check.proofs.pass.read_end.Goals.{in-Line, in-Wrong, in-End-2}
use Rattle.stream_check.proofs.pass.read_end.Goals as goal

no_more : (version : ℕ) (v : Value) (l : CertLine) (old new : List ℕ) → IsValue version v old new → old ≡ [] → v ≡ value.Line l → ⊥
no_more version v l old new is none same =
    let line : IsValue version (value.Line l) old new = subst (λ x. IsValue version x old new) same is in
    some_bytes (line_shape l) new (sym line ∙ none)

not_wrong : (version : ℕ) (v : Value) (old new : List ℕ) → IsValue version v old new → old ≡ [] → v ≡ value.Wrong → ⊥
not_wrong version v old new is none same =
    let wrong : IsValue version value.Wrong old new = subst (λ x. IsValue version x old new) same is in
    wrong.0 none

no_rest : (version : ℕ) (v : Value) (old new : List ℕ) → IsValue version v old new → v ≡ value.End → old ≡ []
no_rest version v old new is same =
    let end : IsValue version value.End old new = subst (λ x. IsValue version x old new) same is in
    end

pub returns-in_err-next_line-clause-awaited : goal.returns-in_err-next_line-clause-awaited
returns-in_err-next_line-clause-awaited g c =
    let why : Awaits (g.S.Shelf.shown c.args.shelf.now) c.args.text.name.now c.args.reader.now c.args.text.version (EndLine ∷ []) → IsRefusal never_refused c.in_err-next_line.field-0.0 = λ awaits. c.in_err-next_line.ensures.awaited EndLine [] awaits in
    search (rules, why)

pub returns-in_default-clause-awaited : goal.returns-in_default-clause-awaited
returns-in_default-clause-awaited g c = λ awaits. other_end c.in_ok-next_line.field-0 c.in_default.not-End (c.in_ok-next_line.ensures.awaited EndLine [] awaits).0

pub returns-in_default-clause-step : goal.returns-in_default-clause-step
returns-in_default-clause-step g c = record {
  on = tt;
  stopped = on_stops c.in_ok-next_line.ensures.step.on (stream.Text (text.Shape c.args.reader.now.number)) (λ e. cc, c.in_ok-next_line.ensures.step.on.goes_on.found);
}

pub returns-clause-awaited : goal.returns-clause-awaited
returns-clause-awaited g c =
    elim c.match-branch-4.branch [
      | in-Line w ↦ rw w.result-is (λ awaits.
          let next = (c.in_ok-next_line.ensures.awaited EndLine [] awaits).1 in
          no_more c.args.text.version c.in_ok-next_value.field-0 w.in-Line.field-0 _ _ (c.in_ok-next_value.ensures.value next.told) next.text w.in-Line.is)
      | in-Wrong w ↦ rw w.result-is (λ awaits.
          let next = (c.in_ok-next_line.ensures.awaited EndLine [] awaits).1 in
          not_wrong c.args.text.version c.in_ok-next_value.field-0 _ _ (c.in_ok-next_value.ensures.value next.told) next.text w.in-Wrong.is)
      | in-End-2 w ↦ rw w.result-is (λ awaits. tt)
    ]

pub returns-clause-ends : goal.returns-clause-ends
returns-clause-ends g c =
    let first = c.in_ok-next_line.ensures.step.on.goes_on in
    let later = c.in_ok-next_value.ensures.goes_on in
    elim c.match-branch-4.branch [
      | in-Line w ↦ rw w.result-is tt
      | in-Wrong w ↦ rw w.result-is tt
      | in-End-2 w ↦ rw w.result-is (λ told. at_end first later (λ tells. no_rest c.args.text.version c.in_ok-next_value.field-0 _ _ (c.in_ok-next_value.ensures.value tells) w.in-End-2.is) told)
    ]

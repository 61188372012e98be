use Rattle.std.proofs.Common.{◌∷◌, [], rules, subst}
use Rattle.cert_lines.specs.Shapes.{EndLine, line_shape}
use Rattle.certificate.specs.Dues.{IsFaultFrom, the_end}
use Rattle.certificate.specs.Rest.{AreRead}
use Rattle.certificate.proofs.Feeds.{some_text}
use Rattle.certificate.proofs.Needed.{fault_here, fault_past, fault_shape, not_end, read_line_of, some_due, stop_past}
use Rattle.certificate.proofs.reading.read_end.Goals as goal

pub returns-in_err-next_line-clause-refused : goal.returns-in_err-next_line-clause-refused
returns-in_err-next_line-clause-refused c =
    let why : IsFaultFrom c.args.version (the_end ∷ []) c.args.rest.now.text.now c.args.rest.now.line c.in_err-next_line.field-0.0 = fault_here {version = c.args.version} (the_end ∷ []) c.args.rest.now.text.now c.args.rest.now.line c.in_err-next_line.field-0.0 (c.in_err-next_line.ensures.refused (the_end ∷ []) (λ _. some_due the_end [])) in
    search (rules, why)

pub returns-in_default : goal.returns-in_default
returns-in_default c = record {
  end = tt;
  refused = fault_shape c.args.rest.now.text.now c.next_line.new.rest.text.now c.args.rest.now.line the_end [] (line_shape c.in_ok-next_line.field-0) c.in_ok-next_line.ensures.text c.in_ok-next_line.ensures.line (not_end c.in_ok-next_line.field-0 c.in_default.not-End);
}

pub returns-in_err-next_line-2-clause-refused : goal.returns-in_err-next_line-2-clause-refused
returns-in_err-next_line-2-clause-refused c =
    let a = c.args.rest.now in
    let b = c.next_line.new.rest in
    let read : AreRead c.args.version a b (EndLine ∷ []) = subst (λ l. AreRead c.args.version a b (line_shape l ∷ [])) c.in-End.is (read_line_of a b (line_shape c.in_ok-next_line.field-0) c.in_ok-next_line.ensures.line c.in_ok-next_line.ensures.text c.in_ok-next_line.ensures.number) in
    let why : IsFaultFrom c.args.version (the_end ∷ []) a.text.now a.line c.in_err-next_line-2.field-0.0 = fault_past a b c.in_err-next_line-2.field-0.0 read (c.in_err-next_line-2.ensures.refused [] (λ none. absurd (some_text b.text.now c.is_empty.result c.is_empty.ensures c.if-is_empty.false none))) in
    search (rules, why)

pub returns-clause-refused : goal.returns-clause-refused
returns-clause-refused c =
    let a = c.args.rest.now in
    let b = c.next_line.new.rest in
    let read : AreRead c.args.version a b (EndLine ∷ []) = subst (λ l. AreRead c.args.version a b (line_shape l ∷ [])) c.in-End.is (read_line_of a b (line_shape c.in_ok-next_line.field-0) c.in_ok-next_line.ensures.line c.in_ok-next_line.ensures.text c.in_ok-next_line.ensures.number) in
    fault_past a b _ read (stop_past b.text.now c.next_line-2.new.rest.text.now b.line (line_shape c.in_ok-next_line-2.field-0) c.in_ok-next_line-2.ensures.text c.in_ok-next_line-2.ensures.line)

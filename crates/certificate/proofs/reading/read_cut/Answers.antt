use Rattle.std.proofs.Common.{List, ◌∷◌, [], refl, rules, subst}
use Rattle.cert_lines.specs.Shapes.{RoundLine, line_shape}
use Rattle.certificate.specs.Dues.{IsFaultFrom, Due, a_cut, a_part}
use Rattle.certificate.specs.Rest.{AreRead}
use Rattle.certificate.proofs.Needed.{fault_here, fault_shape, line_fault, not_cut, read_line_of, some_due}
use Rattle.std.specs.Prelude.{replicate}
use Rattle.certificate.proofs.reading.read_cut.Goals as goal

pub returns-in_err-cut-clause-refused : goal.returns-in_err-cut-clause-refused
returns-in_err-cut-clause-refused c =
    let why : (later : List Due) → IsFaultFrom c.args.version (a_cut ∷ later) c.args.rest.now.text.now c.args.rest.now.line c.in_err-cut.field-0.0 = λ later. fault_here {version = c.args.version} (a_cut ∷ later) c.args.rest.now.text.now c.args.rest.now.line c.in_err-cut.field-0.0 (c.in_err-cut.ensures.refused (a_cut ∷ later) (λ _. some_due a_cut later)) in
    search (rules, why)

pub returns-in_err-parts-in-Round-clause-refused : goal.returns-in_err-parts-in-Round-clause-refused
returns-in_err-parts-in-Round-clause-refused c =
    let line = RoundLine c.in-Round.divisor c.in-Round.count in
    let read : AreRead c.args.version c.args.rest.now c.next_line.new.rest (line ∷ []) = subst (λ l. AreRead c.args.version c.args.rest.now c.next_line.new.rest (line_shape l ∷ [])) c.in-Round.is (read_line_of c.args.rest.now c.next_line.new.rest (line_shape c.in_ok-cut.field-0) c.in_ok-cut.ensures.line c.in_ok-cut.ensures.text c.in_ok-cut.ensures.number) in
    let why : (later : List Due) → IsFaultFrom c.args.version (a_cut ∷ later) c.args.rest.now.text.now c.args.rest.now.line c.in_err-parts-in-Round.field-0.0 = line_fault c.args.rest.now c.next_line.new.rest a_cut line (replicate c.in-Round.count a_part) c.in_err-parts-in-Round.field-0.0 read tt (λ no_depth. no_depth) refl c.in_err-parts-in-Round.ensures.refused in
    search (rules, why)

pub returns : goal.returns
returns c = record {
  cut = tt;
  room = tt;
  refused = λ later. fault_shape c.args.rest.now.text.now c.next_line.new.rest.text.now c.args.rest.now.line a_cut later (line_shape c.in_ok-cut.field-0) c.in_ok-cut.ensures.text c.in_ok-cut.ensures.line (not_cut c.in_ok-cut.field-0 c.in_default.not-Cut c.in_default.not-Round);
}

use Rattle.std.proofs.Common.{List, ◌∷◌, refl, rules}
use Rattle.cert_lines.specs.Shapes.{line_shape}
use Rattle.certificate.specs.Dues.{IsFaultFrom, Due, a_list}
use Rattle.certificate.proofs.Needed.{fault_here, fault_shape, some_due}
use Rattle.certificate.proofs.reading.read_list.Goals as goal

pub returns-in_err-next_line-clause-refused : goal.returns-in_err-next_line-clause-refused
returns-in_err-next_line-clause-refused c =
    let why : (later : List Due) → IsFaultFrom c.args.version (a_list ∷ later) c.args.rest.now.text.now c.args.rest.now.line c.in_err-next_line.field-0.0 = λ later. fault_here {version = c.args.version} (a_list ∷ later) c.args.rest.now.text.now c.args.rest.now.line c.in_err-next_line.field-0.0 (c.in_err-next_line.ensures.refused (a_list ∷ later) (λ _. some_due a_list later)) in
    search (rules, why)

pub returns-in-None-clause-refused : goal.returns-in-None-clause-refused
returns-in-None-clause-refused c = λ later. fault_shape c.args.rest.now.text.now c.next_line.new.rest.text.now c.args.rest.now.line a_list later (line_shape c.in_ok-next_line.field-0) c.in_ok-next_line.ensures.text c.in_ok-next_line.ensures.line (c.in-None.ensures.none refl)

use Rattle.std.proofs.Common.{List, ◌∷◌, [], refl, rules, subst, arith}
use Rattle.cert_lines.specs.Shapes.{LinearLine, FarkasLine, ReducedLine, line_shape}
use Rattle.certificate.specs.Dues.{IsFaultFrom, Due, a_tree, a_part, row_dues}
use Rattle.certificate.specs.Rest.{AreRead}
use Rattle.certificate.proofs.Needed.{fault_deep, fault_here, fault_shape, line_fault, not_tree, read_line_of, some_due}
use Rattle.std.specs.Prelude.{replicate}
use Rattle.certificate.specs.declared.fault.CertTextFault.TheVariants.{Shape}
use Rattle.certificate.proofs.reading.read_node.Goals.{in-Branch+else-above-eq-MAX_BRANCHES, in-Linear+in_ok-parts-in-Linear, in-Farkas+in_ok-parts-in-Farkas, in-Point, in-Reduced+in_ok-rows-in-Reduced, in_default}
use Rattle.certificate.proofs.reading.read_node.Goals as goal

pub returns-in_err-column-clause-refused : goal.returns-in_err-column-clause-refused
returns-in_err-column-clause-refused c =
    let why : (later : List Due) → IsFaultFrom c.args.version (a_tree c.args.above ∷ later) c.args.rest.now.text.now c.args.rest.now.line c.in_err-column.field-0.0 = λ later. fault_here {version = c.args.version} (a_tree c.args.above ∷ later) c.args.rest.now.text.now c.args.rest.now.line c.in_err-column.field-0.0 (c.in_err-column.ensures.refused (a_tree c.args.above ∷ later) (λ _. some_due (a_tree c.args.above) later)) in
    search (rules, why)

pub returns-then-above-eq-MAX_BRANCHES-clause-refused : goal.returns-then-above-eq-MAX_BRANCHES-clause-refused
returns-then-above-eq-MAX_BRANCHES-clause-refused c = λ later. fault_deep c.args.rest.now.text.now c.next_line.new.rest.text.now c.args.rest.now.line c.args.above later c.in-Branch.column c.in-Branch.at c.in_ok-column.field-0 c.in-Branch.is c.in_ok-column.ensures.text c.in_ok-column.ensures.line (omega (arith, c.if-above-eq-MAX_BRANCHES.true))

pub returns-in_err-parts-in-Linear-clause-refused : goal.returns-in_err-parts-in-Linear-clause-refused
returns-in_err-parts-in-Linear-clause-refused c =
    let line = LinearLine c.in-Linear.den c.in-Linear.count in
    let read : AreRead c.args.version c.args.rest.now c.next_line.new.rest (line ∷ []) = subst (λ l. AreRead c.args.version c.args.rest.now c.next_line.new.rest (line_shape l ∷ [])) c.in-Linear.is (read_line_of c.args.rest.now c.next_line.new.rest (line_shape c.in_ok-column.field-0) c.in_ok-column.ensures.line c.in_ok-column.ensures.text c.in_ok-column.ensures.number) in
    let why : (later : List Due) → IsFaultFrom c.args.version (a_tree c.args.above ∷ later) c.args.rest.now.text.now c.args.rest.now.line c.in_err-parts-in-Linear.field-0.0 = line_fault c.args.rest.now c.next_line.new.rest (a_tree c.args.above) line (replicate c.in-Linear.count a_part) c.in_err-parts-in-Linear.field-0.0 read tt (λ no_depth. no_depth) refl c.in_err-parts-in-Linear.ensures.refused in
    search (rules, why)

pub returns-in_err-parts-in-Farkas-clause-refused : goal.returns-in_err-parts-in-Farkas-clause-refused
returns-in_err-parts-in-Farkas-clause-refused c =
    let line = FarkasLine c.in-Farkas.count in
    let read : AreRead c.args.version c.args.rest.now c.next_line.new.rest (line ∷ []) = subst (λ l. AreRead c.args.version c.args.rest.now c.next_line.new.rest (line_shape l ∷ [])) c.in-Farkas.is (read_line_of c.args.rest.now c.next_line.new.rest (line_shape c.in_ok-column.field-0) c.in_ok-column.ensures.line c.in_ok-column.ensures.text c.in_ok-column.ensures.number) in
    let why : (later : List Due) → IsFaultFrom c.args.version (a_tree c.args.above ∷ later) c.args.rest.now.text.now c.args.rest.now.line c.in_err-parts-in-Farkas.field-0.0 = line_fault c.args.rest.now c.next_line.new.rest (a_tree c.args.above) line (replicate c.in-Farkas.count a_part) c.in_err-parts-in-Farkas.field-0.0 read tt (λ no_depth. no_depth) refl c.in_err-parts-in-Farkas.ensures.refused in
    search (rules, why)

pub returns-in_err-rows-in-Reduced-clause-refused : goal.returns-in_err-rows-in-Reduced-clause-refused
returns-in_err-rows-in-Reduced-clause-refused c =
    let r = c.in-Reduced in
    let line = ReducedLine r.den r.part_count r.list_count r.group_count in
    let read : AreRead c.args.version c.args.rest.now c.next_line.new.rest (line ∷ []) = subst (λ l. AreRead c.args.version c.args.rest.now c.next_line.new.rest (line_shape l ∷ [])) r.is (read_line_of c.args.rest.now c.next_line.new.rest (line_shape c.in_ok-column.field-0) c.in_ok-column.ensures.line c.in_ok-column.ensures.text c.in_ok-column.ensures.number) in
    let why : (later : List Due) → IsFaultFrom c.args.version (a_tree c.args.above ∷ later) c.args.rest.now.text.now c.args.rest.now.line c.in_err-rows-in-Reduced.field-0.0 = line_fault c.args.rest.now c.next_line.new.rest (a_tree c.args.above) line (row_dues r.part_count r.list_count r.group_count) c.in_err-rows-in-Reduced.field-0.0 read tt (λ no_depth. no_depth) refl c.in_err-rows-in-Reduced.ensures.refused in
    search (rules, why)

pub returns-clause-refused : goal.returns-clause-refused
returns-clause-refused c =
    elim c.match-branch-2.branch [
      | in-Branch+else-above-eq-MAX_BRANCHES w ↦ search (rules, w.result-is)
      | in-Linear+in_ok-parts-in-Linear w ↦ search (rules, w.result-is)
      | in-Farkas+in_ok-parts-in-Farkas w ↦ search (rules, w.result-is)
      | in-Point w ↦ search (rules, w.result-is)
      | in-Reduced+in_ok-rows-in-Reduced w ↦ search (rules, w.result-is)
      | in_default w ↦
          let why : (later : List Due) → IsFaultFrom c.args.version (a_tree c.args.above ∷ later) c.args.rest.now.text.now c.args.rest.now.line (Shape c.args.rest.now.line) = λ later. fault_shape c.args.rest.now.text.now c.next_line.new.rest.text.now c.args.rest.now.line (a_tree c.args.above) later (line_shape c.in_ok-column.field-0) c.in_ok-column.ensures.text c.in_ok-column.ensures.line (not_tree c.in_ok-column.field-0 c.args.above w.in_default.not-Branch w.in_default.not-Linear w.in_default.not-Farkas w.in_default.not-Point w.in_default.not-Reduced) in
          search (rules, w.result-is, why)
    ]

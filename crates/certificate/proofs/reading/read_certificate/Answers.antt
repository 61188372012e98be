use Rattle.std.proofs.Common.{◌≡◌, length, ◌∷◌, ◌≤◌, ◌∙◌, ◌++◌, [], rules, arith, ap, append-nil}
use Rattle.certificate.specs.Dues.{IsFaultFrom, a_tree, the_end}
use Rattle.certificate.specs.Counts.{longest_path}
use Rattle.certificate.specs.Faults.{IsCertTextFault, body_dues}
use Rattle.certificate.specs.Values.{values_text}
use Rattle.std.specs.Prelude.{map}
use Rattle.std.proofs.lemmas.List.{length-map}
use Rattle.cert_lines.specs.declared.limits.TheConstants.{MAX_BRANCHES}
use Rattle.cert_lines.specs.Shapes.{EndLine, cut_shape}
use Rattle.certificate.specs.Shapes.{shape_of, tree_shape}
use Rattle.certificate.proofs.Wholes.{cuts_fault, end_fault, tree_fault, whole}
use Rattle.certificate.proofs.reading.read_certificate.Goals as goal

pub returns-in_err-cuts-clause-refused : goal.returns-in_err-cuts-clause-refused
returns-in_err-cuts-clause-refused c =
    let a = c.read_heads.new.rest in
    let why : IsCertTextFault c.args.bytes.now c.in_err-cuts.field-0.0 = cuts_fault c.args.bytes.now a c.in_ok-version.version c.in_ok-version.claim c.in_ok-version.count c.in_err-cuts.field-0.0 c.in_ok-version.ensures.text c.in_ok-version.ensures.lines c.in_ok-version.ensures.number (c.in_err-cuts.ensures.refused (a_tree 0 ∷ the_end ∷ [])) in
    search (rules, why)

pub returns-in_err-tree-clause-refused : goal.returns-in_err-tree-clause-refused
returns-in_err-tree-clause-refused c =
    let a = c.read_heads.new.rest in
    let b = c.read_cuts.new.rest in
    let from : IsFaultFrom c.in_ok-version.version (body_dues c.in_ok-version.count) a.text.now a.line c.in_err-tree.field-0.0 = tree_fault a b (map cut_shape c.in_ok-cuts.cuts.items) c.in_ok-version.count c.in_err-tree.field-0.0 c.in_ok-cuts.ensures.cuts (omega (arith, c.in_ok-cuts.ensures.count, length-map c.in_ok-cuts.cuts.items cut_shape)) (c.in_err-tree.ensures.refused (the_end ∷ [])) in
    let why : IsCertTextFault c.args.bytes.now c.in_err-tree.field-0.0 = cuts_fault c.args.bytes.now a c.in_ok-version.version c.in_ok-version.claim c.in_ok-version.count c.in_err-tree.field-0.0 c.in_ok-version.ensures.text c.in_ok-version.ensures.lines c.in_ok-version.ensures.number from in
    search (rules, why)

pub returns-in_err-read_end-clause-refused : goal.returns-in_err-read_end-clause-refused
returns-in_err-read_end-clause-refused c =
    let a = c.read_heads.new.rest in
    let b = c.read_cuts.new.rest in
    let paths : longest_path (tree_shape c.in_ok-tree.tree) ≤ MAX_BRANCHES = omega (arith, c.in_ok-tree.ensures.paths) in
    let last : IsFaultFrom c.in_ok-version.version (a_tree 0 ∷ the_end ∷ []) b.text.now b.line c.in_err-read_end.field-0.0 = end_fault b c.read_tree.new.rest (tree_shape c.in_ok-tree.tree) c.in_err-read_end.field-0.0 c.in_ok-tree.ensures.tree paths c.in_err-read_end.ensures.refused in
    let from : IsFaultFrom c.in_ok-version.version (body_dues c.in_ok-version.count) a.text.now a.line c.in_err-read_end.field-0.0 = tree_fault a b (map cut_shape c.in_ok-cuts.cuts.items) c.in_ok-version.count c.in_err-read_end.field-0.0 c.in_ok-cuts.ensures.cuts (omega (arith, c.in_ok-cuts.ensures.count, length-map c.in_ok-cuts.cuts.items cut_shape)) last in
    let why : IsCertTextFault c.args.bytes.now c.in_err-read_end.field-0.0 = cuts_fault c.args.bytes.now a c.in_ok-version.version c.in_ok-version.claim c.in_ok-version.count c.in_err-read_end.field-0.0 c.in_ok-version.ensures.text c.in_ok-version.ensures.lines c.in_ok-version.ensures.number from in
    search (rules, why)

pub returns-clause-text : goal.returns-clause-text
returns-clause-text c =
    let s = shape_of (record { version = c.in_ok-version.version; claim = c.in_ok-version.claim; cuts = c.in_ok-cuts.cuts; tree = c.in_ok-tree.tree }) in
    let count : length s.cuts ≡ c.in_ok-version.count = omega (arith, c.in_ok-cuts.ensures.count, length-map c.in_ok-cuts.cuts.items cut_shape) in
    whole c.args.bytes.now c.read_heads.new.rest c.read_cuts.new.rest c.read_tree.new.rest c.read_end.new.rest s c.in_ok-version.count c.in_ok-version.ensures.text c.in_ok-version.ensures.lines count c.in_ok-cuts.ensures.cuts c.in_ok-tree.ensures.tree (omega (arith, c.in_ok-tree.ensures.paths)) c.in_ok-read_end.ensures.end.0
    (c.in_ok-read_end.ensures.end.0.text ∙ ap (λ t. values_text (EndLine ∷ []) ++ t) c.in_ok-read_end.ensures.end.1 ∙ append-nil (values_text (EndLine ∷ [])))

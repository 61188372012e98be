use Rattle.std.proofs.Common.{◌≡◌, ◌∙◌, ◌++◌, [], ap, refl, rules, sym}
use Rattle.std.specs.Prelude.{FitsSigned}
use mir.Syntax.{w128}
use mir.Val.{of_z, to_z}
use mir.Facts.{to_z-of_z}
use Rattle.cert_lines.specs.declared.parts.Leaf.TheVariants as leaf
use Rattle.cert_lines.specs.Shapes.{FarkasLeaf, LinearLeaf, PointLeaf, ReducedLeaf, line_shape}
use Rattle.certificate.specs.Shapes.{TreeShape}
use Rattle.certificate.specs.Values.{Values, tree_values}
use Rattle.certificate.specs.declared.fault.CertTextFault.TheVariants as text
use Rattle.stream_check.specs.declared.fault.StreamFault.TheVariants as stream
use Rattle.stream_check.specs.Passes.{Awaits, IsRefusal}
use Rattle.stream_check.specs.Streams.{never_refused}
use Rattle.stream_check.proofs.Lines.{other_tree, same_branch, same_farkas, same_linear, same_point, same_reduced, tree_first, tree_lines, tree_rest, whole_leaf}
use Rattle.stream_check.proofs.Ways.{awaits_same, on_on, on_stops}
use Rattle.stream_check.proofs.units.read_node.Goals.{in-Branch, in-Linear+in_ok-parts-in-Linear, in-Farkas+in_ok-parts-in-Farkas, in-Point, in-Reduced+in_ok-read_reduced-in-Reduced, in_default}
use Rattle.stream_check.proofs.units.read_node.Goals as goal

pub returns-in_err-column-clause-awaited : goal.returns-in_err-column-clause-awaited
returns-in_err-column-clause-awaited g c =
    let why : (t : TreeShape) (ls : Values) → Awaits (g.S.Shelf.shown c.args.shelf.now) c.args.text.name.now c.args.reader.now c.args.text.version (tree_values t ++ ls) → IsRefusal never_refused c.in_err-column.field-0.0 = λ t ls awaits.
    c.in_err-column.ensures.awaited (tree_first t) (tree_rest t ++ ls) (awaits_same (ap (λ vs. vs ++ ls) (tree_lines t)) awaits) in
    search (rules, why)

pub returns-in_err-parts-in-Linear-clause-awaited : goal.returns-in_err-parts-in-Linear-clause-awaited
returns-in_err-parts-in-Linear-clause-awaited g c =
    let why : (t : TreeShape) (ls : Values) → Awaits (g.S.Shelf.shown c.args.shelf.now) c.args.text.name.now c.args.reader.now c.args.text.version (tree_values t ++ ls) → IsRefusal never_refused c.in_err-parts-in-Linear.field-0.0 = λ t ls awaits.
    let given = c.in_ok-column.ensures.awaited (tree_first t) (tree_rest t ++ ls) (awaits_same (ap (λ vs. vs ++ ls) (tree_lines t)) awaits) in
    let same = same_linear c.in-Linear.den c.in-Linear.count t (sym (ap line_shape c.in-Linear.is) ∙ given.0) in
    c.in_err-parts-in-Linear.ensures.awaited same.0 ls same.2 (awaits_same (ap (λ vs. vs ++ ls) same.3) given.1) in
    search (rules, why)

pub returns-in_err-parts-in-Farkas-clause-awaited : goal.returns-in_err-parts-in-Farkas-clause-awaited
returns-in_err-parts-in-Farkas-clause-awaited g c =
    let why : (t : TreeShape) (ls : Values) → Awaits (g.S.Shelf.shown c.args.shelf.now) c.args.text.name.now c.args.reader.now c.args.text.version (tree_values t ++ ls) → IsRefusal never_refused c.in_err-parts-in-Farkas.field-0.0 = λ t ls awaits.
    let given = c.in_ok-column.ensures.awaited (tree_first t) (tree_rest t ++ ls) (awaits_same (ap (λ vs. vs ++ ls) (tree_lines t)) awaits) in
    let same = same_farkas c.in-Farkas.count t (sym (ap line_shape c.in-Farkas.is) ∙ given.0) in
    c.in_err-parts-in-Farkas.ensures.awaited same.0 ls same.2 (awaits_same (ap (λ vs. vs ++ ls) same.3) given.1) in
    search (rules, why)

pub returns-in_err-read_reduced-in-Reduced-clause-awaited : goal.returns-in_err-read_reduced-in-Reduced-clause-awaited
returns-in_err-read_reduced-in-Reduced-clause-awaited g c =
    let why : (t : TreeShape) (ls : Values) → Awaits (g.S.Shelf.shown c.args.shelf.now) c.args.text.name.now c.args.reader.now c.args.text.version (tree_values t ++ ls) → IsRefusal never_refused c.in_err-read_reduced-in-Reduced.field-0.0 = λ t ls awaits.
    let given = c.in_ok-column.ensures.awaited (tree_first t) (tree_rest t ++ ls) (awaits_same (ap (λ vs. vs ++ ls) (tree_lines t)) awaits) in
    let same = same_reduced c.in-Reduced.den c.in-Reduced.parts c.in-Reduced.lists c.in-Reduced.groups t (sym (ap line_shape c.in-Reduced.is) ∙ given.0) in
    c.in_err-read_reduced-in-Reduced.ensures.awaited same.parts same.lists same.groups ls (record { parts_are = same.parts_are; lists_are = same.lists_are; groups_are = same.groups_are }) (awaits_same (ap (λ vs. vs ++ ls) same.rest) given.1) in
    search (rules, why)

pub returns-clause-awaited : goal.returns-clause-awaited
returns-clause-awaited g c =
    elim c.match-branch-2.branch [
      | in-Branch w ↦ rw (w.result-is, w.reader-is, w.shelf-is) (λ t ls awaits.
          let given = c.in_ok-column.ensures.awaited (tree_first t) (tree_rest t ++ ls) (awaits_same (ap (λ vs. vs ++ ls) (tree_lines t)) awaits) in
          (tree_rest t, same_branch w.in-Branch.column w.in-Branch.at t (sym (ap line_shape w.in-Branch.is) ∙ given.0), given.1))
      | in-Linear+in_ok-parts-in-Linear w ↦ rw (w.result-is, w.reader-is, w.shelf-is) (λ t ls awaits.
          let given = c.in_ok-column.ensures.awaited (tree_first t) (tree_rest t ++ ls) (awaits_same (ap (λ vs. vs ++ ls) (tree_lines t)) awaits) in
          let same = same_linear w.in-Linear.den w.in-Linear.count t (sym (ap line_shape w.in-Linear.is) ∙ given.0) in
          let parts = w.in_ok-parts-in-Linear.ensures.awaited same.0 ls same.2 (awaits_same (ap (λ vs. vs ++ ls) same.3) given.1) in
          let fits : FitsSigned w128 w.in-Linear.den = search rules in
          let den : to_z w128 (of_z w128 w.in-Linear.den) ≡ w.in-Linear.den = simp (to_z-of_z fits) in
          ([], whole_leaf (leaf.Linear (to_z w128 (of_z w128 w.in-Linear.den)) w.in_ok-parts-in-Linear.parts) t (LinearLeaf w.in-Linear.den same.0) same.1 (ap (λ z. LinearLeaf z w.in_ok-parts-in-Linear.parts.items) den ∙ ap (λ ps. LinearLeaf w.in-Linear.den ps) parts.0), parts.1))
      | in-Farkas+in_ok-parts-in-Farkas w ↦ rw (w.result-is, w.reader-is, w.shelf-is) (λ t ls awaits.
          let given = c.in_ok-column.ensures.awaited (tree_first t) (tree_rest t ++ ls) (awaits_same (ap (λ vs. vs ++ ls) (tree_lines t)) awaits) in
          let same = same_farkas w.in-Farkas.count t (sym (ap line_shape w.in-Farkas.is) ∙ given.0) in
          let parts = w.in_ok-parts-in-Farkas.ensures.awaited same.0 ls same.2 (awaits_same (ap (λ vs. vs ++ ls) same.3) given.1) in
          ([], whole_leaf (leaf.Farkas w.in_ok-parts-in-Farkas.parts) t (FarkasLeaf same.0) same.1 (ap (λ ps. FarkasLeaf ps) parts.0), parts.1))
      | in-Point w ↦ rw (w.result-is, w.reader-is, w.shelf-is) (λ t ls awaits.
          let given = c.in_ok-column.ensures.awaited (tree_first t) (tree_rest t ++ ls) (awaits_same (ap (λ vs. vs ++ ls) (tree_lines t)) awaits) in
          let same = same_point t (sym (ap line_shape w.in-Point.is) ∙ given.0) in
          ([], whole_leaf leaf.Point t PointLeaf same.0 refl, awaits_same (ap (λ vs. vs ++ ls) same.1) given.1))
      | in-Reduced+in_ok-read_reduced-in-Reduced w ↦ rw (w.result-is, w.reader-is, w.shelf-is) (λ t ls awaits.
          let given = c.in_ok-column.ensures.awaited (tree_first t) (tree_rest t ++ ls) (awaits_same (ap (λ vs. vs ++ ls) (tree_lines t)) awaits) in
          let same = same_reduced w.in-Reduced.den w.in-Reduced.parts w.in-Reduced.lists w.in-Reduced.groups t (sym (ap line_shape w.in-Reduced.is) ∙ given.0) in
          let leaf = w.in_ok-read_reduced-in-Reduced.ensures.awaited same.parts same.lists same.groups ls (record { parts_are = same.parts_are; lists_are = same.lists_are; groups_are = same.groups_are }) (awaits_same (ap (λ vs. vs ++ ls) same.rest) given.1) in
          ([], whole_leaf w.in_ok-read_reduced-in-Reduced.field-0 t (ReducedLeaf w.in-Reduced.den same.parts same.lists same.groups) same.tree leaf.0, leaf.1))
      | in_default w ↦ rw w.result-is (λ t ls awaits.
          let given = c.in_ok-column.ensures.awaited (tree_first t) (tree_rest t ++ ls) (awaits_same (ap (λ vs. vs ++ ls) (tree_lines t)) awaits) in
          other_tree c.in_ok-column.field-0 t w.in_default.not-Branch w.in_default.not-Linear w.in_default.not-Farkas w.in_default.not-Point w.in_default.not-Reduced given.0)
    ]

pub returns-clause-step : goal.returns-clause-step
returns-clause-step g c =
    let first = c.in_ok-column.ensures.step.on in
    elim c.match-branch-2.branch [
      | in-Branch w ↦ rw (w.result-is, w.reader-is, w.shelf-is) (record { on = first; stopped = tt })
      | in-Linear+in_ok-parts-in-Linear w ↦ rw (w.result-is, w.reader-is, w.shelf-is) (record { on = on_on first w.in_ok-parts-in-Linear.ensures.step.on; stopped = tt })
      | in-Farkas+in_ok-parts-in-Farkas w ↦ rw (w.result-is, w.reader-is, w.shelf-is) (record { on = on_on first w.in_ok-parts-in-Farkas.ensures.step.on; stopped = tt })
      | in-Point w ↦ rw (w.result-is, w.reader-is, w.shelf-is) (record { on = first; stopped = tt })
      | in-Reduced+in_ok-read_reduced-in-Reduced w ↦ rw (w.result-is, w.reader-is, w.shelf-is) (record { on = on_on first w.in_ok-read_reduced-in-Reduced.ensures.step.on; stopped = tt })
      | in_default w ↦ rw (w.result-is, w.reader-is, w.shelf-is) (record { on = tt; stopped = on_stops first (stream.Text (text.Shape c.args.reader.now.number)) (λ e. cc e, first.goes_on.found) })
    ]

use Rattle.std.proofs.Common.{◌∷◌, [], ◌++◌, refl}
use Rattle.std.specs.Prelude.{map}
use Rattle.cert_lines.specs.Shapes.{EndLine, cut_shape}
use Rattle.certificate.specs.Shapes.{tree_shape}
use Rattle.certificate.specs.Values.{all_cut_values, tree_values}
use Rattle.certificate.proofs.Shorts.{cuts_join, cuts_split, end_line, lines_join, lines_split}
use Rattle.certificate.proofs.limits.has_body_lines.Goals as goal

pub returns : goal.returns
returns c =
    let a = c.args.certificate.now in
    let cuts = all_cut_values (map cut_shape a.cuts.items) in
    let tree = tree_values (tree_shape a.tree) in
    let have = rw c.deref.ensures.value at c.if-not-have_cut_lines.ensures in (
      λ rest. lines_join a.version cuts (tree ++ EndLine ∷ []) (cuts_join {version = a.version} a.cuts.items (have.0 refl)) (lines_join a.version tree (EndLine ∷ []) (c.has_tree_lines.ensures.0 rest) (end_line {version = a.version}, tt)),
      λ are. c.has_tree_lines.ensures.1 (lines_split a.version tree (EndLine ∷ []) (lines_split a.version cuts (tree ++ EndLine ∷ []) are).1).0,
    )

pub returns-then-not-have_cut_lines : goal.returns-then-not-have_cut_lines
returns-then-not-have_cut_lines c =
    let a = c.args.certificate.now in
    let cuts = all_cut_values (map cut_shape a.cuts.items) in
    let tree = tree_values (tree_shape a.tree) in
    let have = rw c.deref.ensures.value at c.if-not-have_cut_lines.ensures in
    (λ no. cc no, λ are. have.1 (cuts_split {version = a.version} a.cuts.items (lines_split a.version cuts (tree ++ EndLine ∷ []) are).0))

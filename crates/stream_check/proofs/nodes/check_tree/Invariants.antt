use Rattle.std.proofs.Common.{◌≤◌, ◌++◌, ◌∷◌, []}
use Rattle.cert_lines.specs.declared.limits.TheConstants.{MAX_BRANCHES}
use Rattle.cert_lines.specs.Shapes.{EndLine}
use Rattle.certificate.specs.Counts.{longest_path}
use Rattle.certificate.specs.Shapes.{TreeShape}
use Rattle.certificate.specs.Values.{tree_values}
use Rattle.cert_trees.specs.Paths.{AreChoices}
use Rattle.cert_checker.specs.Named.{IsReadyFor}
use Rattle.cert_stream.specs.Reader.{left_of}
use Rattle.stream_check.specs.Nodes.{AreCovered, AreLeft, AreSmall, trees_due}
use Rattle.stream_check.specs.Passes.{Awaits, IsOn}
use Rattle.stream_check.proofs.nodes.check_tree.Given as goal

abbrev pub invariant-loop-more : goal.invariant-loop-more
invariant-loop-more g l = record {
  on : IsOn l.text.name.now (g.S.Shelf.shown l.fn.shelf) (g.S.Shelf.shown l.shelf) l.fn.reader l.reader;
  ready : IsReadyFor l.instance l.named;
  choices : AreChoices l.instance l.path.items;
  small : AreSmall l.path.items;
  covered : AreCovered l.instance l.fn.claim (trees_due l.more l.path.items);
  awaited : (tree : TreeShape) → longest_path tree ≤ MAX_BRANCHES → Awaits (g.S.Shelf.shown l.fn.shelf) l.text.name.now l.fn.reader l.text.version (tree_values tree ++ EndLine ∷ [])
      → AreLeft l.instance l.rows l.fn.claim tree l.fn.reader.number (trees_due l.more l.path.items) l.text.version (g.S.Shelf.shown l.shelf) l.text.name.now l.reader;
}

abbrev pub decreases-loop-more : goal.decreases-loop-more
decreases-loop-more g l = left_of l.reader

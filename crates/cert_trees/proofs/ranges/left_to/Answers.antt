use Rattle.std.proofs.Common.{◌∙◌, sym, ap, take, slice_index_or}
use Rattle.std.proofs.lemmas.List.{take_more}
use Rattle.cert_trees.specs.Spans.{span_of}
use Rattle.cert_trees.specs.Paths.{left_to, narrowed, no_bound}
use Rattle.cert_trees.proofs.Left.{left_more}
use Rattle.cert_trees.proofs.ranges.left_to.Goals as goal

pub loop-bound-preserved : goal.loop-bound-preserved
loop-bound-preserved c =
    let path = c.args.path.now in
    let k = c.loop-bound.bound-index in
    let b = slice_index_or path k no_bound in
    let s = span_of c.args.range in
    sym (ap (λ bs. left_to s bs c.args.column) (take_more path k no_bound c.loop-bound-test.true)
    ∙ left_more s (take k path) b c.args.column
    ∙ ap (λ r. narrowed r b c.args.column) (sym c.loop-bound.invariant)
    ∙ sym c.narrow-left.ensures)

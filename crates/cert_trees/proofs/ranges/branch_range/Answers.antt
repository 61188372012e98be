use Rattle.std.proofs.Common.{◌∙◌, sym, ap, subst}
use Rattle.std.specs.Prelude.{◌↔◌}
use Rattle.cert_trees.specs.Spans.{IsIn}
use Rattle.cert_trees.specs.Ranges.{whole_ranges}
use Rattle.cert_trees.specs.Paths.{MeetsOn, left_to}
use Rattle.cert_trees.proofs.Left.{numbers_left}
use Rattle.cert_trees.proofs.ranges.branch_range.Goals as goal

pub returns-clause-numbers : goal.returns-clause-numbers
returns-clause-numbers c = λ total totals n.
    let path = c.args.path.now in
    let column = c.args.column in
    let whole = whole_ranges total column in
    let left = c.left_to.ensures ∙ ap (λ s. left_to s path column) (c.in_ok-range.ensures.range total totals) in
    subst (λ s. IsIn s n ↔ (IsIn whole n × MeetsOn path column n)) (sym left) (numbers_left path column whole n)

use Rattle.lot_sizing.specs.Plan.{Plan, IsFeasible}
use Rattle.lin_rows.specs.Columns.{value_in}
use Rattle.cert_lines.specs.Shapes.{leaf_shape}
use Rattle.cert_trees.specs.Paths.{AreMet}
use Rattle.cert_trees.specs.Ranges.{WithTotals, whole_ranges}
use Rattle.cert_meaning.specs.Named.{names}
use Rattle.cert_meaning.specs.Says.{IsSoOf, Says}
use Rattle.cert_meaning.specs.Laws.{HoldAtPlans}
use Rattle.cert_checker.proofs.Leaves.{if_ok_with}
use Rattle.cert_checker.proofs.leaf.leaf_bound_in.Goals as goal

pub returns-clause-bounds : goal.returns-clause-bounds
returns-clause-bounds c =
    let m = c.args.instance.now in
    let cuts = c.args.cuts.now in
    let path = c.args.path.now in
    let leaf = leaf_shape c.args.leaf.now in
    let instance = c.an_instance_breaks_no_rule.ensures in
    let (total, totals, small) = instance.totals in
    let (rank, ranks) = instance.ranked in
    let some = instance.limits.some_period in
    if_ok_with c.leaf_says.result
    (λ says. WithTotals m (λ total. Says (names m total cuts path) (whole_ranges total) leaf says))
    (λ says. HoldAtPlans m cuts → (p : Plan) → IsFeasible m p → AreMet (value_in p) path → IsSoOf m says p)
    (λ says are hold p feasible met.
    c.leaves_bound.ensures m rank total cuts path (whole_ranges total) leaf says some ranks totals hold c.requires.cuts c.requires.path (are total totals) p feasible
    (c.plans_are_within.ensures m rank total some ranks totals p feasible) met)
    c.leaf_says.ensures.says

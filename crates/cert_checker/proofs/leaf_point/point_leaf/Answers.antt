use Rattle.std.proofs.Common.{refl, ap}
use Rattle.lot_sizing.specs.Plan.{IsFeasible, cost}
use Rattle.plan_rules.specs.Cells.{table_of}
use Rattle.plan_rules.specs.Held.{plan_of}
use Rattle.plan_rules.specs.Rows.{HasChosen, HasNoPlan, IsLeastWith}
use Rattle.std.proofs.Common.{◌≡◌}
use Rattle.cert_checker.proofs.LeafPoints.{is_point, least_at_point, no_point, none_at_point}
use Rattle.cert_checker.proofs.leaf_point.point_leaf.Goals as goal

pub returns-then-not-fill-clause-fault : goal.returns-then-not-fill-clause-fault
returns-then-not-fill-clause-fault c = λ total totals cuts. (refl, no_point c.args.instance.now total cuts c.args.path.now totals (c.if-not-fill.ensures.open refl))

pub returns-in-Some-clause-says : goal.returns-in-Some-clause-says
returns-in-Some-clause-says c = λ total totals cuts.
    let m = c.args.instance.now in
    let path = c.args.path.now in
    let make = c.fill.new.make in
    let setup = c.fill.new.setup in
    let planned = c.in-Some.planned in
    let p = plan_of planned.plan in
    let cells = c.if-not-fill.ensures.cells refl total totals in
    let chosen : HasChosen make setup planned.plan = rw c.in-Some.is at c.in_ok-planned.ensures.choice in
    let feasible : IsFeasible m p = rw c.in-Some.is at c.in_ok-planned.ensures.feasible in
    let least : IsLeastWith m (table_of make) (table_of setup) p = rw c.in-Some.is at c.in_ok-planned.ensures.least in
    let costs : planned.cost ≡ cost m p = rw c.in-Some.is at c.in_ok-planned.ensures.cost in (
      is_point m total cuts path (table_of make) (table_of setup) cells,
      least_at_point m total cuts path (table_of make) (table_of setup) cells p planned.cost feasible (ap table_of chosen.make) (ap table_of chosen.setup) least costs,
    )

pub returns-in-None-clause-says : goal.returns-in-None-clause-says
returns-in-None-clause-says c = λ total totals cuts.
    let m = c.args.instance.now in
    let path = c.args.path.now in
    let make = table_of c.fill.new.make in
    let setup = table_of c.fill.new.setup in
    let cells = c.if-not-fill.ensures.cells refl total totals in
    let none : HasNoPlan m make setup = rw c.in-None.is at c.in_ok-planned.ensures.none in
    (is_point m total cuts path make setup cells, none_at_point m total cuts path make setup cells none)

use Rattle.std.proofs.Common.{◌≡◌, ◌∙◌, arith, subst, length, Option, Some, IfSome}
use Rattle.std.specs.Option.{IfNone}
use Rattle.lot_sizing.specs.Problem.{item_count}
use Rattle.lot_sizing.specs.Plan.{IsFeasible}
use Rattle.plan_rules.specs.Cells.{table_of}
use Rattle.plan_rules.specs.Held.{plan_of}
use Rattle.plan_rules.specs.Rows.{HasNoPlan, IsLeastWith}
use Rattle.uncoupled.proofs.Floors.{AreAllBest, all_prove, costs_floors, rows_best, rows_have_plan}
use Rattle.uncoupled.proofs.planning.plan_items.Goals as goal

pub unreachable-requires : goal.unreachable-requires
unreachable-requires c =
    let m = c.args.instance.now in
    let make = c.in_ok-make.field-0.make in
    let setup = c.in_ok-make.field-0.setup in
    let all : AreAllBest m make setup = record { free = c.requires; within = c.first_without_room.ensures.instance.limits; rooms = c.in_default.ensures.rooms; rows = c.in_ok-make.ensures.rows } in
    let none = subst (λ o. IfNone o (HasNoPlan m (table_of make) (table_of setup))) c.in_default-found.is c.in_ok-found.ensures.none in
    rows_have_plan c.room_decides.ensures.room m make setup all none

found_has : {A : Type 0} (found : Option A) (x : A) (P : A → Type 0) → found ≡ Some x → IfSome found P → P x
found_has found x P is holds = subst (λ o. IfSome o P) is holds

pub returns : goal.returns
returns c =
    let m = c.args.instance.now in
    let make = c.in_ok-make.field-0.make in
    let setup = c.in_ok-make.field-0.setup in
    let lists = c.in_ok-make.field-0.potentials.items in
    let planned = c.in_ok-make.ensures in
    let all : AreAllBest m make setup = record { free = c.requires; within = c.first_without_room.ensures.instance.limits; rooms = c.in_default.ensures.rooms; rows = planned.rows } in
    let found = c.in_ok-found.found in
    let best = c.in-Some-found.planned in
    let is = c.in-Some-found.is in
    let f = found_has found best (λ p. IsFeasible m (plan_of p.plan)) is c.in_ok-found.ensures.feasible in
    let least = found_has found best (λ p. IsLeastWith m (table_of make) (table_of setup) (plan_of p.plan)) is c.in_ok-found.ensures.least in
    let costs = found_has found best _ is c.in_ok-found.ensures.cost in
    let enough = c.room_decides.ensures.room in
    let apart = c.items_are_best_apart.ensures in
    let size : length lists ≡ item_count m = omega (arith, planned.one_each) in
    record {
      fits = found_has found best _ is c.in_ok-found.ensures.fits;
      best = rows_best enough apart m make setup (plan_of best.plan) all f least;
      costs = costs;
      small = found_has found best _ is c.in_ok-found.ensures.small;
      one_each = size;
      prove = all_prove m 1 lists planned.prove;
      floors = costs ∙ costs_floors enough apart c.costs_apart.ensures m make setup lists (plan_of best.plan) all size planned.prove f least;
    }

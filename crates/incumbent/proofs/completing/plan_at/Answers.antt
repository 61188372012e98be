use Rattle.std.proofs.Common.{◌∙◌, ◌*◌, ap}
use Rattle.lot_sizing.specs.Problem.{item_count}
use Rattle.incumbent.proofs.Chosen.{found_choice, found_least, found_made, found_none, from_cells, from_first}
use Rattle.incumbent.proofs.completing.plan_at.Goals as goal

pub returns-clause-made : goal.returns-clause-made
returns-clause-made c = found_made c.args.instance.now c.complete_at_cost.result c.complete_at_cost.ensures.fits c.complete_at_cost.ensures.feasible c.complete_at_cost.ensures.cost c.complete_at_cost.ensures.small

pub returns-clause-choice : goal.returns-clause-choice
returns-clause-choice c =
    let m = c.args.instance.now in
    let rs = c.args.ranges.now in
    let cells = ap (λ n. n * c.periods.result) c.items.ensures.value ∙ ap (λ n. item_count m * n) c.periods.ensures.value in
    found_choice m rs c.in_ok-make.make c.in_ok-setup.setup c.complete_at_cost.result c.complete_at_cost.ensures.choice (from_first m rs c.in_ok-make.make c.in_ok-make.ensures.least) (from_cells m rs c.in_ok-setup.setup (c.items.result * c.periods.result) cells c.in_ok-setup.ensures.least)

pub returns-clause-least : goal.returns-clause-least
returns-clause-least c =
    let m = c.args.instance.now in
    let rs = c.args.ranges.now in
    let made = found_made m c.complete_at_cost.result c.complete_at_cost.ensures.fits c.complete_at_cost.ensures.feasible c.complete_at_cost.ensures.cost c.complete_at_cost.ensures.small in
    let cells = ap (λ n. n * c.periods.result) c.items.ensures.value ∙ ap (λ n. item_count m * n) c.periods.ensures.value in
    found_least m rs c.in_ok-make.make c.in_ok-setup.setup c.complete_at_cost.result c.complete_at_cost.ensures.choice made c.complete_at_cost.ensures.least (from_first m rs c.in_ok-make.make c.in_ok-make.ensures.least) (from_cells m rs c.in_ok-setup.setup (c.items.result * c.periods.result) cells c.in_ok-setup.ensures.least)

pub returns-clause-none : goal.returns-clause-none
returns-clause-none c =
    let m = c.args.instance.now in
    let rs = c.args.ranges.now in
    let cells = ap (λ n. n * c.periods.result) c.items.ensures.value ∙ ap (λ n. item_count m * n) c.periods.ensures.value in
    found_none m rs c.in_ok-make.make c.in_ok-setup.setup c.complete_at_cost.result c.complete_at_cost.ensures.none (from_first m rs c.in_ok-make.make c.in_ok-make.ensures.least) (from_cells m rs c.in_ok-setup.setup (c.items.result * c.periods.result) cells c.in_ok-setup.ensures.least)

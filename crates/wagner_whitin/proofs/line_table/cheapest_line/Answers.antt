use Rattle.std.proofs.Common.{◌+◌, subst, arith, length}
use Rattle.echelon.specs.Views.{single_of_item}
use Rattle.wagner_whitin.proofs.Serving.{period_in, positions_small}
use Rattle.wagner_whitin.specs.Lines.{line_cost, line_of, CostsAtMost}
use Rattle.wagner_whitin.proofs.Nearest.{IsKept}
use Rattle.wagner_whitin.proofs.Progress.{found_is, met_here}
use Rattle.wagner_whitin.proofs.line_table.cheapest_line.Goals as goal

pub overflow_cast-position : goal.overflow_cast-position
overflow_cast-position g c = omega (arith, positions_small (single_of_item c.args.item.now.single.now) c.requires.within, c.requires.some)

pub overflow_add-position : goal.overflow_add-position
overflow_add-position g c = omega (arith, positions_small (single_of_item c.args.item.now.single.now) c.requires.within, c.requires.some)

pub overflow_cast-whole : goal.overflow_cast-whole
overflow_cast-whole g c = omega (arith, positions_small (single_of_item c.args.item.now.single.now) c.requires.within, c.requires.hull.size)

pub overflow_add-whole : goal.overflow_add-whole
overflow_add-whole g c = omega (arith, positions_small (single_of_item c.args.item.now.single.now) c.requires.within, c.requires.hull.size)

pub unreachable-requires : goal.unreachable-requires
unreachable-requires g c =
    let s = single_of_item c.args.item.now.single.now in
    let xs = c.args.potentials.now in
    let p = length xs + 1 in
    let period = period_in s p c.requires.within (omega arith) (omega (arith, c.requires.some)) in
    let x = line_cost s (line_of s xs c.args.period) p in
    let reached = met_here s xs c.args.period p c.args.level x c.args.slots.now c.requires.hull (c.requires.hull.met c.args.period p (omega (arith, c.requires.period, period.low)) (omega arith) (omega arith) (omega (arith, c.requires.some))) in
    subst (λ o. CostsAtMost (line_cost s) o p x) c.in-None.is (c.cheapest.ensures.least x reached)

pub returns-clause-cheapest : goal.returns-clause-cheapest
returns-clause-cheapest g c =
    let s = single_of_item c.args.item.now.single.now in
    let xs = c.args.potentials.now in
    let p = length xs + 1 in
    let kept = subst (IsKept c.args.slots.now) c.in-Some.is c.cheapest.ensures.kept in
    found_is s xs c.args.period p c.args.level kept.0 c.in-Some.line c.args.slots.now c.requires.no_backlog c.requires.hull c.requires.period (omega arith) (omega (arith, c.requires.some)) kept.1 kept.2 (λ x reached. subst (λ o. CostsAtMost (line_cost s) o p x) c.in-Some.is (c.cheapest.ensures.least x (met_here s xs c.args.period p c.args.level x c.args.slots.now c.requires.hull reached)))

use Rattle.std.proofs.Common.{◌<◌, refl, arith}
use Rattle.echelon.specs.Views.{single_of_item}
use Rattle.wagner_whitin.specs.Lines.{line_cost, slot_at, middle_of}
use Rattle.wagner_whitin.proofs.Kept.{halved}
use Rattle.wagner_whitin.proofs.Reached.{middle_high}
use Rattle.wagner_whitin.proofs.Nearest.{least_left, least_right, least_here}
use Rattle.wagner_whitin.proofs.hull.+cheapest.Goals as goal

pub cheapest-left-requires : goal.cheapest-left-requires
cheapest-left-requires g t c κs within =
    let some : c.args.stretch.low < c.args.stretch.high = omega (arith, c.requires.at_low, c.requires.at_high) in
    let half = halved c.args.stretch.level c.args.stretch.low c.args.stretch.high some c.requires.level in
    (omega (arith, half.some), (within, (c.requires.within, (c.requires.no_backlog, (c.requires.sums, (c.requires.lines, (c.requires.size, (c.requires.low, (c.requires.at_low, (c.if-position-middle.true, (omega (arith, middle_high c.args.stretch.low c.args.stretch.high some, c.requires.high), half.left)))))))))))

pub cheapest-right-requires : goal.cheapest-right-requires
cheapest-right-requires g t c κs within =
    let some : c.args.stretch.low < c.args.stretch.high = omega (arith, c.requires.at_low, c.requires.at_high) in
    let half = halved c.args.stretch.level c.args.stretch.low c.args.stretch.high some c.requires.level in
    (omega (arith, half.some), (within, (c.requires.within, (c.requires.no_backlog, (c.requires.sums, (c.requires.lines, (c.requires.size, (omega arith, (omega (arith, c.if-middle-position.true), (c.requires.at_high, (c.requires.high, half.right)))))))))))

pub returns-then-position-middle-clause-least : goal.returns-then-position-middle-clause-least
returns-then-position-middle-clause-least g t c x =
    let some : c.args.stretch.low < c.args.stretch.high = omega (arith, c.requires.at_low, c.requires.at_high) in
    let half = halved c.args.stretch.level c.args.stretch.low c.args.stretch.high some c.requires.level in
    let here = slot_at c.args.slots.now (middle_of c.args.stretch.low c.args.stretch.high) in
    least_left (line_cost (single_of_item c.args.item.now.single.now)) c.args.slots.now c.args.stretch.level c.args.stretch.low c.args.stretch.high c.args.position x here c.cheapest-left.result c.cheaper.result half.some c.if-position-middle.true refl (c.cheaper.ensures.least x) (c.cheaper.ensures.least_other x) (c.cheapest-left.ensures.least x)

pub returns-then-middle-position-clause-least : goal.returns-then-middle-position-clause-least
returns-then-middle-position-clause-least g t c x =
    let some : c.args.stretch.low < c.args.stretch.high = omega (arith, c.requires.at_low, c.requires.at_high) in
    let half = halved c.args.stretch.level c.args.stretch.low c.args.stretch.high some c.requires.level in
    let here = slot_at c.args.slots.now (middle_of c.args.stretch.low c.args.stretch.high) in
    least_right (line_cost (single_of_item c.args.item.now.single.now)) c.args.slots.now c.args.stretch.level c.args.stretch.low c.args.stretch.high c.args.position x here c.cheapest-right.result c.cheaper-then-middle-position.result half.some c.if-middle-position.true refl (c.cheaper-then-middle-position.ensures.least x) (c.cheaper-then-middle-position.ensures.least_other x) (c.cheapest-right.ensures.least x)

pub returns-else-middle-position-clause-least : goal.returns-else-middle-position-clause-least
returns-else-middle-position-clause-least g t c x =
    least_here (line_cost (single_of_item c.args.item.now.single.now)) c.args.slots.now c.args.stretch.level c.args.stretch.low c.args.stretch.high c.args.position x (slot_at c.args.slots.now (middle_of c.args.stretch.low c.args.stretch.high)) c.if-middle-position.false c.if-position-middle.false refl

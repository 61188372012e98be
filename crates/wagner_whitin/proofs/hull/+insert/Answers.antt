use Rattle.std.proofs.Common.{◌<◌, ◌∙◌, arith}
use Rattle.echelon.specs.Views.{single_of_item}
use Rattle.wagner_whitin.specs.Lines.{line_cost}
use Rattle.wagner_whitin.proofs.Reached.{ArePaired}
use Rattle.wagner_whitin.proofs.Kept.{halved, swapped, past, placed, went_right, went_left}
use Rattle.wagner_whitin.proofs.hull.+insert.Goals as goal

pub insert-requires : goal.insert-requires
insert-requires g t c κs within =
    let some : c.args.stretch.low < c.args.stretch.high = omega arith in
    let half = halved c.args.stretch.level c.args.stretch.low c.args.stretch.high some c.requires.level in
    (omega (arith, half.some), (within, (c.requires.within, (c.requires.no_backlog, (c.requires.sums, (c.requires.line, (c.requires.lines, (c.requires.size, (omega arith, (c.requires.high, half.right))))))))))

pub returns-then-middle-from-clause-inserted : goal.returns-then-middle-from-clause-inserted
returns-then-middle-from-clause-inserted g t c =
    let s = single_of_item c.args.item.now.single.now in
    let some : c.args.stretch.low < c.args.stretch.high = omega arith in
    past (line_cost s) c.args.from c.args.stretch.level c.args.stretch.low c.args.stretch.high c.args.line c.args.slots.now c.insert.new.slots some c.requires.level c.if-middle-from.true c.insert.ensures.inserted

pub returns-in_default-clause-inserted : goal.returns-in_default-clause-inserted
returns-in_default-clause-inserted g t c =
    let s = single_of_item c.args.item.now.single.now in
    let some : c.args.stretch.low < c.args.stretch.high = omega arith in
    placed (line_cost s) c.args.from c.args.stretch.level c.args.stretch.low c.args.stretch.high c.args.line c.args.slots.now c.requires.low some (omega (arith, c.requires.high, c.requires.size)) c.requires.level c.in_default.is

pub insert-requires-then-is_no_dearer : goal.insert-requires-then-is_no_dearer
insert-requires-then-is_no_dearer g t c κs within =
    let s = single_of_item c.args.item.now.single.now in
    let some : c.args.stretch.low < c.args.stretch.high = omega arith in
    let there = c.in-Some.is in
    let pair : ArePaired c.args.line c.in-Some.other c.ordered.result.0 c.ordered.result.1 = record { either = c.ordered.ensures.either } in
    let is = swapped s c.args.from c.args.stretch.level c.args.stretch.low c.args.stretch.high c.args.line c.in-Some.other c.ordered.result.0 c.ordered.result.1 c.args.slots.now c.requires.low some (omega (arith, c.requires.high, c.requires.size)) c.requires.level c.requires.line c.requires.lines there pair in
    (omega (arith, is.halved.some), (within, (c.requires.within, (c.requires.no_backlog, (c.requires.sums, (is.rest_line, (is.lines, (is.size ∙ c.requires.size, (omega arith, (c.requires.high, is.halved.right))))))))))

pub insert-requires-else-is_no_dearer : goal.insert-requires-else-is_no_dearer
insert-requires-else-is_no_dearer g t c κs within =
    let s = single_of_item c.args.item.now.single.now in
    let some : c.args.stretch.low < c.args.stretch.high = omega arith in
    let there = c.in-Some.is in
    let pair : ArePaired c.args.line c.in-Some.other c.ordered.result.0 c.ordered.result.1 = record { either = c.ordered.ensures.either } in
    let is = swapped s c.args.from c.args.stretch.level c.args.stretch.low c.args.stretch.high c.args.line c.in-Some.other c.ordered.result.0 c.ordered.result.1 c.args.slots.now c.requires.low some (omega (arith, c.requires.high, c.requires.size)) c.requires.level c.requires.line c.requires.lines there pair in
    (omega (arith, is.halved.some), (within, (c.requires.within, (c.requires.no_backlog, (c.requires.sums, (is.rest_line, (is.lines, (is.size ∙ c.requires.size, (c.requires.low, (omega (arith, is.last, c.requires.high), is.halved.left))))))))))

pub returns-then-is_no_dearer-clause-inserted : goal.returns-then-is_no_dearer-clause-inserted
returns-then-is_no_dearer-clause-inserted g t c =
    let s = single_of_item c.args.item.now.single.now in
    let some : c.args.stretch.low < c.args.stretch.high = omega arith in
    let there = c.in-Some.is in
    let pair : ArePaired c.args.line c.in-Some.other c.ordered.result.0 c.ordered.result.1 = record { either = c.ordered.ensures.either } in
    let is = swapped s c.args.from c.args.stretch.level c.args.stretch.low c.args.stretch.high c.args.line c.in-Some.other c.ordered.result.0 c.ordered.result.1 c.args.slots.now c.requires.low some (omega (arith, c.requires.high, c.requires.size)) c.requires.level c.requires.line c.requires.lines there pair in
    went_right s c.args.from c.args.stretch.level c.args.stretch.low c.args.stretch.high c.args.line c.in-Some.other c.ordered.result.0 c.ordered.result.1 c.args.slots.now c.insert-then-is_no_dearer.new.slots c.requires.no_backlog c.requires.low some c.requires.high is pair there c.ordered.ensures.order (c.is_no_dearer.ensures.yes c.if-is_no_dearer.true) c.insert-then-is_no_dearer.ensures.inserted

pub returns-else-is_no_dearer-clause-inserted : goal.returns-else-is_no_dearer-clause-inserted
returns-else-is_no_dearer-clause-inserted g t c =
    let s = single_of_item c.args.item.now.single.now in
    let some : c.args.stretch.low < c.args.stretch.high = omega arith in
    let there = c.in-Some.is in
    let pair : ArePaired c.args.line c.in-Some.other c.ordered.result.0 c.ordered.result.1 = record { either = c.ordered.ensures.either } in
    let is = swapped s c.args.from c.args.stretch.level c.args.stretch.low c.args.stretch.high c.args.line c.in-Some.other c.ordered.result.0 c.ordered.result.1 c.args.slots.now c.requires.low some (omega (arith, c.requires.high, c.requires.size)) c.requires.level c.requires.line c.requires.lines there pair in
    went_left s c.args.from c.args.stretch.level c.args.stretch.low c.args.stretch.high c.args.line c.in-Some.other c.ordered.result.0 c.ordered.result.1 c.args.slots.now c.insert-else-is_no_dearer.new.slots c.requires.no_backlog c.requires.low some c.requires.high c.if-middle-from.false is pair there c.ordered.ensures.order (c.is_no_dearer.ensures.no c.if-is_no_dearer.false) c.insert-else-is_no_dearer.ensures.inserted

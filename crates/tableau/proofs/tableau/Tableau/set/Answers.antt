use Rattle.std.proofs.Common.{rules, ◌≡◌, ◌*◌, ◌+◌, ◌-◌, ◌∙◌, arith, length}
use Rattle.std.proofs.lemmas.List.{length-set}
use Rattle.std.specs.Prelude.{slice_set}
use Rattle.tableau.proofs.Apart.{constant_set, marked_held, other_set, set_held}
use Rattle.tableau.proofs.tableau.Tableau.set.Goals as goal

pub returns-then-column-eq0 : goal.returns-then-column-eq0
returns-then-column-eq0 c =
    let cs = c.self.inside.constants.items in
    set_held c.self.inside.basic.items c.self.inside.nonbasic.items c.self.inside.constants.items c.self.inside.cells.items c.args.self.now c.args.row c.args.column c.self.view_is c.requires.row c.requires.column (slice_set cs c.args.row c.args.value) c.self.inside.cells.items c.args.value (constant_set c.self.inside.basic.items c.self.inside.nonbasic.items c.self.inside.constants.items c.self.inside.cells.items c.args.self.now c.args.row c.args.column c.self.view_is c.requires.row c.requires.column c.args.value c.if-column-eq0.true c.self.invariant.constants)

pub returns-else-column-eq0 : goal.returns-else-column-eq0
returns-else-column-eq0 c =
    let w : c.len-width.result ≡ length c.self.inside.nonbasic.items = search (rules, c.len-width.ensures) in
    let xs = c.self.inside.cells.items in
    set_held c.self.inside.basic.items c.self.inside.nonbasic.items c.self.inside.constants.items c.self.inside.cells.items c.args.self.now c.args.row c.args.column c.self.view_is c.requires.row c.requires.column c.self.inside.constants.items (slice_set xs (c.args.row * (c.len-width.result - 1) + (c.args.column - 1)) c.args.value) c.args.value (other_set c.self.inside.basic.items c.self.inside.nonbasic.items c.self.inside.constants.items c.self.inside.cells.items c.args.self.now c.args.row c.args.column c.self.view_is c.requires.row c.requires.column c.args.value c.len-width.result c.if-column-eq0.false w c.self.invariant.cells)

pub invariant_of-self-else-column-eq0 : goal.invariant_of-self-else-column-eq0
invariant_of-self-else-column-eq0 c =
    let cs = c.self.inside.constants.items in
    let xs = c.self.inside.cells.items in
    let w : c.len-width.result ≡ length c.self.inside.nonbasic.items = search (rules, c.len-width.ensures) in
    let place = c.args.row * (c.len-width.result - 1) + (c.args.column - 1) in
    record {
      rows = c.self.invariant.rows;
      columns = c.self.invariant.columns;
      constants = c.self.invariant.constants;
      cells = length-set xs place c.args.value ∙ c.self.invariant.cells;
      marks = omega (arith, c.self.invariant.marks, c.mark.ensures.size);
      marked = marked_held c.self.inside.basic.items c.self.inside.nonbasic.items c.self.inside.constants.items c.self.inside.cells.items c.args.self.now c.args.row c.args.column c.self.view_is c.requires.row c.requires.column c.self.inside.marks.items c.mark.new.marks.items cs (slice_set xs place c.args.value) c.args.value c.mark_place-place.result c.mark_place-place.ensures c.self.invariant.marked c.mark.ensures.kept c.mark.ensures.here (other_set c.self.inside.basic.items c.self.inside.nonbasic.items c.self.inside.constants.items c.self.inside.cells.items c.args.self.now c.args.row c.args.column c.self.view_is c.requires.row c.requires.column c.args.value c.len-width.result c.if-column-eq0.false w c.self.invariant.cells);
    }

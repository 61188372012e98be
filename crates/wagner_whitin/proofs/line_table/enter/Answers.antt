use Rattle.std.proofs.Common.{◌+◌, arith, length}
use Rattle.echelon.specs.Views.{single_of_item}
use Rattle.wagner_whitin.proofs.Serving.{positions_small}
use Rattle.wagner_whitin.proofs.Progress.{new_line, new_is, hull_next, more_steps}
use Rattle.wagner_whitin.proofs.line_table.enter.Goals as goal

pub overflow_cast-first : goal.overflow_cast-first
overflow_cast-first g c = omega (arith, positions_small (single_of_item c.args.item.now.single.now) c.requires.within, c.requires.some)

pub overflow_add-first : goal.overflow_add-first
overflow_add-first g c = omega (arith, positions_small (single_of_item c.args.item.now.single.now) c.requires.within, c.requires.some)

pub overflow_cast-whole : goal.overflow_cast-whole
overflow_cast-whole g c = omega (arith, positions_small (single_of_item c.args.item.now.single.now) c.requires.within, c.requires.hull.size)

pub overflow_add-whole : goal.overflow_add-whole
overflow_add-whole g c = omega (arith, positions_small (single_of_item c.args.item.now.single.now) c.requires.within, c.requires.hull.size)

pub insert-requires-clause-line : goal.insert-requires-clause-line
insert-requires-clause-line g c =
    let s = single_of_item c.args.item.now.single.now in
    let begins = c.requires.entries c.loop-server.server (omega arith) (omega (arith, c.loop-server-test.true)) in
    (new_is s c.args.potentials.now c.loop-server.server c.last_potential-before.result c.index.result.now c.requires.within c.requires.no_backlog c.requires.some c.requires.small (omega arith) (omega (arith, c.loop-server-test.true, c.requires.high)) begins c.last_potential-before.ensures.value c.index.ensures).line

pub loop-server-preserved : goal.loop-server-preserved
loop-server-preserved g c =
    let s = single_of_item c.args.item.now.single.now in
    let xs = c.args.potentials.now in
    let u = c.loop-server.server in
    let begins = c.requires.entries u (omega arith) (omega (arith, c.loop-server-test.true)) in
    let is = new_is s c.args.potentials.now c.loop-server.server c.last_potential-before.result c.index.result.now c.requires.within c.requires.no_backlog c.requires.some c.requires.small (omega arith) (omega (arith, c.loop-server-test.true, c.requires.high)) begins c.last_potential-before.ensures.value c.index.ensures in
    record {
      high = omega (arith, c.loop-server-test.true);
      hull = hull_next s xs u c.args.level (length c.args.slots.now + 1) (new_line xs u c.last_potential-before.result c.index.result.now) c.loop-server.slots c.insert.new.slots (omega arith) (omega (arith, c.requires.hull.size)) c.loop-server.invariant.hull is.line is.own begins c.insert.ensures.inserted;
      steps = more_steps u c.args.servers.after c.args.level c.args.steps.now c.loop-server.steps c.insert.new.steps (omega arith) c.loop-server.invariant.steps c.insert.ensures.steps;
    }

use Rattle.std.proofs.Common.{◌≡◌, arith, refl}
use Rattle.tableau.proofs.Stepwise.{at_end, if_ended, known_end, known_on, moved_on, said_end}
use Rattle.tableau.proofs.program.Lp.solve.Goals as goal

pub returns-in-Ended-clause-outcome : goal.returns-in-Ended-clause-outcome
returns-in-Ended-clause-outcome c =
    let end = said_end c.args.self.now c.loop-made.made c.loop-made.run c.step.new.self c.loop-made.invariant c.in-Ended.ensures in
    if_ended c.args.self.now c.loop-made.made c.args.pivots c.finish.result (omega (arith, c.loop-made-test.true)) c.finish.ensures.outcome (c.finish.ensures.length c.loop-made.made end)

pub finish-requires-then-has_ended : goal.finish-requires-then-has_ended
finish-requires-then-has_ended c = at_end c.args.self.now c.loop-made.made c.loop-made.run (known_end c.args.self.now c.loop-made.made c.loop-made.run c.loop-made.invariant c.if-has_ended.ensures)

pub returns-then-has_ended-clause-outcome : goal.returns-then-has_ended-clause-outcome
returns-then-has_ended-clause-outcome c =
    let end = known_end c.args.self.now c.loop-made.made c.loop-made.run c.loop-made.invariant c.if-has_ended.ensures in
    if_ended c.args.self.now c.loop-made.made c.args.pivots c.finish-then-has_ended.result (omega (arith, c.loop-made.auto.made-end)) c.finish-then-has_ended.ensures.outcome (c.finish-then-has_ended.ensures.length c.loop-made.made end)

pub returns-else-has_ended-clause-outcome : goal.returns-else-has_ended-clause-outcome
returns-else-has_ended-clause-outcome c =
    let same : c.loop-made.made ≡ c.args.pivots = omega (arith, c.loop-made.auto.made-end, c.loop-made-test.false) in
    (refl, known_on c.args.self.now c.loop-made.made c.args.pivots c.loop-made.run same c.loop-made.invariant c.if-has_ended.ensures)

pub loop-made-preserved : goal.loop-made-preserved
loop-made-preserved c = moved_on c.args.self.now c.loop-made.made c.loop-made.run c.step.new.self c.loop-made.invariant c.in-Moved.ensures

use Rattle.report.proofs.GeneratedDraws.{picks_step}
use Rattle.report.proofs.generating_draws.picks.Goals as goal

pub loop-done-preserved : goal.loop-done-preserved
loop-done-preserved c = picks_step c.args.low c.args.high c.loop-done._done c.args.rng.now c.loop-done.rng c.pick.new.rng c.loop-done.list.items c.push.new.self.items c.pick.result c.loop-done.invariant c.pick.ensures c.in_ok-push.ensures.items

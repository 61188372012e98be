use Rattle.std.proofs.Common.{arith}
use Rattle.uncoupled.proofs.Making.{once_next}
use Rattle.uncoupled.proofs.blocks.cuts_once.Goals as goal

pub loop-cut-preserved : goal.loop-cut-preserved
loop-cut-preserved c = once_next c.loop-cut.parts.items c.push.new.self.items c.loop-cut.cut c.args.count (omega arith) c.loop-cut.invariant c.in_ok-push.ensures.items

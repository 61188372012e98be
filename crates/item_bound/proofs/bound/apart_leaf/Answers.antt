use Rattle.std.proofs.Common.{arith}
use Rattle.item_bound.proofs.Lines.{leaf_lines}
use Rattle.item_bound.proofs.Making.{once_next}
use Rattle.item_bound.proofs.bound.apart_leaf.Goals as goal

pub loop-place-preserved : goal.loop-place-preserved
loop-place-preserved c = once_next c.loop-place.parts.items c.push.new.self.items c.args.before c.loop-place.place c.args.count (omega arith) c.loop-place.invariant c.in_ok-push.ensures.items

pub returns-clause-lines : goal.returns-clause-lines
returns-clause-lines c = λ most version. leaf_lines version c.args.before c.args.count c.requires most

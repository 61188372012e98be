use Rattle.std.proofs.Common.{sym, arith}
use Rattle.item_bound.proofs.Taken.{goes_into}
use Rattle.item_bound.proofs.item.is_component.Goals as goal

pub returns-then-per_unit-gt0 : goal.returns-then-per_unit-gt0
returns-then-per_unit-gt0 c = sym (goes_into c.args.instance.now c.args.item c.loop-other.other (omega arith) (omega arith) (omega arith))

use Rattle.std.proofs.Common.{refl}
use Rattle.plan_page.specs.Items.{stock_start}
use Rattle.plan_page.proofs.items.add_opening.Goals as goal

pub returns : goal.returns
unfolding stock_start
returns c = rw (c.in_ok-write.ensures.bytes, c.level-y.ensures) refl

use Rattle.std.proofs.Common.{refl}
use Rattle.plan_page.specs.Cells.{stock_mark}
use Rattle.plan_page.proofs.cells.add_stock.Goals as goal

pub returns : goal.returns
unfolding stock_mark
returns c = rw (c.in_ok-write.ensures.bytes, c.right_of-x.ensures.value, c.level-y.ensures) refl

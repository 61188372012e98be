use Rattle.std.proofs.Common.{refl}
use Rattle.plan_page.specs.Items.{item_row_at}
use Rattle.plan_page.proofs.items.add_row_at.Goals as goal

pub returns : goal.returns
unfolding item_row_at
returns c = rw (c.in_ok-add_row.ensures, c.cell_of-cell.ensures.value) refl

use Rattle.std.proofs.Common.{refl}
use Rattle.plan_page.specs.Costs.{part_row}
use Rattle.plan_page.proofs.costs.add_part_row.Goals as goal

pub returns : goal.returns
unfolding part_row
returns c = rw (c.in_ok-write.ensures.bytes, c.share-percent.ensures) refl

use Rattle.std.proofs.Common.{append_assoc}
use Rattle.plan_page.specs.Costs.{cost_row}
use Rattle.plan_page.proofs.costs.add_cost_row.Goals as goal

pub returns : goal.returns
unfolding cost_row
returns c = rw (c.in_ok-add_back.ensures, c.in_ok-add_front.ensures) (simp append_assoc)

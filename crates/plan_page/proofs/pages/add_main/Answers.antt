use Rattle.std.proofs.Common.{append_assoc}
use Rattle.plan_page.specs.Page.{main_text}
use Rattle.plan_page.proofs.pages.add_main.Goals as goal

pub returns : goal.returns
unfolding main_text
returns c = rw (c.in_ok-add_end.ensures, c.in_ok-add_items.ensures, c.in_ok-add_marks.ensures, c.in_ok-add_resources.ensures, c.in_ok-add_costs.ensures, c.in_ok-add_proof.ensures, c.in_ok-add_key.ensures, c.in_ok-add_title.ensures, c.plan_cost-cost.ensures.value) (simp append_assoc)

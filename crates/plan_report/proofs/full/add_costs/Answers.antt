use Rattle.std.proofs.Common.{append_assoc}
use Rattle.plan_report.specs.Full.{costs_text}
use Rattle.plan_report.proofs.full.add_costs.Goals as goal

pub returns : goal.returns
unfolding costs_text
returns c = rw (c.in_ok-push_str-6.ensures.bytes, c.in_ok-add_quantity-5.ensures, c.in_ok-push_str-5.ensures.bytes, c.in_ok-add_quantity-4.ensures, c.in_ok-push_str-4.ensures.bytes, c.in_ok-add_quantity-3.ensures, c.in_ok-push_str-3.ensures.bytes, c.in_ok-add_quantity-2.ensures, c.in_ok-push_str-2.ensures.bytes, c.in_ok-add_quantity.ensures, c.in_ok-push_str.ensures.bytes) (simp append_assoc)

use Rattle.std.proofs.Common.{◌≡◌, ◌≤◌, ◌-◌, ◌*◌, ◌^◌, ◌++◌, string_bytes}
use Rattle.lot_sizing.specs.Texts.{join_to}
use Rattle.plan_rules.specs.Held.{plan_of}
use Rattle.plan_page.specs.Loads.{stack, time_to}
use Rattle.plan_page.proofs.loads.add_stacks.Given as goal

-- the marks of the items so far, and the time that they use
abbrev pub invariant-loop-item : goal.invariant-loop-item
invariant-loop-item l = record {
  text : string_bytes l.text ≡ string_bytes l.fn.text ++ join_to (l.item - 1) (λ i. stack l.chart l.instance (plan_of l.plan) l.resource l.period i (time_to l.instance (plan_of l.plan) l.resource l.period (i - 1)));
  used : l.used ≡ time_to l.instance (plan_of l.plan) l.resource l.period (l.item - 1);
  small : l.used ≤ (l.item - 1) * 2 ^ 101;
}

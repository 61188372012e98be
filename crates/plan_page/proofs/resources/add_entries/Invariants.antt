use Rattle.std.proofs.Common.{◌≡◌, ◌-◌, ◌++◌, string_bytes}
use Rattle.lot_sizing.specs.Texts.{join_to}
use Rattle.plan_page.specs.Resources.{legend_entry}
use Rattle.plan_page.proofs.resources.add_entries.Given as goal

-- what is added so far
abbrev pub invariant-loop-item : goal.invariant-loop-item
invariant-loop-item l = string_bytes l.text ≡ string_bytes l.fn.text ++ join_to (l.item - 1) (legend_entry l.instance l.resource)

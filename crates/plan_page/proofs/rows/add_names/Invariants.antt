use Rattle.std.proofs.Common.{◌≡◌, ◌-◌, ◌++◌, string_bytes}
use Rattle.lot_sizing.specs.Texts.{join_to}
use Rattle.plan_page.specs.Rows.{name_cell}
use Rattle.plan_page.proofs.rows.add_names.Given as goal

-- what is added so far
abbrev pub invariant-loop-item : goal.invariant-loop-item
invariant-loop-item l = string_bytes l.text ≡ string_bytes l.fn.text ++ join_to (l.item - 1) (name_cell l.instance l.resource)

use Rattle.std.proofs.Common.{◌≡◌, ◌-◌, ◌++◌, string_bytes}
use Rattle.lot_sizing.specs.Texts.{join_to}
use Rattle.plan_page.specs.Framing.{item_link}
use Rattle.plan_page.proofs.framing.add_items.Given as goal

-- the links so far
abbrev pub invariant-loop-item : goal.invariant-loop-item
invariant-loop-item l = string_bytes l.text ≡ string_bytes l.fn.text ++ join_to (l.item - 1) (item_link l.instance)

use Rattle.std.proofs.Common.{◌≡◌, map, take}
use Rattle.lot_model.proofs.totals.bill_lines.Given as goal

abbrev pub invariant-loop-item : goal.invariant-loop-item
invariant-loop-item l = map (λ list. list.now) l.lines.items ≡ map (λ a. a.needs) (take l.item-index l.items)

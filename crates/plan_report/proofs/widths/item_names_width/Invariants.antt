use Rattle.std.proofs.Common.{◌≡◌, ◌-◌, length}
use Rattle.lot_sizing.specs.Problem.{item_at}
use Rattle.plan_report.specs.Widths.{max_to}
use Rattle.plan_report.proofs.widths.item_names_width.Given as goal

-- the longest so far
abbrev pub invariant-loop-item : goal.invariant-loop-item
invariant-loop-item l = l.widest ≡ max_to (l.item - 1) (λ i. length (item_at l.instance i).name)

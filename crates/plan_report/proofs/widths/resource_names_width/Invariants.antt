use Rattle.std.proofs.Common.{◌≡◌, ◌-◌, length}
use Rattle.lot_sizing.specs.Problem.{resource_at}
use Rattle.plan_report.specs.Widths.{max_to}
use Rattle.plan_report.proofs.widths.resource_names_width.Given as goal

-- the longest so far
abbrev pub invariant-loop-resource : goal.invariant-loop-resource
invariant-loop-resource l = l.widest ≡ max_to (l.resource - 1) (λ k. length (resource_at l.instance k).name)

use Rattle.std.proofs.Common.{◌-◌}
use Rattle.lot_sizing.specs.Problem.{entry}
use Rattle.late_starts.specs.Rows.{capped}
use Rattle.late_starts.specs.Steps.{HasEach, load_by}
use Rattle.late_starts.proofs.charging.loads_of.Given as goal

abbrev pub invariant-loop-period : goal.invariant-loop-period
invariant-loop-period l = HasEach (l.period - 1) (λ v. capped (load_by l.instance l.arriving (entry l.shares v) l.item v)) l.list.items

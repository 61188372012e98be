use Rattle.std.proofs.Common.{◌≡◌, ◌-◌, length}
use Rattle.heur_build.proofs.construction.row_totals.Given as goal

abbrev pub invariant-loop-item : goal.invariant-loop-item
invariant-loop-item l = length l.totals.items ≡ l.item - 1

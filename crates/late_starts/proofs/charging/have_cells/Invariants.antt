use Rattle.std.proofs.Common.{◌≡◌, ℕ, ◌≤◌, ◌<◌, length, map}
use Rattle.must_start.specs.Rows.{row_in}
use Rattle.late_starts.proofs.charging.have_cells.Given as goal

abbrev pub invariant-loop-item : goal.invariant-loop-item
invariant-loop-item l = (i : ℕ) → 1 ≤ i → i < l.item → length (row_in (map (λ v. v.items) l.rows) i) ≡ l.instance.periods

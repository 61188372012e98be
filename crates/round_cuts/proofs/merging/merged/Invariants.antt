use Rattle.std.proofs.Common.{◌≤◌, ◌<◌, ℕ, length, take, slice_index_or}
use Rattle.lin_rows.specs.declared.row.Term.{Term}
use Rattle.lin_rows.specs.Columns.{order_of}
use Rattle.round_cuts.proofs.Stretches.{IsStretchOf}
use Rattle.round_cuts.proofs.merging.merged.Given as goal

abbrev pub invariant-loop-place : goal.invariant-loop-place
invariant-loop-place l = record {
  stretch : IsStretchOf (take l.place l.terms) l.done.items l.stretch;
  later : (j : ℕ) (d : Term) → l.place ≤ j → j < length l.terms → order_of l.stretch.column ≤ order_of (slice_index_or l.terms j d).column;
}

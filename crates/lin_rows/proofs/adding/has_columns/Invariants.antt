use Rattle.std.proofs.Common.{take}
use Rattle.lin_rows.specs.Sums.{AreWithin}
use Rattle.lin_rows.proofs.adding.has_columns.Given as goal

abbrev pub invariant-loop-place : goal.invariant-loop-place
invariant-loop-place l = AreWithin l.sums (take l.place l.terms)

use Rattle.std.proofs.Common.{take}
use Rattle.lin_rows.specs.Sums.{EachHasRoom}
use Rattle.lin_rows.proofs.adding.fits_added.Given as goal

abbrev pub invariant-loop-place : goal.invariant-loop-place
invariant-loop-place l = EachHasRoom l.sums (take l.place l.terms) l.times

use Rattle.std.proofs.Common.{take}
use Rattle.lin_rows.specs.Combining.{AreSigned}
use Rattle.round_cuts.proofs.products.are_signed.Given as goal

abbrev pub invariant-loop-place : goal.invariant-loop-place
invariant-loop-place l = AreSigned (take l.place l.rows) (take l.place l.multipliers)

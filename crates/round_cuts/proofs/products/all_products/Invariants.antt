use Rattle.std.proofs.Common.{take}
use Rattle.round_cuts.specs.Merging.{AreProducts}
use Rattle.round_cuts.proofs.products.all_products.Given as goal

abbrev pub invariant-loop-place : goal.invariant-loop-place
invariant-loop-place l = AreProducts (take l.place l.rows) (take l.place l.multipliers) l.made.items

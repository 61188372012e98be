use Rattle.std.proofs.Common.{take}
use Rattle.cert_checker.specs.Cuts.{AreRowsOf}
use Rattle.cert_checker.proofs.cut_rounding.rows_of.Given as goal

abbrev pub invariant-loop-place : goal.invariant-loop-place
invariant-loop-place l = AreRowsOf l.instance l.earlier (take l.place l.parts) l.rows.items

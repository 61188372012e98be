use Rattle.std.proofs.Common.{◌≤◌, ℕ, length, map}
use Rattle.std.specs.List.{All}
use Rattle.lot_sizing.specs.declared.limits.TheConstants.{MAX_BILL_LINES}
use Rattle.bill.specs.Lines.{IsLine, lines_of}
use Rattle.bill.proofs.lines.is_bill.Given as goal

abbrev pub invariant-loop-place : goal.invariant-loop-place
invariant-loop-place l = (j : ℕ) → 1 ≤ j → j ≤ l.place → (length (lines_of (map (λ list. list.now) l.lines) j) ≤ MAX_BILL_LINES) × All (IsLine (length l.lines)) (lines_of (map (λ list. list.now) l.lines) j)

-- The rows of cuts, as they are read.
use Rattle.std.specs.Prelude.{ℕ, List}
use Rattle.lot_sizing.specs.Problem.{Problem}
use Rattle.lin_rows.specs.Rows.{LinRow}
use Rattle.cert_lines.specs.Shapes.{CutShape}
use Rattle.cert_trees.specs.Ranges.{WithTotals}
use Rattle.cert_meaning.specs.Accepts.{IsSmallCut}
use Rattle.cert_meaning.specs.CutRows.{IsCutRow}
use Rattle.cert_checker.specs.declared.fault.Why.{Why}
use Rattle.cert_checker.specs.Cuts.{IsCutFault, OfProblem}
use Rattle.cert_checker.specs.Checks.{IsCutsFault}

-- the cut has this row after the rows of earlier ones, and its sums are small
abbrev pub IsRowOf : Problem → List LinRow → CutShape → LinRow → Type 0
IsRowOf m earlier cut row =
    OfProblem m (λ total weight. IsCutRow m total weight earlier cut row) × WithTotals m (λ total. IsSmallCut m total earlier cut)

-- why the cut on this line has no row, whatever the largest totals and the weights are
abbrev pub CutIsRefused : Problem → List LinRow → CutShape → (line at : ℕ) → Why → Type 0
CutIsRefused m earlier cut line at w = OfProblem m (λ total weight. IsCutFault m total weight earlier cut line at w)

-- why the first of the cuts that has no row has none
abbrev pub CutsAreRefused : Problem → List CutShape → (at : ℕ) → Why → Type 0
CutsAreRefused m cuts at w = OfProblem m (λ total weight. IsCutsFault m total weight cuts at w)

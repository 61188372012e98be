-- Rows of the linear model are rows of a program.
use Rattle.std.proofs.Common.{◌≤◌, ◌<◌, ◌+◌, ℕ, arith, Bool, true, false, List, [], ◌∷◌}
use Rattle.std.specs.Prelude.{map, ℤ}
use Rattle.std.specs.List.{All}
use Rattle.std.proofs.lemmas.Int.{ints}
use Rattle.std.proofs.lemmas.List.Elements.{All-head, All-tail}
use Rattle.frac128.specs.Limits.{IsSmall}
use Rattle.lot_sizing.specs.Problem.{IsWithinLimits, Problem}
use Rattle.lin_rows.specs.declared.column.Column.{Column}
use Rattle.lin_rows.specs.declared.row.Term.{Term}
use Rattle.lin_rows.specs.Columns.{IsColumn, column_count, number_of, order_of}
use Rattle.lin_rows.specs.Rows.{AreTerms, LinRow}
use Rattle.lin_rows.proofs.Ranks.{among, numbers_rise}
use Rattle.tableau.specs.Program.{IsRow, AreTerms as AreLpTerms}
use Rattle.lp_relaxation.specs.Laws.{HasSmallNumbers}
use Rattle.lp_relaxation.specs.Sides.{lp_term, turn, turned_row}
use Rattle.lp_relaxation.proofs.Numbering.{Exists}

pub turn_small : (b : Bool) (z : ℤ) → IsSmall z → IsSmall (turn b z)
turn_small true z small = omega (arith, ints, small)
turn_small false z small = small

abbrev SmallTerm : Term → Type 0
SmallTerm a = IsSmall a.times

-- columns that rise have numbers that rise
numbers_are : (m : Problem) (b : Bool) → IsWithinLimits m → (ts : List Term) (low from : ℕ) → AreTerms low ts → All (Exists m) ts → All SmallTerm ts → ((c : Column) → IsColumn m c → low ≤ order_of c → from < number_of m c) → AreLpTerms (column_count m) from (map (lp_term m b) ts)
numbers_are m b within [] low from rises exist small later = tt
numbers_are m b within (a ∷ ts) low from rises exist small later =
    let is = All-head (Exists m) a ts exist in (
      later a.column is rises.0,
      (among m a.column is).1,
      turn_small b a.times (All-head SmallTerm a ts small),
      numbers_are m b within ts (order_of a.column + 1) (number_of m a.column) rises.2 (All-tail (Exists m) a ts exist) (All-tail SmallTerm a ts small) (λ c has high. numbers_rise m c a.column within has is (omega (arith, high))),
    )

pub sides_are_rows : (m : Problem) (turned : Bool) (r : LinRow) → IsWithinLimits m → AreTerms 0 r.terms → All (Exists m) r.terms → HasSmallNumbers r → IsRow (column_count m) (turned_row m turned r)
sides_are_rows m turned r within rises exist small = record {
  terms = numbers_are m turned within r.terms 0 0 rises exist small.terms (λ c has low. let h = among m c has in omega (arith, h.0));
  right = turn_small turned r.right small.right;
}

-- The (l,S) rows hold, they are rows of the linear model, and the lesser parts give the most violated one.
use Rattle.std.specs.Prelude.{◌≡◌, ℕ, ◌≤◌, length, pos}
use Rattle.rational.specs.Rational.{whole, ◌+ℚ◌, ◌*ℚ◌, ◌≤ℚ◌}
use Rattle.lot_sizing.specs.Problem.{Problem}
use Rattle.echelon.specs.declared.net.EchelonItem.{EchelonItem}
use Rattle.echelon.specs.Views.{IsEchelonWithinBounds}
use Rattle.lin_rows.specs.declared.column.Column.{Column}
use Rattle.lin_rows.specs.Columns.{IsColumn}
use Rattle.lin_rows.specs.Rows.{AreTerms, HoldsIn, LinPoint}
use Rattle.echelon_rows.specs.Rows.{Echelon, echelon_in}
use Rattle.echelon_rows.specs.Plans.{AreColumnsOf, AtPlansOf, IsOfItem}
use Rattle.ls_cuts.specs.Rows.{AreAlike, Periods, ls_row}
use Rattle.ls_cuts.specs.Points.{AreFractionsOf, AreMet, Fractions, IsChosen, IsLeast, IsViolated, asked_part, left_side, terms_part}

-- the row of each l and each S holds at the echelon's plans
abbrev pub LsRowsHold : Type 0
LsRowsHold = (e : EchelonItem) → AtPlansOf e (λ p. (l : ℕ) (chosen : Periods) → 1 ≤ l → l ≤ length e.demand.items → HoldsIn p (ls_row (echelon_in e) l chosen))

-- its columns rise, and each problem with the echelon has them
abbrev pub LsRowsAreRows : Type 0
LsRowsAreRows =
    (e : EchelonItem) → IsEchelonWithinBounds e → (l : ℕ) (chosen : Periods) → l ≤ length e.demand.items
    → AreTerms 0 (ls_row (echelon_in e) l chosen).terms × AreColumnsOf e (ls_row (echelon_in e) l chosen).terms

-- its row goes by what the echelon is up to l
abbrev pub AlikeRowsAreOne : Type 0
AlikeRowsAreOne = (l : ℕ) (e g : Echelon) (chosen : Periods) → AreAlike l e g → ls_row e l chosen ≡ ls_row g l chosen

-- a left side is the opening stock and what the row's terms add to
abbrev pub LeftSidesAreRows : Type 0
LeftSidesAreRows = (e : Echelon) (x : Fractions) (l : ℕ) (chosen : Periods) → 1 ≤ l → left_side e x l chosen ≡ whole (pos e.asked.opening) +ℚ terms_part x (ls_row e l chosen).terms

-- the set of the lesser parts has the least left side; where it is below what is asked for its row is violated, and where it isn't all rows are met
pub record Separates (e : Echelon) (x : Fractions) (l : ℕ) (chosen : Periods) : Type 0 where
  pub least : IsLeast e x l chosen
  pub violated : (asked_part e l ≤ℚ left_side e x l chosen → ⊥) → IsViolated e x l chosen
  pub met : asked_part e l ≤ℚ left_side e x l chosen → AreMet e x l

abbrev pub LesserSeparates : Type 0
LesserSeparates = (e : Echelon) (x : Fractions) (l : ℕ) (chosen : Periods) → 1 ≤ l → IsChosen e x l chosen → Separates e x l chosen

-- a point's fractions at all columns of a problem are its fractions at the rows of an echelon of the problem
abbrev pub PointsHaveFractions : Type 0
PointsHaveFractions =
    (m : Problem) (weight : ℕ → ℕ → ℕ) (i : ℕ) (e : EchelonItem) → IsOfItem m weight i e
    → (q : LinPoint) (x : Fractions) → ((c : Column) → IsColumn m c → whole (pos (q.values c)) ≡ whole (pos q.den) *ℚ x c)
    → (l : ℕ) → l ≤ length e.demand.items → AreFractionsOf (echelon_in e) l q x

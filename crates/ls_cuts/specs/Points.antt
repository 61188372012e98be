-- The left side of an (l,S) row at fractions of the columns, and which S makes it least.
use Rattle.std.specs.Prelude.{◌≡◌, ◌↔◌, ℕ, suc, ◌-◌, ◌≤◌, IsTrue, if◌then◌else◌, pos, ◌≤ℤ◌, List}
use Rattle.algebra.specs.Sums.{list_sum_with, sum_with}
use Rattle.rational.specs.Rational.{ℚ, whole, ◌+ℚ◌, ◌*ℚ◌, ◌≤ℚ◌}
use Rattle.lin_rows.specs.declared.column.Column.{Column}
use Rattle.lin_rows.specs.declared.column.Column.TheVariants.{X, Y, R}
use Rattle.lin_rows.specs.declared.row.Term.{Term}
use Rattle.lin_rows.specs.Rows.{HoldsAt, LinPoint, sum_at}
use Rattle.valid_inequalities.specs.Inequalities.{demand_between}
use Rattle.echelon_rows.specs.Rows.{Echelon, owed_times}
use Rattle.ls_cuts.specs.Rows.{Periods, ls_row}

-- a fraction of each column
abbrev pub Fractions : Type 0
Fractions = Column → ℚ

-- f 0 + .. + f (n - 1)
abbrev pub sum_ℚ : ℕ → (ℕ → ℚ) → ℚ
sum_ℚ n f = sum_with ◌+ℚ◌ (whole (pos 0)) n f

-- what terms add to
abbrev pub terms_part : Fractions → List Term → ℚ
terms_part x terms = list_sum_with ◌+ℚ◌ (whole (pos 0)) (λ a. whole a.times *ℚ x a.column) terms

-- R[t]: what the echelon owes at the end of a period, item by item its weight times the backlog, where that is a column
abbrev pub owed_term : Echelon → Fractions → ℕ → ℕ → ℚ
owed_term e x j t = whole (pos (owed_times e j t)) *ℚ x (R j t)

abbrev pub owed_part : Echelon → Fractions → ℕ → ℚ
owed_part e x t = sum_ℚ e.items (λ j. owed_term e x (suc j) t)

-- what is asked for up to l
abbrev pub asked_part : Echelon → ℕ → ℚ
asked_part e l = whole (pos (demand_between e.asked 1 l))

-- D(t,l)*y[t] + R[t-1]: what a period in S adds to the left side
abbrev pub setup_part : Echelon → Fractions → ℕ → ℕ → ℚ
setup_part e x l t = whole (pos (demand_between e.asked t l)) *ℚ x (Y e.item t) +ℚ owed_part e x (t - 1)

-- what a period adds: that where it is in S, and what it makes otherwise
abbrev pub period_part : Echelon → Fractions → ℕ → Periods → ℕ → ℚ
period_part e x l chosen t = if chosen t then setup_part e x l t else x (X e.item t)

-- O + R[l] and what the first n periods add
abbrev pub left_to : Echelon → Fractions → ℕ → Periods → ℕ → ℚ
left_to e x l chosen n = whole (pos e.asked.opening) +ℚ owed_part e x l +ℚ sum_ℚ n (λ t. period_part e x l chosen (suc t))

-- the left side of the row, to which its opening stock is added: the row holds where it is at least what is asked for
abbrev pub left_side : Echelon → Fractions → ℕ → Periods → ℚ
left_side e x l chosen = left_to e x l chosen l

-- a period is in S exactly where its setup adds less than it makes
abbrev pub IsLesser : Echelon → Fractions → ℕ → ℕ → Type 0
IsLesser e x l t = x (X e.item t) ≤ℚ setup_part e x l t → ⊥

abbrev pub IsChosen : Echelon → Fractions → ℕ → Periods → Type 0
IsChosen e x l chosen = (t : ℕ) → 1 ≤ t → t ≤ l → IsTrue (chosen t) ↔ IsLesser e x l t

-- the numerators of a point over its denominator are these fractions, at the columns that rows of this l may take
pub record AreFractionsOf (e : Echelon) (l : ℕ) (q : LinPoint) (x : Fractions) : Type 0 where
  pub units : (t : ℕ) → 1 ≤ t → t ≤ l → whole (pos (q.values (X e.item t))) ≡ whole (pos q.den) *ℚ x (X e.item t)
  pub setups : (t : ℕ) → 1 ≤ t → t ≤ l → whole (pos (q.values (Y e.item t))) ≡ whole (pos q.den) *ℚ x (Y e.item t)
  pub backlogs : (j t : ℕ) → 1 ≤ j → j ≤ e.items → 1 ≤ t → t ≤ l → 1 ≤ owed_times e j t → whole (pos (q.values (R j t))) ≡ whole (pos q.den) *ℚ x (R j t)

-- of all rows of this l none has a lesser left side: in fractions, and at each point of these fractions
pub record IsLeast (e : Echelon) (x : Fractions) (l : ℕ) (chosen : Periods) : Type 0 where
  pub fractions : (other : Periods) → left_side e x l chosen ≤ℚ left_side e x l other
  pub points : (q : LinPoint) → AreFractionsOf e l q x → (other : Periods) → sum_at q.values (ls_row e l chosen).terms ≤ℤ sum_at q.values (ls_row e l other).terms

-- its row is violated: in fractions, and at each point of these fractions
pub record IsViolated (e : Echelon) (x : Fractions) (l : ℕ) (chosen : Periods) : Type 0 where
  pub fractions : asked_part e l ≤ℚ left_side e x l chosen → ⊥
  pub points : (q : LinPoint) → AreFractionsOf e l q x → HoldsAt q (ls_row e l chosen) → ⊥

-- each row of this l is met: in fractions, and at each point of these fractions
pub record AreMet (e : Echelon) (x : Fractions) (l : ℕ) : Type 0 where
  pub fractions : (chosen : Periods) → asked_part e l ≤ℚ left_side e x l chosen
  pub points : (q : LinPoint) → AreFractionsOf e l q x → (chosen : Periods) → HoldsAt q (ls_row e l chosen)

-- the row of this set is violated, and none of this l by more
pub record IsMostViolated (e : Echelon) (x : Fractions) (l : ℕ) (chosen : Periods) : Type 0 where
  pub violated : IsViolated e x l chosen
  pub least : IsLeast e x l chosen

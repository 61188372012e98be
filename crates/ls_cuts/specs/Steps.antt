-- How the most violated (l,S) row is evaluated in fractions of 128 bits, step by step, and which steps fit.
use Rattle.std.specs.Prelude.{◌≡◌, ◌↔◌, ℕ, suc, ◌-◌, ◌≤◌, ◌<◌, Bool, IsTrue, if◌then◌else◌, pos, ◌+ℤ◌, List, length}
use Rattle.rational.specs.Rational.{ℚ, whole, ◌+ℚ◌, ◌*ℚ◌, ◌≤ℚ◌}
use Rattle.frac128.specs.Limits.{Fits, SumFits}
use Rattle.echelon.specs.Views.{marked}
use Rattle.lin_rows.specs.declared.column.Column.TheVariants.{X, Y, R}
use Rattle.valid_inequalities.specs.Inequalities.{demand_between}
use Rattle.echelon_rows.specs.Rows.{Echelon, owed_times}
use Rattle.ls_cuts.specs.Rows.{Periods}
use Rattle.ls_cuts.specs.Points.{Fractions, IsChosen, IsLesser, asked_part, left_side, left_to, owed_part, owed_term, period_part, sum_ℚ}

-- ---- what is owed at the end of a period
-- a product fits, and a sum with it
pub record AddFits (sum times value : ℚ) : Type 0 where
  pub product : Fits (times *ℚ value)
  pub total : SumFits ◌+ℤ◌ sum (times *ℚ value)

-- the two steps of an item, which has none where its backlog is no column or it has no weight
abbrev pub ItemFits : Echelon → Fractions → ℕ → ℕ → ℚ → Type 0
ItemFits e x j t sum = 1 ≤ owed_times e j t → AddFits sum (whole (pos (owed_times e j t))) (x (R j t))

-- what the first items owe, added up from 0
abbrev pub owed_to : Echelon → Fractions → ℕ → ℕ → ℚ
owed_to e x t n = sum_ℚ n (λ j. owed_term e x (suc j) t)

-- the steps of the first n items
abbrev pub OwedFitsTo : Echelon → Fractions → ℕ → ℕ → Type 0
OwedFitsTo e x t n = (j : ℕ) → j < n → ItemFits e x (suc j) t (owed_to e x t j)

abbrev pub OwedFits : Echelon → Fractions → ℕ → Type 0
OwedFits e x t = OwedFitsTo e x t e.items

-- ---- a period
-- what a setup adds: a product, and its sum with what is owed before
pub record ShareFits (demand setup owed : ℚ) : Type 0 where
  pub product : Fits (demand *ℚ setup)
  pub total : SumFits ◌+ℤ◌ (demand *ℚ setup) owed

-- by what is asked for from the period on
abbrev pub share_at : Echelon → Fractions → ℕ → ℕ → ℚ
share_at e x demand t = whole (pos demand) *ℚ x (Y e.item t) +ℚ owed_part e x (t - 1)

pub record PeriodFits (e : Echelon) (x : Fractions) (demand t : ℕ) : Type 0 where
  pub owed : OwedFits e x (t - 1)
  pub share : ShareFits (whole (pos demand)) (x (Y e.item t)) (owed_part e x (t - 1))

-- the lesser part of a period, and whether it is the setup's
pub record IsChoice (e : Echelon) (x : Fractions) (demand t : ℕ) (chosen : Bool) (part : ℚ) : Type 0 where
  pub fits : PeriodFits e x demand t
  pub chosen_is : IsTrue chosen ↔ (x (X e.item t) ≤ℚ share_at e x demand t → ⊥)
  pub part_is : part ≡ (if chosen then share_at e x demand t else x (X e.item t))

-- ---- the whole evaluation
-- O + R[l]
pub record StartFits (e : Echelon) (x : Fractions) (l : ℕ) : Type 0 where
  pub owed : OwedFits e x l
  pub total : SumFits ◌+ℤ◌ (whole (pos e.asked.opening)) (owed_part e x l)

-- the steps of the first n periods, each of which adds its part
pub record PeriodsFit (e : Echelon) (x : Fractions) (l : ℕ) (chosen : Periods) (n : ℕ) : Type 0 where
  pub parts : (t : ℕ) → 1 ≤ t → t ≤ n → PeriodFits e x (demand_between e.asked t l) t
  pub sums : (t : ℕ) → t < n → SumFits ◌+ℤ◌ (left_to e x l chosen t) (period_part e x l chosen (suc t))

-- all steps
pub record AllFit (e : Echelon) (x : Fractions) (l : ℕ) (chosen : Periods) : Type 0 where
  pub start : StartFits e x l
  pub periods : PeriodsFit e x l chosen l

-- some step doesn't fit, where the lesser parts are chosen
abbrev pub SomePasses : Echelon → Fractions → ℕ → Type 0
SomePasses e x l = (chosen : Periods) → IsChosen e x l chosen → AllFit e x l chosen → ⊥

-- the marks of the lesser parts, by steps that all fit
pub record AreLesser (e : Echelon) (x : Fractions) (l : ℕ) (marks : List Bool) : Type 0 where
  pub size : length marks ≡ l
  pub chosen : IsChosen e x l (marked marks)
  pub fits : AllFit e x l (marked marks)

-- a set is found where their left side is below what is asked for
pub record IsFound (e : Echelon) (x : Fractions) (l : ℕ) (marks : List Bool) : Type 0 where
  pub lesser : AreLesser e x l marks
  pub below : asked_part e l ≤ℚ left_side e x l (marked marks) → ⊥

-- and none where it isn't
abbrev pub IsNoneFound : Echelon → Fractions → ℕ → Type 0
IsNoneFound e x l = (marks : List Bool) × AreLesser e x l marks × (asked_part e l ≤ℚ left_side e x l (marked marks))

-- what has been evaluated after n periods
pub record IsEvaluatedTo (e : Echelon) (x : Fractions) (l : ℕ) (chosen : Periods) (n : ℕ) (left : ℚ) : Type 0 where
  pub choices : (t : ℕ) → 1 ≤ t → t ≤ n → IsTrue (chosen t) ↔ IsLesser e x l t
  pub fits : PeriodsFit e x l chosen n
  pub value : left ≡ left_to e x l chosen n

-- The linear relaxation with all (l,S) rows, and the value to which it closes.
use Rattle.std.specs.Prelude.{ℕ, ◌+◌, ◌*◌, ◌≤◌, ◌<◌, Bool, List}
use Rattle.lot_sizing.specs.Problem.{Problem}
use Rattle.lot_sizing.specs.Bill.{AreWeights, bill_of}
use Rattle.lot_sizing.specs.Totals.{AreLargestTotals}
use Rattle.echelon.specs.Views.{marked}
use Rattle.lin_rows.specs.declared.base.RowName.{RowName}
use Rattle.lin_rows.specs.Base.{HasRow, row_of}
use Rattle.lin_rows.specs.Costs.{point_cost}
use Rattle.lin_rows.specs.Rows.{HoldsAt, LinPoint}
use Rattle.ls_cuts.specs.Rows.{ls_row}
use Rattle.cert_meaning.specs.CutRows.{IsLsCut, echelon_at}

-- the point meets each row that the rules of plans make
abbrev pub MeetsBaseRows : Problem → (ℕ → ℕ) → LinPoint → Type 0
MeetsBaseRows m total q = (name : RowName) → HasRow m name → HoldsAt q (row_of m total name)

-- it meets each (l,S) row of each lead-free item: for each last period l, and each set S of periods up to it, which has a mark for each of them
abbrev pub MeetsLsRows : Problem → (ℕ → ℕ → ℕ) → LinPoint → Type 0
MeetsLsRows m weight q =
    (i l : ℕ) (marks : List Bool) → IsLsCut m weight i l marks → HoldsAt q (ls_row (echelon_at m weight i) l (marked marks))

-- a point of the relaxation, by the problem's largest totals and weights
pub record IsRelaxed (m : Problem) (total : ℕ → ℕ) (weight : ℕ → ℕ → ℕ) (q : LinPoint) : Type 0 where
  pub base : MeetsBaseRows m total q
  pub ls : MeetsLsRows m weight q

-- the relaxation closes to c: some point of it costs at most c, and each costs more than c - 1. Both are multiplied by the point's denominator
pub record IsClosedValue (m : Problem) (total : ℕ → ℕ) (weight : ℕ → ℕ → ℕ) (c : ℕ) : Type 0 where
  pub some : (q : LinPoint) × IsRelaxed m total weight q × (point_cost m q.values ≤ c * q.den)
  pub each : (q : LinPoint) → IsRelaxed m total weight q → c * q.den < point_cost m q.values + q.den

-- it has no point
abbrev pub IsEmptied : Problem → (ℕ → ℕ) → (ℕ → ℕ → ℕ) → Type 0
IsEmptied m total weight = (q : LinPoint) → IsRelaxed m total weight q → ⊥

-- ---- whichever largest totals and weights of the problem are taken
abbrev pub WithFigures : Problem → ((ℕ → ℕ) → (ℕ → ℕ → ℕ) → Type 0) → Type 0
WithFigures m P = (total : ℕ → ℕ) (weight : ℕ → ℕ → ℕ) → AreLargestTotals m total → AreWeights (bill_of m) weight → P total weight

-- the problem's relaxation closes to c
abbrev pub Closes : Problem → ℕ → Type 0
Closes m c = WithFigures m (λ total weight. IsClosedValue m total weight c)

-- the problem's relaxation has no point
abbrev pub HasNoPoint : Problem → Type 0
HasNoPoint m = WithFigures m (λ total weight. IsEmptied m total weight)

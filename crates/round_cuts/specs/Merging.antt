-- How the terms of a sum of rows come together, column by column.
use Rattle.std.specs.Prelude.{◌≡◌, ◌≢◌, ◌⊎◌, ℕ, ◌+◌, ◌^◌, ◌<◌, true, ℤ, pos, ◌*ℤ◌, neg_ℤ, unsigned_abs, List, [], ◌∷◌, ◌++◌, map, if◌then◌else◌, ⊤}
use Rattle.std.specs.Int.{int_div_euclid}
use Rattle.std.specs.List.{All}
use Rattle.lin_rows.specs.declared.column.Column.{Column}
use Rattle.lin_rows.specs.declared.fault.CutFault.{CutFault}
use Rattle.lin_rows.specs.declared.fault.CutFault.TheVariants.{Length, Memory, Potential, Sign, TooLarge}
use Rattle.lin_rows.specs.declared.row.Term.{Term}
use Rattle.lin_rows.specs.declared.total.Total.{Total}
use Rattle.lin_rows.specs.Base.{some_terms, term}
use Rattle.lin_rows.specs.Columns.{order_of}
use Rattle.lin_rows.specs.Rows.{LinRow}
use Rattle.lin_rows.specs.Sums.{IsTotal, coefficient, no_total, same_column, with_more}
use Rattle.lin_rows.proofs.Terms.{RiseTo}
use Rattle.lin_rows.specs.Combining.{column_sum}
use Rattle.round_cuts.specs.Rounding.{column_amount}
use Rattle.round_cuts.specs.declared.merging.Stretch.{Stretch}

-- each term taken so many times
abbrev pub products : ℤ → List Term → List Term
products z [] = []
products z (a ∷ ts) = term a.column (z *ℤ a.times) ∷ products z ts

-- what the terms of a column weigh together
abbrev pub weight_in : (ℤ → ℕ) → List Term → Column → ℕ
weight_in weight [] c = 0
weight_in weight (a ∷ ts) c = (if same_column a.column c then weight a.times else 0) + weight_in weight ts c

-- the absolute values of the terms of a column
abbrev pub amount_in : List Term → Column → ℕ
amount_in ts c = weight_in unsigned_abs ts c

abbrev pub IsSmallTerm : Term → Type 0
IsSmallTerm a = unsigned_abs a.times < 2 ^ 127

-- the multiples of the terms of all rows
pub record AreProducts (rows : List LinRow) (times : List ℤ) (ts : List Term) : Type 0 where
  pub sums : (c : Column) → coefficient ts c ≡ column_sum rows times c
  pub amounts : (c : Column) → amount_in ts c ≡ column_amount rows times c
  pub small : All IsSmallTerm ts

-- one term of each column, in order, with the sum of the column's terms
pub record IsMerged (ts merged : List Term) : Type 0 where
  pub high : ℕ
  pub rising : RiseTo 0 merged high
  pub sums : (c : Column) → coefficient merged c ≡ coefficient ts c
  pub small : All IsSmallTerm merged

-- one term of each column, in order, with the column's sum of multiples of the rows
pub record AreSums (rows : List LinRow) (times : List ℤ) (merged : List Term) : Type 0 where
  pub high : ℕ
  pub rising : RiseTo 0 merged high
  pub sums : (c : Column) → coefficient merged c ≡ column_sum rows times c
  pub small : All IsSmallTerm merged

-- a stretch as the one term that it becomes
abbrev pub stretch_term : Stretch → Term
stretch_term stretch = term stretch.column stretch.total.sum

abbrev pub stretch_with : Column → Total → Stretch
stretch_with c total = record { column = c; total = total }

-- a term goes into the stretch of its column, or ends it and begins the next
abbrev pub TakesTerm : List Term → Stretch → Term → List Term → Stretch → Type 0
TakesTerm old stretch a new next =
    ((same_column stretch.column a.column ≡ true) × (new ≡ old) × (next ≡ stretch_with stretch.column (with_more stretch.total a.times)))
    ⊎ ((order_of stretch.column ≢ order_of a.column) × (new ≡ old ++ stretch_term stretch ∷ []) × (next ≡ stretch_with a.column (with_more no_total a.times)))

-- the least whole number that isn't below a over q
abbrev pub ceiling : ℤ → ℤ → ℤ
ceiling q a = neg_ℤ (int_div_euclid (neg_ℤ a) q)

-- each term's multiple divided by q and rounded up; those that become 0 are left out
abbrev pub rounded_terms : ℤ → List Term → List Term
rounded_terms q ts = some_terms (map (λ a. term a.column (ceiling q a.times)) ts)

-- of all faults, those that adding up may end in
abbrev pub IsOfSum : CutFault → Type 0
IsOfSum Length = ⊥
IsOfSum TooLarge = ⊤
IsOfSum (Potential first last server) = ⊥
IsOfSum Sign = ⊥
IsOfSum Memory = ⊤

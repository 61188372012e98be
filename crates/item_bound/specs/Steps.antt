-- What is known of the cut of one item, and of the cuts of the first items.
use Rattle.std.specs.Prelude.{◌≡◌, ℕ, ◌*◌, ◌≤◌, ◌<◌, pos, unsigned_abs, List, [], ◌∷◌, length, map, ⊤}
use Rattle.std.specs.List.{sum_by}
use Rattle.lot_sizing.specs.Problem.{IsSeries, Problem, item_at}
use Rattle.lot_sizing.specs.Bill.{AreWeights, bill_of}
use Rattle.lot_sizing.specs.Single.{Single}
use Rattle.lot_sizing.specs.declared.limits.TheConstants.{MAX_AMOUNT, MAX_TOTAL}
use Rattle.echelon.specs.declared.net.EchelonItem.{EchelonItem}
use Rattle.echelon.specs.Views.{net_of_all}
use Rattle.lin_rows.specs.declared.column.Column.{Column}
use Rattle.lin_rows.specs.declared.prices.Potentials.{Potentials}
use Rattle.lin_rows.specs.Columns.{column_cost}
use Rattle.lin_rows.specs.Rows.{LinRow}
use Rattle.lin_rows.specs.Sums.{coefficient, item_of}
use Rattle.echelon_rows.specs.Rows.{echelon_in, priced}
use Rattle.echelon_rows.specs.declared.limits.TheConstants.{MAX_STEP}
use Rattle.cert_lines.specs.Shapes.{BlockCut, CutShape, block_lists, cut_shape}
use Rattle.cert_checker.specs.Cuts.{HasItsColumns, HoldsAlways, IsCutEchelon, IsItem, IsRowOfCut}
use Rattle.item_bound.specs.declared.found.Apart.{Apart}
use Rattle.item_bound.specs.Apart.{CostsApart, IsSumTo, held_apart, owed_apart}
use Rattle.item_bound.specs.Cuts.{IsCutAnywhere}

-- the echelon of a lead-free item, which asks for no more than the largest total
pub record IsOwnEchelon (m : Problem) (i : ℕ) (e : EchelonItem) : Type 0 where
  pub item : IsItem m i
  pub echelon : IsCutEchelon m i e
  pub net : net_of_all e ≤ MAX_TOTAL

-- the item apart, by the echelon that a program has
abbrev pub own_single : Problem → ℕ → EchelonItem → Single
own_single m i e = priced (echelon_in e) (item_at m i).setup_cost (item_at m i).unit_cost (held_apart m i) (owed_apart m i)

-- no item costs more apart
abbrev pub most_apart : ℕ
most_apart = 3 * MAX_STEP

-- a block cut of the item at the costs of the item apart, whose right side is what it costs
pub record IsOwnCut (m : Problem) (i : ℕ) (p : Potentials) (row : LinRow) : Type 0 where
  pub setup : p.setup.items ≡ (item_at m i).setup_cost
  pub unit : p.unit.items ≡ (item_at m i).unit_cost
  pub hold : p.hold.items ≡ held_apart m i
  pub back : p.back.items ≡ owed_apart m i
  pub held : IsSeries m.periods MAX_AMOUNT p.hold.items
  pub owed : IsSeries m.periods MAX_AMOUNT p.back.items
  pub row_is : IsRowOfCut m [] (BlockCut i (block_lists p)) row
  pub holds : HoldsAlways m row
  pub columns_exist : HasItsColumns m row
  pub right : row.right ≡ pos (unsigned_abs row.right)
  pub small : unsigned_abs row.right ≤ most_apart
  pub costs : (weight : ℕ → ℕ → ℕ) → AreWeights (bill_of m) weight → CostsApart m weight i (unsigned_abs row.right)

-- nothing in the row is below 0
pub record IsNatural (row : LinRow) : Type 0 where
  pub columns : (c : Column) → coefficient row.terms c ≡ pos (unsigned_abs (coefficient row.terms c))
  pub right : row.right ≡ pos (unsigned_abs row.right)

-- a cut with its row, which holds at every feasible plan and has columns of the problem
pub record IsGoodCut (m : Problem) (cut : CutShape) (row : LinRow) : Type 0 where
  pub anywhere : IsCutAnywhere m cut row
  pub holds : HoldsAlways m row
  pub columns_exist : HasItsColumns m row
  pub natural : IsNatural row

-- one row of each cut
abbrev pub AreGoodCuts : Problem → List CutShape → List LinRow → Type 0
AreGoodCuts m [] [] = ⊤
AreGoodCuts m [] (r ∷ rows) = ⊥
AreGoodCuts m (c ∷ cuts) [] = ⊥
AreGoodCuts m (c ∷ cuts) (r ∷ rows) = IsGoodCut m c r × AreGoodCuts m cuts rows

-- how many times rows that are each taken once take a column, and what their right sides add to
abbrev pub taken_by : List LinRow → Column → ℕ
taken_by rows c = sum_by (λ r. unsigned_abs (coefficient r.terms c)) rows

abbrev pub rights_of : List LinRow → ℕ
rights_of rows = sum_by (λ r. unsigned_abs r.right) rows

-- no more often than one of it costs, and never a column of a later item
pub record IsTakenTo (m : Problem) (n times : ℕ) (c : Column) : Type 0 where
  pub cheap : times ≤ column_cost m c
  pub small : times ≤ MAX_AMOUNT
  pub none : n < item_of c → times ≡ 0

-- the cuts of the lead-free items among the first ones, and what these items cost apart
pub record AreApartTo (m : Problem) (n : ℕ) (a : Apart) : Type 0 where
  pub own : (weight : ℕ → ℕ → ℕ) × AreWeights (bill_of m) weight
  pub sum : (weight : ℕ → ℕ → ℕ) → AreWeights (bill_of m) weight → IsSumTo m weight n a.amount
  pub small : a.amount ≤ n * most_apart
  pub few : length a.rows.items ≤ n
  pub cuts : AreGoodCuts m (map cut_shape a.cuts.items) a.rows.items
  pub rights : rights_of a.rows.items ≡ a.amount
  pub taken : (c : Column) → IsTakenTo m n (taken_by a.rows.items c) c

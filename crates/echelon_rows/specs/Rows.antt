-- What the rows of an echelon are made of: its columns, its way at the values of columns, and the terms of costs.
use Rattle.std.specs.Prelude.{◌≡◌, ℕ, zero, suc, ◌*◌, Bool, false, nat_le, nat_lt, ◌&&◌, Some, None, List, [], ◌∷◌, ◌++◌, length, if◌then◌else◌, ℤ, pos}
use Rattle.lot_sizing.specs.Sums.{sum_to}
use Rattle.lot_sizing.specs.Problem.{IsSeries, entry}
use Rattle.lot_sizing.specs.Single.{Single, unit_price}
use Rattle.lot_sizing.specs.Net.{Asked, net_in}
use Rattle.echelon.specs.declared.net.EchelonItem.{EchelonItem}
use Rattle.echelon.specs.Views.{HasEach, asked_of_echelon, list_to, marked}
use Rattle.lin_rows.specs.declared.column.Column.TheVariants.{X, Y, S, R}
use Rattle.lin_rows.specs.declared.row.Term.{Term}
use Rattle.lin_rows.specs.Base.{some_terms, term, terms_to}
use Rattle.lin_rows.specs.Rows.{LinRow, Values}
use Rattle.valid_inequalities.specs.Trajectory.{Trajectory}
use Rattle.echelon_rows.specs.declared.limits.TheConstants.{MAX_PRICE}

-- an echelon as its rows see it: the item, the number of items, what is asked for, units of the item in each item, which items have a backlog cost, and whether one of those that count has one
pub record Echelon : Type 0 where
  pub item : ℕ
  pub items : ℕ
  pub asked : Asked
  pub weight : ℕ → ℕ
  pub back : ℕ → Bool
  pub owing : Bool

abbrev pub echelon_in : EchelonItem → Echelon
echelon_in e = record { item = e.item; items = length e.weights.items; asked = asked_of_echelon e; weight = entry e.weights.items; back = marked e.backs.items; owing = e.backlogged }

-- a backlog is a column where the item has a backlog cost, but for the last period
abbrev pub owes : Echelon → ℕ → ℕ → Bool
owes e j t = nat_le 1 t && (nat_lt t e.asked.periods && e.back j)

-- how much of an echelon's backlog a backlog is: the item's weight, and 0 where it is no column
abbrev pub owed_by : ℕ → Bool → ℕ → ℕ → ℕ
owed_by periods back weight t = if nat_le 1 t && (nat_lt t periods && back) then weight else 0

abbrev pub owed_times : Echelon → ℕ → ℕ → ℕ
owed_times e j t = owed_by e.asked.periods (e.back j) (e.weight j) t

-- the echelon's stock at the end of a period, by the values of columns, and before the first one its opening stock
abbrev pub stock_at : Echelon → Values → ℕ → ℕ
stock_at e v zero = e.asked.opening
stock_at e v (suc t) = sum_to e.items (λ j. e.weight j * v (S j (suc t)))

-- and its backlog, which is none before the first period
abbrev pub backlog_at : Echelon → Values → ℕ → ℕ
backlog_at e v t = sum_to e.items (λ j. owed_times e j t * v (R j t))

-- the echelon's way at these values
abbrev pub trajectory_at : Echelon → Values → Trajectory
trajectory_at e v = record { make = λ t. v (X e.item t); setup = λ t. v (Y e.item t); stock = stock_at e v; backlog = backlog_at e v }

-- a term of each period
abbrev pub periods_to : ℕ → (ℕ → Term) → List Term
periods_to n f = terms_to n (λ t. f t ∷ [])

-- for each of so many items a term of each period
abbrev pub cells_to : ℕ → ℕ → (ℕ → ℕ → Term) → List Term
cells_to zero periods f = []
cells_to (suc n) periods f = cells_to n periods f ++ periods_to periods (f (suc n))

-- the quantities and the setups of an item, each period's so many times
abbrev pub units_by : ℕ → List ℕ → List Term
units_by item times = periods_to (length times) (λ t. term (X item t) (pos (entry times t)))

abbrev pub setups_by : ℕ → List ℕ → List Term
setups_by item times = periods_to (length times) (λ t. term (Y item t) (pos (entry times t)))

-- the stocks of an item of this weight, and of all items by their weights
abbrev pub stocks_of : ℕ → ℕ → List ℕ → List Term
stocks_of item weight times = periods_to (length times) (λ t. term (S item t) (pos (entry times t * weight)))

abbrev pub stocks_by : List ℕ → List ℕ → List Term
stocks_by weights times = cells_to (length weights) (length times) (λ j t. term (S j t) (pos (entry times t * entry weights j)))

-- the backlogs, where they are columns
abbrev pub backlogs_of : ℕ → ℕ → Bool → ℕ → List ℕ → List Term
backlogs_of item weight back periods times = periods_to (length times) (λ t. term (R item t) (pos (entry times t * owed_by periods back weight t)))

abbrev pub backlogs_by : List ℕ → List Bool → ℕ → List ℕ → List Term
backlogs_by weights marks periods times = cells_to (length weights) (length times) (λ j t. term (R j t) (pos (entry times t * owed_by periods (marked marks j) (entry weights j) t)))

-- a row of these terms that is at least its right side
abbrev pub row_with : List Term → ℤ → LinRow
row_with terms right = record { terms = some_terms terms; right = right; equal = false }

-- net demands with prices of setups, units, stocks and backlogs; no backlog is allowed where the echelon isn't owing
abbrev pub single_with : List ℕ → List ℕ → List ℕ → List ℕ → List ℕ → Bool → Single
single_with net setup unit hold back owing = record { net = net; setup = setup; unit = unit; hold = hold; back = if owing then Some back else None }

-- the echelon's item by itself, with its net demands and with the prices of a row
abbrev pub priced : Echelon → List ℕ → List ℕ → List ℕ → List ℕ → Single
priced e setup unit hold back = single_with (list_to e.asked.periods (net_in e.asked)) setup unit hold back e.owing

-- prices of units, stocks and backlogs: an entry for each period, none past the largest price
pub record ArePriced (periods : ℕ) (units stocks backlogs : List ℕ) : Type 0 where
  pub unit : IsSeries periods MAX_PRICE units
  pub hold : IsSeries periods MAX_PRICE stocks
  pub back : IsSeries periods MAX_PRICE backlogs

-- what units, setups, stocks and backlogs cost, by what one of each costs in each period
abbrev pub cost_terms : Echelon → (setup unit hold back : ℕ → ℕ) → List Term
cost_terms e setup unit hold back =
    periods_to e.asked.periods (λ t. term (X e.item t) (pos (unit t)))
    ++ (periods_to e.asked.periods (λ t. term (Y e.item t) (pos (setup t)))
    ++ (cells_to e.items e.asked.periods (λ j t. term (S j t) (pos (hold t * e.weight j)))
    ++ cells_to e.items e.asked.periods (λ j t. term (R j t) (pos (back t * owed_times e j t)))))

-- these are the terms of costs, where setups cost what this list has
abbrev pub AreCostTerms : Echelon → List ℕ → List ℕ → List ℕ → List ℕ → List Term → Type 0
AreCostTerms e setup unit hold back terms = (times : ℕ → ℕ) → HasEach e.asked.periods times setup → terms ≡ some_terms (cost_terms e times (entry unit) (entry hold) (entry back))

-- what a unit costs that a period makes for each other one, whatever net demands and setups are
abbrev pub AreServingPrices : List ℕ → List ℕ → List ℕ → Bool → ℕ → List ℕ → Type 0
AreServingPrices unit hold back owing u prices = (net setup : List ℕ) → HasEach (length unit) (unit_price (single_with net setup unit hold back owing) u) prices

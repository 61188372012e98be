-- The (l,S) row of an echelon (Barany, Van Roy and Wolsey, 1984), with the echelon's backlogs added.
use Rattle.std.specs.Prelude.{◌≡◌, ℕ, ◌≤◌, ◌+◌, ◌*◌, ◌==◌, Bool, List, ◌++◌, length, if◌then◌else◌, pos, ℤ, ◌-ℤ◌}
use Rattle.lot_sizing.specs.Net.{Asked}
use Rattle.echelon.specs.declared.net.EchelonItem.{EchelonItem}
use Rattle.lin_rows.specs.declared.column.Column.TheVariants.{X, Y, R}
use Rattle.lin_rows.specs.declared.row.Term.{Term}
use Rattle.lin_rows.specs.Base.{term}
use Rattle.lin_rows.specs.Rows.{LinRow}
use Rattle.valid_inequalities.specs.Inequalities.{demand_between}
use Rattle.echelon_rows.specs.Rows.{Echelon, cells_to, owed_times, periods_to, row_with}

-- S is given by a mark of each period
abbrev pub Periods : Type 0
Periods = ℕ → Bool

-- how often the row takes what a period makes: where the period is outside S
abbrev pub unit_times : Periods → ℕ → ℕ
unit_times chosen t = if chosen t then 0 else 1

-- how often it takes a setup: all that is asked for from the period on, up to l, where the period is in S
abbrev pub setup_times : Asked → ℕ → Periods → ℕ → ℕ
setup_times a l chosen t = if chosen t then demand_between a t l else 0

-- how often it takes a backlog: once at the end of l, and before l once where the next period is in S
abbrev pub backlog_times : ℕ → Periods → ℕ → ℕ
backlog_times l chosen t = if t == l then 1 else if chosen (t + 1) then 1 else 0

abbrev pub ls_terms : Echelon → ℕ → Periods → List Term
ls_terms e l chosen =
    periods_to l (λ t. term (X e.item t) (pos (unit_times chosen t)))
    ++ (periods_to l (λ t. term (Y e.item t) (pos (setup_times e.asked l chosen t)))
    ++ cells_to e.items l (λ j t. term (R j t) (pos (backlog_times l chosen t * owed_times e j t))))

-- it is at least what is asked for up to l, less the opening stock
abbrev pub ls_right : Asked → ℕ → ℤ
ls_right a l = pos (demand_between a 1 l) -ℤ pos a.opening

abbrev pub ls_row : Echelon → ℕ → Periods → LinRow
ls_row e l chosen = row_with (ls_terms e l chosen) (ls_right e.asked l)

-- l is a period, and there is a mark for each period up to it
pub record HasLsRow (e : EchelonItem) (l : ℕ) (marks : List Bool) : Type 0 where
  pub low : 1 ≤ l
  pub high : l ≤ length e.demand.items
  pub size : length marks ≡ l

-- two echelons ask for the same up to l, with the same item, weights and backlog costs
pub record AreAlike (l : ℕ) (e g : Echelon) : Type 0 where
  pub item : e.item ≡ g.item
  pub items : e.items ≡ g.items
  pub periods : e.asked.periods ≡ g.asked.periods
  pub demand : (t : ℕ) → 1 ≤ t → t ≤ l → e.asked.demand t ≡ g.asked.demand t
  pub opening : e.asked.opening ≡ g.asked.opening
  pub weight : (j : ℕ) → 1 ≤ j → j ≤ e.items → e.weight j ≡ g.weight j
  pub back : (j : ℕ) → 1 ≤ j → j ≤ e.items → e.back j ≡ g.back j

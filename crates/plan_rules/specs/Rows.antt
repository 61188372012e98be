-- Rows of the least stocks and backlogs.
use Rattle.std.specs.Prelude.{◌≡◌, ◌≢◌, ◌⊎◌, ◌≤◌, ◌^◌, ℕ, Option, Result, IfNone, IfOk, IfSome}
use Rattle.lot_sizing.specs.Problem.{Problem, item_count}
use Rattle.lot_sizing.specs.Plan.{Plan, Table, EachCell, IsFeasible, cost}
use Rattle.lot_sizing.specs.Least.{least_stock, least_backlog, HasChoice}
use Rattle.plan_rules.specs.Cells.{Cells, table_of}
use Rattle.plan_rules.specs.declared.plan.Plan as grids

-- the tables have the least stock and backlog here
abbrev pub HasLeast : Problem → Table → Table → Table → ℕ → ℕ → Type 0
HasLeast m make stock backlog i t = (stock i t ≡ least_stock m make i t) × (backlog i t ≡ least_backlog m make i t)

-- only the row of this item may differ
abbrev pub OtherRowsSame : Cells → Cells → ℕ → Type 0
OtherRowsSame old new i = (j u : ℕ) → 1 ≤ j → j ≤ old.items → 1 ≤ u → u ≤ old.periods → j ≢ i → table_of new j u ≡ table_of old j u

-- one of the two doesn't fit a cell
abbrev pub IsTooLarge : Problem → Table → ℕ → ℕ → Type 0
IsTooLarge m make i t = (2 ^ 64 ≤ least_stock m make i t) ⊎ (2 ^ 64 ≤ least_backlog m make i t)

abbrev pub HasTooLarge : Problem → Table → Type 0
HasTooLarge m make = (i t : ℕ) × (1 ≤ i) × (i ≤ item_count m) × (1 ≤ t) × (t ≤ m.periods) × IsTooLarge m make i t

-- no feasible plan with these quantities and setups has less stock or backlog, or costs less
pub record IsLeastWith (m : Problem) (quantities setups : Table) (p : Plan) : Type 0 where
  pub stock : (q : Plan) → IsFeasible m q → HasChoice m quantities setups q → EachCell m (λ i t. p.stock i t ≤ q.stock i t)
  pub backlog : (q : Plan) → IsFeasible m q → HasChoice m quantities setups q → EachCell m (λ i t. p.backlog i t ≤ q.backlog i t)
  pub spent : (q : Plan) → IsFeasible m q → HasChoice m quantities setups q → cost m p ≤ cost m q

-- no feasible plan has these quantities and setups
abbrev pub HasNoPlan : Problem → Table → Table → Type 0
HasNoPlan m make setup = (q : Plan) → IsFeasible m q → HasChoice m make setup q → ⊥

-- the plan holds these two grids
pub record HasChosen (quantities setups : Cells) (p : grids.Plan) : Type 0 where
  pub make : p.make ≡ quantities
  pub setup : p.setup ≡ setups

-- this holds of what was found, if memory was there and something was
abbrev pub IfFound : {A E : Type 0} → Result (Option A) E → (A → Type 0) → Type 0
IfFound result P = IfOk result (λ found. IfSome found P)

-- this holds where memory was there and nothing was found
abbrev pub IfNoneFound : {A E : Type 0} → Result (Option A) E → Type 0 → Type 0
IfNoneFound result P = IfOk result (λ found. IfNone found P)

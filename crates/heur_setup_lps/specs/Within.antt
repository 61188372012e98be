-- Plans within the setups that are given.
use Rattle.std.specs.Prelude.{◌≡◌, ◌≤◌, ◌<◌, ◌*◌, ℕ}
use Rattle.lot_sizing.specs.Problem.{Problem, item_count}
use Rattle.plan_rules.specs.Cells.{Cells, table_of}
use Rattle.plan_rules.specs.declared.plan.Planned.{Planned}
use Rattle.own_plan.specs.Made.{IsMade}
use Rattle.heur_setup_lps.specs.declared.limits.TheConstants.{MAX_GRID_CELLS}

-- there is no setup where the greatest number of setups is 0
abbrev pub IsSetUpWithin : Problem → Cells → Cells → Type 0
IsSetUpWithin m high setup =
    (i t : ℕ) → 1 ≤ i → i ≤ item_count m → 1 ≤ t → t ≤ m.periods → table_of high i t ≡ 0 → table_of setup i t ≡ 0

abbrev pub SetsUpWithin : Problem → Cells → Planned → Type 0
SetsUpWithin m high planned = IsSetUpWithin m high planned.plan.setup

-- few enough items and periods for programs
abbrev pub IsFew : Problem → Type 0
IsFew m = item_count m * m.periods ≤ MAX_GRID_CELLS

-- a plan that was made, and costs less than this
pub record IsCheaper (m : Problem) (amount : ℕ) (planned : Planned) : Type 0 where
  pub made : IsMade m planned
  pub cheaper : planned.cost < amount

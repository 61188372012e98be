-- What is said of the later periods after a frozen start.
use Rattle.std.specs.Prelude.{◌≡◌, ℕ, ◌≤◌, ◌<◌, ◌^◌, Result, Ok, Err}
use Rattle.lot_sizing.specs.Problem.{Problem, item_at, item_count}
use Rattle.lot_sizing.specs.Plan.{Plan}
use Rattle.lot_draft.specs.declared.fault.ModelFault.{ModelFault}
use Rattle.lot_model.specs.Drafted.{written_out}
use Rattle.lot_model.specs.Meaning.{Means}
use Rattle.frozen_start.specs.Starts.{HasNoLeads, StartStands, spent}
use Rattle.frozen_start.specs.Rests.{IsRestOf, rest_of}
use Rattle.replan.specs.declared.found.Rest.{Rest}

-- some period is left, and no item has a lead time
pub record MayGoOn (m : Problem) (first : ℕ) : Type 0 where
  pub some_later : first < m.periods
  pub no_leads : HasNoLeads m

-- the first item with a lead time
pub record IsFirstLead (m : Problem) (i : ℕ) : Type 0 where
  pub low : 1 ≤ i
  pub high : i ≤ item_count m
  pub lead : 1 ≤ (item_at m i).lead
  pub before : (j : ℕ) → 1 ≤ j → j < i → (item_at m j).lead ≡ 0

-- the start stands, and periods are left that can be planned after it
pub record LeavesRest (m : Problem) (p : Plan) (first : ℕ) : Type 0 where
  pub may_go_on : MayGoOn m first
  pub stands : StartStands m p first

-- what the later periods mean, written as a model of their own with the end stocks written out
abbrev pub RestMeans : Problem → Plan → ℕ → Result Problem ModelFault → Type 0
RestMeans m p first = Means (written_out (rest_of m p first))

-- the start stands, and this is the first rule of models that the later periods break
abbrev pub IsRestRefused : Problem → Plan → ℕ → ModelFault → Type 0
IsRestRefused m p first fault = LeavesRest m p first × RestMeans m p first (Err fault)

-- the instance of the later periods, and what the start costs
pub record IsRest (m : Problem) (p : Plan) (first : ℕ) (found : Rest) : Type 0 where
  pub may : LeavesRest m p first
  pub rest : IsRestOf m p first found.instance
  pub one : found.instance ≡ rest_of m p first
  pub means : RestMeans m p first (Ok found.instance)
  pub spent : found.spent ≡ spent m p first
  pub small : found.spent < 2 ^ 127

-- The records of a plan.
use Rattle.std.specs.Prelude.{ℕ, zero, suc, List, [], ◌∷◌, ◌++◌, ◌^◌, ◌<◌, decimal}
use Rattle.lot_sizing.specs.Problem.{Problem, item_at, item_count}
use Rattle.lot_sizing.specs.Plan.{Plan}
use Rattle.csv_records.specs.Records.{Record}
use Rattle.plan_file.specs.Records.{header}

-- f 1, .., f n
abbrev pub list_to : {A : Type 0} → ℕ → (ℕ → A) → List A
list_to zero f = []
list_to (suc n) f = list_to n f ++ (f (suc n) ∷ [])

-- g 1 ++ .. ++ g n
abbrev pub lists_to : {A : Type 0} → ℕ → (ℕ → List A) → List A
lists_to zero g = []
lists_to (suc n) g = lists_to n g ++ g (suc n)

-- the record of an item and a period
abbrev pub record_of : Problem → Plan → ℕ → ℕ → Record
record_of m p i t = (item_at m i).name ∷ decimal t ∷ decimal (p.make i t) ∷ decimal (p.setup i t) ∷ decimal (p.stock i t) ∷ decimal (p.backlog i t) ∷ []

abbrev pub records_of_item : Problem → Plan → ℕ → List Record
records_of_item m p i = list_to m.periods (record_of m p i)

-- those of all items and periods, in order
abbrev pub plan_records : Problem → Plan → List Record
plan_records m p = header ∷ lists_to (item_count m) (records_of_item m p)

-- the plan's numbers fit 64 bits here
pub record FitIn64 (p : Plan) (i t : ℕ) : Type 0 where
  pub make : p.make i t < 2 ^ 64
  pub setup : p.setup i t < 2 ^ 64
  pub stock : p.stock i t < 2 ^ 64
  pub backlog : p.backlog i t < 2 ^ 64

-- The numbers of a record, and a plan that takes them.
use Rattle.std.specs.Prelude.{◌≡◌, ◌≢◌, ◌⊎◌, ℕ, ◌≤◌, List}
use Rattle.std.specs.Str.Parse.{digits_value}
use Rattle.lot_sizing.specs.Problem.{Problem, item_count}
use Rattle.lot_sizing.specs.Plan.{Plan}
use Rattle.plan_rules.specs.Order.{HoldsBefore}
use Rattle.csv_records.specs.Records.{Record, field}
use Rattle.plan_file.specs.Records.{HasNumbers, IsRead}
use Rattle.plan_file.specs.declared.reading.Numbers.{Numbers}

-- these are the record's numbers
pub record HasNumbersIn (r : Record) (x : Numbers) : Type 0 where
  pub all : HasNumbers r
  pub is_make : x.make ≡ digits_value 10 (field r 3)
  pub is_setup : x.setup ≡ digits_value 10 (field r 4)
  pub is_stock : x.stock ≡ digits_value 10 (field r 5)
  pub is_backlog : x.backlog ≡ digits_value 10 (field r 6)

-- the plan has them here
pub record AreHere (x : Numbers) (p : Plan) (i t : ℕ) : Type 0 where
  pub make : p.make i t ≡ x.make
  pub setup : p.setup i t ≡ x.setup
  pub stock : p.stock i t ≡ x.stock
  pub backlog : p.backlog i t ≡ x.backlog

-- two plans have the same numbers here
pub record AreSame (p q : Plan) (i t : ℕ) : Type 0 where
  pub make : q.make i t ≡ p.make i t
  pub setup : q.setup i t ≡ p.setup i t
  pub stock : q.stock i t ≡ p.stock i t
  pub backlog : q.backlog i t ≡ p.backlog i t

-- the plan takes the numbers here, and stays elsewhere
pub record ArePut (m : Problem) (p q : Plan) (i t : ℕ) (x : Numbers) : Type 0 where
  pub here : AreHere x q i t
  pub others : (j u : ℕ) → 1 ≤ j → j ≤ item_count m → 1 ≤ u → u ≤ m.periods → (j ≢ i) ⊎ (u ≢ t) → AreSame p q j u

-- the plan takes the numbers of the record here, which is good, and stays elsewhere
pub record IsPutFrom (m : Problem) (rs : List Record) (p q : Plan) (i t : ℕ) : Type 0 where
  pub read : IsRead m rs q i t
  pub others : (j u : ℕ) → 1 ≤ j → j ≤ item_count m → 1 ≤ u → u ≤ m.periods → (j ≢ i) ⊎ (u ≢ t) → AreSame p q j u

-- the records of all items before this one are good, and the plan has their numbers
abbrev pub AreReadBefore : Problem → List Record → Plan → ℕ → Type 0
AreReadBefore m rs p i = HoldsBefore (item_count m) m.periods (IsRead m rs p) i 1

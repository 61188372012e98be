-- Laws of what is told of a plan.
use Rattle.std.specs.Prelude.{◌≡◌, ◌≤◌, ℕ, ◌+◌, ◌*◌, List, ◌++◌, length}
use Rattle.lot_sizing.specs.Problem.{Problem, capacity, item_count, resource_count}
use Rattle.lot_sizing.specs.Plan.{IsFeasible, Plan, cost, time_used}
use Rattle.plan_report.specs.Figures.{number_of, row_count}
use Rattle.plan_report.specs.Full.{full_text, item_object, resource_object}
use Rattle.plan_report.specs.Parts.{item_cost, part_of, part_total}
use Rattle.plan_report.specs.Tables.{head_line, row_line, table_text}
use Rattle.plan_report.specs.Widths.{column_width, label_width}
use Rattle.plan_report.specs.declared.figures.Series.{Series}
use Rattle.plan_report.specs.declared.figures.Series.TheVariants.{Made, Stock, Free, Load}
use Rattle.plan_report.specs.declared.parts.Part.TheVariants.{Setups, Making, Holding, Owing}

-- the four parts of an item add up to what it costs, and those of all items to what the plan costs
pub record PartsAddUp : Type 0 where
  pub item : (m : Problem) (p : Plan) (i : ℕ) → part_of m p Setups i + part_of m p Making i + part_of m p Holding i + part_of m p Owing i ≡ item_cost m p i
  pub plan : (m : Problem) (p : Plan) → part_total m p Setups + part_total m p Making + part_total m p Holding + part_total m p Owing ≡ cost m p

-- in a feasible plan what is used and what is free is the time that there is, the load is at most 100 percent, and 100 only where all of the time is used
pub record AreShares (m : Problem) (p : Plan) (k t : ℕ) : Type 0 where
  pub whole : time_used m p k t + number_of m p Free k t ≡ capacity m k t
  pub most : number_of m p Load k t ≤ 100
  pub full : number_of m p Load k t ≡ 100 → time_used m p k t ≡ capacity m k t

abbrev pub LoadsAreShares : Type 0
LoadsAreShares = (m : Problem) (p : Plan) → IsFeasible m p → (k t : ℕ) → 1 ≤ k → k ≤ resource_count m → 1 ≤ t → t ≤ m.periods → AreShares m p k t

-- a text stands in another
pub record IsPart (part whole : List ℕ) : Type 0 where
  pub before : List ℕ
  pub after : List ℕ
  pub is : whole ≡ before ++ (part ++ after)

-- the line of an item, or of a resource, in its table
abbrev pub line_of : Problem → Plan → Series → ℕ → List ℕ
line_of m p s r = row_line (label_width m) (column_width m p s) m p s r

-- each item and each resource stands in the line of JSON; and in the tables the line of each item's lots and stocks, and of each resource's loads and free times
pub record RowsStand : Type 0 where
  pub items : (m : Problem) (p : Plan) (i : ℕ) → 1 ≤ i → i ≤ item_count m → IsPart (item_object m p i) (full_text m p)
  pub resources : (m : Problem) (p : Plan) (k : ℕ) → 1 ≤ k → k ≤ resource_count m → IsPart (resource_object m p k) (full_text m p)
  pub lots : (m : Problem) (p : Plan) (i : ℕ) → 1 ≤ i → i ≤ item_count m → IsPart (line_of m p Made i) (table_text m p)
  pub stocks : (m : Problem) (p : Plan) (i : ℕ) → 1 ≤ i → i ≤ item_count m → IsPart (line_of m p Stock i) (table_text m p)
  pub loads : (m : Problem) (p : Plan) (k : ℕ) → 1 ≤ k → k ≤ resource_count m → IsPart (line_of m p Load k) (table_text m p)
  pub free : (m : Problem) (p : Plan) (k : ℕ) → 1 ≤ k → k ≤ resource_count m → IsPart (line_of m p Free k) (table_text m p)

-- how long a line of a table is: its first column, the others with a blank before each, and the line feed
abbrev pub line_length : Problem → Plan → Series → ℕ
line_length m p s = label_width m + m.periods * (1 + column_width m p s) + 1

-- all lines of a table are as long as its head, so each number stands below its period
pub record ColumnsAreStraight : Type 0 where
  pub heads : (m : Problem) (p : Plan) (s : Series) → length (head_line (label_width m) (column_width m p s) m.periods s) ≡ line_length m p s
  pub lines : (m : Problem) (p : Plan) (s : Series) (r : ℕ) → 1 ≤ r → r ≤ row_count m s → length (line_of m p s r) ≡ line_length m p s

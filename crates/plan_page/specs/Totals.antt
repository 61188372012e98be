-- What a plan has of items and resources over all periods.
use Rattle.std.specs.Prelude.{◌≡◌, ℕ}
use Rattle.lot_sizing.specs.Sums.{sum_to}
use Rattle.lot_sizing.specs.Problem.{Problem, capacity, demand, item_count}
use Rattle.lot_sizing.specs.Plan.{Plan, time_used, used_up}
use Rattle.plan_rules.specs.declared.sums.CostParts.{CostParts}
use Rattle.report.specs.Summary.{backlog_part, hold_part, made_total, setup_count, setup_part, unit_part}
use Rattle.plan_page.specs.declared.totals.Amounts.{Amounts}
use Rattle.plan_page.specs.declared.totals.Load.{Load}

-- units of an item asked for
unfoldable pub demand_total : Problem → ℕ → ℕ
demand_total m i = sum_to m.periods (demand m i)

-- units of it that go into other items
unfoldable pub use_total : Problem → Plan → ℕ → ℕ
use_total m p i = sum_to m.periods (used_up m p.make i)

-- time of a resource, and how much of it is used
unfoldable pub capacity_total : Problem → ℕ → ℕ
capacity_total m k = sum_to m.periods (capacity m k)

unfoldable pub used_total : Problem → Plan → ℕ → ℕ
used_total m p k = sum_to m.periods (time_used m p k)

-- what all items cost, by parts
unfoldable pub setup_total : Problem → Plan → ℕ
setup_total m p = sum_to (item_count m) (setup_part m p)

unfoldable pub unit_total : Problem → Plan → ℕ
unit_total m p = sum_to (item_count m) (unit_part m p)

unfoldable pub hold_total : Problem → Plan → ℕ
hold_total m p = sum_to (item_count m) (hold_part m p)

unfoldable pub backlog_total : Problem → Plan → ℕ
backlog_total m p = sum_to (item_count m) (backlog_part m p)

-- ---- as the code holds them

pub record AreAmounts (m : Problem) (p : Plan) (i : ℕ) (a : Amounts) : Type 0 where
  pub demand : a.demand ≡ demand_total m i
  pub used : a.used ≡ use_total m p i
  pub made : a.made ≡ made_total m p i
  pub setups : a.setups ≡ setup_count m p i

pub record AreParts (m : Problem) (p : Plan) (i : ℕ) (c : CostParts) : Type 0 where
  pub unit : c.unit ≡ unit_part m p i
  pub setup : c.setup ≡ setup_part m p i
  pub hold : c.hold ≡ hold_part m p i
  pub backlog : c.backlog ≡ backlog_part m p i

pub record ArePlanParts (m : Problem) (p : Plan) (c : CostParts) : Type 0 where
  pub unit : c.unit ≡ unit_total m p
  pub setup : c.setup ≡ setup_total m p
  pub hold : c.hold ≡ hold_total m p
  pub backlog : c.backlog ≡ backlog_total m p

pub record IsLoad (m : Problem) (p : Plan) (k : ℕ) (load : Load) : Type 0 where
  pub used : load.used ≡ used_total m p k
  pub capacity : load.capacity ≡ capacity_total m k

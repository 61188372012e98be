-- The rules that an accepted model meets, as docs/FORMATS.md words them, each with the code of its refusal.
use Rattle.std.specs.Prelude.{◌≡◌, ◌≢◌, ◌↔◌, ℕ, ◌≤◌, ℤ, pos, List, length, IfSome, IsNone, IsTrue, Ok}
use Rattle.std.specs.Int.Signed.{◌≤ℤ◌}
use Rattle.std.specs.List.{All, AllPairs, Any, sum_by}
use Rattle.lot_sizing.specs.Problem.{EachItem, Problem, is_name_byte}
use Rattle.lot_sizing.specs.Bill.{AreWeights, bill_of}
use Rattle.lot_sizing.specs.Totals.{AreLargestTotals}
use Rattle.lot_sizing.specs.declared.limits.TheConstants.{MAX_AMOUNT, MAX_BILL_LINES, MAX_END_STOCK, MAX_ITEMS, MAX_LEAD, MAX_NAME, MAX_PERIODS, MAX_QUANTITY, MAX_RESOURCES, MAX_TOTAL}
use Rattle.bill.specs.Sets.{HasNoCycle}
use Rattle.lot_draft.specs.Raw.{RawItem, RawModel}
use Rattle.lot_draft.specs.Meaning.{problem_of}
use Rattle.lot_model.specs.Meaning.{Means}

-- a whole number from the least to the most
pub record IsFrom (least most : ℕ) (x : ℤ) : Type 0 where
  pub low : pos least ≤ℤ x
  pub high : x ≤ℤ pos most

-- a name: so many ASCII letters, digits, `_`, `-` or `.`
pub record IsProperName (name : List ℕ) : Type 0 where
  pub some : 1 ≤ length name
  pub few : length name ≤ MAX_NAME
  pub bytes : All (λ b. IsTrue (is_name_byte b)) name

-- this holds of each list of numbers, of a backlog cost where there is one
pub record EachList (m : RawModel) (P : List ℤ → Type 0) : Type 0 where
  pub capacity : All (λ r. P r.capacity) m.resources
  pub demand : All (λ a. P a.demand) m.items
  pub unit_cost : All (λ a. P a.unit_cost) m.items
  pub setup_cost : All (λ a. P a.setup_cost) m.items
  pub hold_cost : All (λ a. P a.hold_cost) m.items
  pub backlog_cost : All (λ a. IfSome a.backlog_cost P) m.items

-- the numbers of an item are in their ranges, those that may be left out where they are there
pub record HasNumbersInRange (a : RawItem) : Type 0 where
  pub opening : IsFrom 0 MAX_AMOUNT a.opening
  pub end_min : IsFrom 0 MAX_AMOUNT a.end_min
  pub end_max : IfSome a.end_max (IsFrom 0 MAX_END_STOCK)
  pub lead : IsFrom 0 MAX_LEAD a.lead
  pub min_lot : IsFrom 0 MAX_AMOUNT a.min_lot
  pub max_lot : IfSome a.max_lot (IsFrom 1 MAX_AMOUNT)

-- an item has this name
abbrev pub IsItemName : RawModel → List ℕ → Type 0
IsItemName m name = Any (λ a. a.name ≡ name) m.items

-- a resource has this name
abbrev pub IsResourceName : RawModel → List ℕ → Type 0
IsResourceName m name = Any (λ r. r.name ≡ name) m.resources

-- some item needs the item of this name
abbrev pub IsComponent : RawModel → List ℕ → Type 0
IsComponent m name = Any (λ a. Any (λ need. need.item ≡ name) a.needs) m.items

-- each largest total of a problem is within the bound
abbrev pub HasSmallTotals : Problem → Type 0
HasSmallTotals p = (total : ℕ → ℕ) × AreLargestTotals p total × EachItem p (λ i. total i ≤ MAX_TOTAL)

-- so are the units of each item in one unit of each, which are one of an item in itself
abbrev pub HasSmallWeights : Problem → Type 0
HasSmallWeights p = (weight : ℕ → ℕ → ℕ) × AreWeights (bill_of p) weight × EachItem p (λ i. EachItem p (λ k. weight i k ≤ MAX_TOTAL))

-- a model meets all rules
pub record MeetsRules (m : RawModel) : Type 0 where
  -- M5: the periods are in their range, and there are so many resources, items and lines of components
  pub periods : IsFrom 1 MAX_PERIODS m.periods
  pub few_resources : length m.resources ≤ MAX_RESOURCES
  pub some_item : 1 ≤ length m.items
  pub few_items : length m.items ≤ MAX_ITEMS
  pub few_needs : sum_by (λ a. length a.needs) m.items ≤ MAX_BILL_LINES
  -- M7: each name is a name
  pub resource_names : All (λ r. IsProperName r.name) m.resources
  pub item_names : All (λ a. IsProperName a.name) m.items
  -- M8: no name stands twice
  pub resources_differ : AllPairs (λ r s. r.name ≢ s.name) m.resources
  pub items_differ : AllPairs (λ a b. a.name ≢ b.name) m.items
  -- M6: each list has a number for each period
  pub lengths : EachList m (λ xs. pos (length xs) ≡ m.periods)
  -- M5: each number is in its range
  pub amounts : EachList m (All (IsFrom 0 MAX_AMOUNT))
  pub numbers : All HasNumbersInRange m.items
  -- M9: each line's name is known
  pub components_known : All (λ a. All (λ need. IsItemName m need.item) a.needs) m.items
  pub resources_known : All (λ a. All (λ usage. IsResourceName m usage.resource) a.uses) m.items
  -- M8: no earlier line of the list has it
  pub components_differ : All (λ a. AllPairs (λ n o. n.item ≢ o.item) a.needs) m.items
  pub uses_differ : All (λ a. AllPairs (λ u v. u.resource ≢ v.resource) a.uses) m.items
  -- M5: its numbers are in their ranges
  pub quantities : All (λ a. All (λ need. IsFrom 1 MAX_QUANTITY need.quantity) a.needs) m.items
  pub unit_times : All (λ a. All (λ usage. IsFrom 0 MAX_AMOUNT usage.unit) a.uses) m.items
  pub setup_times : All (λ a. All (λ usage. IsFrom 0 MAX_AMOUNT usage.setup) a.uses) m.items
  -- M10: no item is its own component, over any number of lines
  pub no_cycle : HasNoCycle (bill_of (problem_of m))
  -- M11: no component has a backlog cost
  pub no_backlogs : All (λ a. IsComponent m a.name → IsNone a.backlog_cost) m.items
  -- M13: `end_min` is at most `end_max`, where that is there
  pub ends : All (λ a. IfSome a.end_max (λ most. a.end_min ≤ℤ most)) m.items
  -- M15: `min_lot` is at most `max_lot`, where that is there
  pub lots : All (λ a. IfSome a.max_lot (λ most. a.min_lot ≤ℤ most)) m.items
  -- M12: no largest total and no units in one unit of another item are above the bound
  pub totals : HasSmallTotals (problem_of m)
  pub weights : HasSmallWeights (problem_of m)

-- a model means a problem exactly where it meets all rules, and the problem is the one that it stands for
abbrev pub AcceptedExactly : Type 0
AcceptedExactly = (m : RawModel) (p : Problem) → Means m (Ok p) ↔ ((p ≡ problem_of m) × MeetsRules m)

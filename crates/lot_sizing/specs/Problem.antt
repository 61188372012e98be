-- What is to be planned: the data of a lot-sizing problem (Pochet and Wolsey). Items, resources and periods are counted from 1.
use Rattle.std.specs.Prelude.{◌≡◌, ℕ, ◌-◌, ◌≤◌, ◌^◌, ◌*◌, ◌==◌, ◌&&◌, ◌||◌, List, [], length, Option, Some, None, IsNone, slice_index_or, IfSome, if◌then◌else◌, Bool, IsTrue, nat_le}
use Rattle.std.specs.List.{sum_by, All, list_all}
use Rattle.lot_sizing.specs.declared.Need.{Need}
use Rattle.lot_sizing.specs.declared.Usage.{Usage}
use Rattle.lot_sizing.specs.declared.limits.TheConstants.{MAX_AMOUNT, MAX_BILL_LINES, MAX_END_STOCK, MAX_ITEMS, MAX_LEAD, MAX_NAME, MAX_PERIODS, MAX_QUANTITY, MAX_RESOURCES}

-- an item: its name, an entry of each list for each period, and what goes into it
pub record Item : Type 0 where
  pub name : List ℕ
  pub demand : List ℕ
  pub unit_cost : List ℕ
  pub setup_cost : List ℕ
  pub hold_cost : List ℕ
  -- none where no backlog is allowed
  pub backlog_cost : Option (List ℕ)
  pub opening : ℕ
  pub end_min : ℕ
  pub end_max : ℕ
  -- the periods from the start of a lot to its arrival
  pub lead : ℕ
  -- the least quantity of a setup
  pub min_lot : ℕ
  -- the largest quantity of a period, none where there is no bound
  pub max_lot : Option ℕ
  pub needs : List Need
  pub uses : List Usage

-- a resource: its name, and its time in each period
pub record Resource : Type 0 where
  pub name : List ℕ
  pub capacity : List ℕ

pub record Problem : Type 0 where
  pub periods : ℕ
  pub resources : List Resource
  pub items : List Item

-- the entry of a list, counted from 1
abbrev pub entry : List ℕ → ℕ → ℕ
entry xs n = slice_index_or xs (n - 1) 0

abbrev pub no_item : Item
no_item = record { name = []; demand = []; unit_cost = []; setup_cost = []; hold_cost = []; backlog_cost = None; opening = 0; end_min = 0; end_max = 0; lead = 0; min_lot = 0; max_lot = None; needs = []; uses = [] }

abbrev pub no_resource : Resource
no_resource = record { name = []; capacity = [] }

abbrev pub item_at : Problem → ℕ → Item
item_at m i = slice_index_or m.items (i - 1) no_item

abbrev pub resource_at : Problem → ℕ → Resource
resource_at m k = slice_index_or m.resources (k - 1) no_resource

abbrev pub item_count : Problem → ℕ
item_count m = length m.items

abbrev pub resource_count : Problem → ℕ
resource_count m = length m.resources

abbrev pub demand : Problem → ℕ → ℕ → ℕ
demand m i t = entry (item_at m i).demand t

abbrev pub unit_cost : Problem → ℕ → ℕ → ℕ
unit_cost m i t = entry (item_at m i).unit_cost t

abbrev pub setup_cost : Problem → ℕ → ℕ → ℕ
setup_cost m i t = entry (item_at m i).setup_cost t

abbrev pub hold_cost : Problem → ℕ → ℕ → ℕ
hold_cost m i t = entry (item_at m i).hold_cost t

-- 0 where the item has no backlog cost
abbrev pub backlog_price : Option (List ℕ) → ℕ → ℕ
backlog_price None t = 0
backlog_price (Some prices) t = entry prices t

abbrev pub backlog_cost : Problem → ℕ → ℕ → ℕ
backlog_cost m i t = backlog_price (item_at m i).backlog_cost t

abbrev pub capacity : Problem → ℕ → ℕ → ℕ
capacity m k t = entry (resource_at m k).capacity t

-- how many units of item i go into one unit of item j
abbrev pub per_unit : Problem → ℕ → ℕ → ℕ
per_unit m i j = sum_by (λ need. if need.item == i then need.quantity else 0) (item_at m j).needs

-- the time that one unit and a setup of item i take on resource k
abbrev pub unit_time : Problem → ℕ → ℕ → ℕ
unit_time m i k = sum_by (λ usage. if usage.resource == k then usage.unit else 0) (item_at m i).uses

abbrev pub setup_time : Problem → ℕ → ℕ → ℕ
setup_time m i k = sum_by (λ usage. if usage.resource == k then usage.setup else 0) (item_at m i).uses

-- for each item
abbrev pub EachItem : Problem → (ℕ → Type 0) → Type 0
EachItem m R = (i : ℕ) → 1 ≤ i → i ≤ item_count m → R i

-- a lot arrives in the period in which it is started, and may have any size
pub record IsPlainItem (a : Item) : Type 0 where
  pub lead : a.lead ≡ 0
  pub min_lot : a.min_lot ≡ 0
  pub max_lot : IsNone a.max_lot

-- no item has a lead time, a least lot or a largest lot
abbrev pub IsPlain : Problem → Type 0
IsPlain m = EachItem m (λ i. IsPlainItem (item_at m i))

-- no item uses a resource or needs another item, and all are plain
pub record IsUncoupled (m : Problem) : Type 0 where
  pub uses : EachItem m (λ i. (item_at m i).uses ≡ [])
  pub needs : EachItem m (λ i. (item_at m i).needs ≡ [])
  pub plain : IsPlain m

-- an ASCII letter, a digit, `_`, `-` or `.`
abbrev pub is_name_byte : ℕ → Bool
is_name_byte b = (nat_le 97 b && nat_le b 122) || (nat_le 65 b && nat_le b 90) || (nat_le 48 b && nat_le b 57) || b == 95 || b == 45 || b == 46

-- a name has such bytes, at least one, and not too many
abbrev pub is_name : List ℕ → Bool
is_name name = nat_le 1 (length name) && (nat_le (length name) MAX_NAME && list_all is_name_byte name)

abbrev pub IsName : List ℕ → Type 0
IsName name = IsTrue (is_name name)

-- each is at most this
abbrev pub AllAtMost : ℕ → List ℕ → Type 0
AllAtMost most xs = All (λ x. x ≤ most) xs

-- a list with an entry for each period, none of them too large
pub record IsSeries (periods most : ℕ) (xs : List ℕ) : Type 0 where
  pub size : length xs ≡ periods
  pub small : AllAtMost most xs

-- each list has an entry for each period, none too large
pub record HasLists (periods : ℕ) (a : Item) : Type 0 where
  pub demand : IsSeries periods MAX_AMOUNT a.demand
  pub unit_cost : IsSeries periods MAX_AMOUNT a.unit_cost
  pub setup_cost : IsSeries periods MAX_AMOUNT a.setup_cost
  pub hold_cost : IsSeries periods MAX_AMOUNT a.hold_cost
  pub backlog_cost : IfSome a.backlog_cost (IsSeries periods MAX_AMOUNT)

-- the components are items, and one unit takes some of each and not too many
pub record AreNeeds (items : ℕ) (needs : List Need) : Type 0 where
  pub count : length needs ≤ MAX_BILL_LINES
  pub items_exist : All (λ need. (1 ≤ need.item) × (need.item ≤ items)) needs
  pub quantities : All (λ need. (1 ≤ need.quantity) × (need.quantity ≤ MAX_QUANTITY)) needs

-- the resources exist, and no time is too large
pub record AreUses (resources : ℕ) (uses : List Usage) : Type 0 where
  pub count : length uses ≤ MAX_RESOURCES
  pub resources_exist : All (λ usage. (1 ≤ usage.resource) × (usage.resource ≤ resources)) uses
  pub times : All (λ usage. (usage.unit ≤ MAX_AMOUNT) × (usage.setup ≤ MAX_AMOUNT)) uses

-- an item within the limits, of so many items and resources
pub record IsItem (items resources periods : ℕ) (a : Item) : Type 0 where
  pub name : IsName a.name
  pub lists : HasLists periods a
  pub opening : a.opening ≤ MAX_AMOUNT
  pub end_min : a.end_min ≤ MAX_AMOUNT
  pub end_max : a.end_max ≤ MAX_END_STOCK
  pub ends : a.end_min ≤ a.end_max
  pub lead : a.lead ≤ MAX_LEAD
  pub min_lot : a.min_lot ≤ MAX_AMOUNT
  pub max_lot : IfSome a.max_lot (λ most. (1 ≤ most) × (most ≤ MAX_AMOUNT) × (a.min_lot ≤ most))
  pub needs : AreNeeds items a.needs
  pub uses : AreUses resources a.uses

-- a resource within the limits
pub record IsResource (periods : ℕ) (r : Resource) : Type 0 where
  pub name : IsName r.name
  pub capacity : IsSeries periods MAX_AMOUNT r.capacity

-- a problem within the limits that the program keeps
pub record IsWithinLimits (m : Problem) : Type 0 where
  pub some_period : 1 ≤ m.periods
  pub periods : m.periods ≤ MAX_PERIODS
  pub resources : resource_count m ≤ MAX_RESOURCES
  pub some_item : 1 ≤ item_count m
  pub items : item_count m ≤ MAX_ITEMS
  pub each_resource : (k : ℕ) → 1 ≤ k → k ≤ resource_count m → IsResource m.periods (resource_at m k)
  pub each_item : (i : ℕ) → 1 ≤ i → i ≤ item_count m → IsItem (item_count m) (resource_count m) m.periods (item_at m i)

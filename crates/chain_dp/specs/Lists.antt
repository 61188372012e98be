-- Lists of levels and rows of tables, by lots: lot 0, one for each period, and the end.
use Rattle.std.specs.Prelude.{◌≡◌, ℕ, zero, suc, ◌+◌, ◌-◌, ◌*◌, ◌≤◌, ◌<◌, List, [], length, slice_index_or, if◌then◌else◌, ◌==◌, ◌||◌, nat_le}
use Rattle.lot_sizing.specs.Sums.{sum_to}
use Rattle.lot_sizing.specs.Problem.{entry}
use Rattle.chain_dp.specs.declared.lists.LevelLists.{LevelLists}
use Rattle.chain_dp.specs.Chains.{Level}

-- the entry of a list, counted from 0
abbrev pub at : List ℕ → ℕ → ℕ
at xs t = slice_index_or xs t 0

abbrev pub row_of : List (List ℕ) → ℕ → List ℕ
row_of rows v = slice_index_or rows v []

abbrev pub cell : List (List ℕ) → (b v : ℕ) → ℕ
cell rows b v = at (row_of rows b) v

abbrev pub plane_of : List (List (List ℕ)) → ℕ → List (List ℕ)
plane_of planes z = slice_index_or planes z []

-- what is asked of a level before a lot
abbrev pub asked_before : Level → ℕ → ℕ
asked_before l zero = 0
asked_before l (suc t) = sum_to t l.need

-- numbers of periods, so many periods later, and `other` where there are none
abbrev pub moved : (other shift periods : ℕ) → (ℕ → ℕ) → ℕ → ℕ
moved other shift periods f t = if t - shift == 0 || nat_le (suc periods) (t - shift) then other else f (t - shift)

-- a level whose lots arrive at once: its lots come so many periods later, and its needs `next` periods later. A lot without a period costs a unit what lot 0 does, so it is never better than that one
abbrev pub moved_level : (shift next periods : ℕ) → Level → Level
moved_level shift next periods l = record {
  setup_cost = moved 0 shift periods l.setup_cost;
  unit_cost = moved l.opening_price shift periods l.unit_cost;
  need = moved 0 next periods l.need;
  opening_price = l.opening_price;
  per_next = l.per_next;
  lead = 0;
}

-- costs by lots: `first` for lot 0, those of the periods, so many periods later, and 0 for the end
pub record AreByLots (first other shift horizon : ℕ) (costs list : List ℕ) : Type 0 where
  pub size : length list ≡ horizon + 2
  pub lot_0 : at list 0 ≡ first
  pub each : (t : ℕ) → 1 ≤ t → t ≤ horizon → at list t ≡ moved other shift (length costs) (entry costs) t
  pub end : at list (horizon + 1) ≡ 0

-- what is asked for before each lot
pub record IsAskedBefore (shift horizon : ℕ) (need list : List ℕ) : Type 0 where
  pub size : length list ≡ horizon + 2
  pub lot_0 : at list 0 ≡ 0
  pub each : (t : ℕ) → t ≤ horizon → at list (t + 1) ≡ sum_to t (moved 0 shift (length need) (entry need))

-- the lists of a level
pub record AreListsOf (periods : ℕ) (l : Level) (x : LevelLists) : Type 0 where
  pub setup_costs : length x.setup_cost.items ≡ suc (suc periods)
  pub unit_costs : length x.unit_cost.items ≡ suc (suc periods)
  pub needs : length x.asked.items ≡ suc (suc periods)
  pub setup_cost : (t : ℕ) → 1 ≤ t → t ≤ periods → at x.setup_cost.items t ≡ l.setup_cost t
  pub first_cost : at x.setup_cost.items 0 ≡ 0
  pub last_cost : at x.setup_cost.items (suc periods) ≡ 0
  pub unit_cost : (t : ℕ) → 1 ≤ t → t ≤ periods → at x.unit_cost.items t ≡ l.unit_cost t
  pub opening_price : at x.unit_cost.items 0 ≡ l.opening_price
  pub asked : (t : ℕ) → t ≤ suc periods → at x.asked.items t ≡ asked_before l t
  pub per_next : x.per_next ≡ l.per_next

-- lists of one length
pub record HaveWidth (width : ℕ) (x : LevelLists) : Type 0 where
  pub setup_costs : length x.setup_cost.items ≡ width
  pub unit_costs : length x.unit_cost.items ≡ width
  pub needs : length x.asked.items ≡ width

-- what is asked of a level from one lot to another
abbrev pub asked_between : LevelLists → ℕ → ℕ → ℕ
asked_between x w z = at x.asked.items z - at x.asked.items w

-- the price of a unit of lot t, where what goes into it costs so much
abbrev pub price_at : LevelLists → (into below : ℕ) → ℕ → ℕ
price_at x into below zero = at x.unit_cost.items 0
price_at x into below (suc t) = at x.unit_cost.items (suc t) + into * below

-- the price of a unit of lot b of the second level, made of lot v of the first one
abbrev pub mid_at : (low mid : LevelLists) → (v b : ℕ) → ℕ
mid_at low mid v b = price_at mid low.per_next (at low.unit_cost.items v) b

-- the price of a unit of lot t of the third level, made of lot b of the second one, which is made of lot v
abbrev pub top_at : (low mid top : LevelLists) → (v b t : ℕ) → ℕ
top_at low mid top v b t = price_at top mid.per_next (mid_at low mid v b) t

-- each row has so many entries
abbrev pub AreWide : ℕ → List (List ℕ) → Type 0
AreWide width rows = (v : ℕ) → v < length rows → length (row_of rows v) ≡ width

-- row b has entries 0 to b
abbrev pub AreTriangular : List (List ℕ) → Type 0
AreTriangular rows = (b : ℕ) → b < length rows → length (row_of rows b) ≡ b + 1

-- rows for so many lots of the second level
pub record HasLots (count : ℕ) (plane : List (List ℕ)) : Type 0 where
  pub size : length plane ≡ count
  pub rows : AreTriangular plane

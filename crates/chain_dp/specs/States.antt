-- Tables of three levels in numbers of 64 bits: a row over the next lot of the third level, for each lot of the second level and each lot of the first one that serves it.
use Rattle.std.specs.Prelude.{◌≡◌, ℕ, ◌+◌, ◌-◌, ◌*◌, ◌^◌, ◌≤◌, ◌<◌, ◌⊎◌, List, length, min}
use Rattle.chain_dp.specs.declared.lists.LevelLists.{LevelLists}
use Rattle.chain_dp.specs.Lists.{asked_between, at, cell, mid_at, plane_of, row_of, top_at}

-- the greatest number of 64 bits
abbrev pub most_64 : ℕ
most_64 = 2 ^ 64 - 1

-- a number of 64 bits in the place of any number: the same one, or `most_64` where it is past that
pub record IsNarrow (number x : ℕ) : Type 0 where
  pub within : x ≤ number
  pub fits : x < most_64 → number ≤ x

-- the least of the costs of the lots from `from` up to the one before `to`; `most_64` where none is below it
pub record IsNarrowLeast (from to : ℕ) (cost : ℕ → ℕ) (least : ℕ) : Type 0 where
  pub within : (w : ℕ) → from ≤ w → w < to → least ≤ cost w
  pub some : least < most_64 → (w : ℕ) × (from ≤ w) × (w < to) × (cost w ≤ least)

-- lots b and v of the second and of the first level stand, and lot z of the third one is next
abbrev pub state : List (List (List ℕ)) → (b v z : ℕ) → ℕ
state table b v z = cell (plane_of table b) v z

-- so many of the greatest number
pub record AreFull (width : ℕ) (row : List ℕ) : Type 0 where
  pub size : length row ≡ width
  pub each : (z : ℕ) → z < width → at row z ≡ most_64

-- from place `first` on, each number is lowered to the other one with so much more
pub record AreLowered (first stop more : ℕ) (others before after : List ℕ) : Type 0 where
  pub size : length after ≡ length before
  pub done : (z : ℕ) → first ≤ z → z < stop → at after z ≡ min (at before z) (min (at others z + more) most_64)
  pub rest : (z : ℕ) → stop ≤ z → at after z ≡ at before z

-- the same with a price for so many units
pub record AreServed (first stop paid price : ℕ) (units before after : List ℕ) : Type 0 where
  pub size : length after ≡ length before
  pub same : (z : ℕ) → z < first → at after z ≡ at before z
  pub done : (z : ℕ) → first ≤ z → z < stop → at after z ≡ min (at before z) (min (paid + min (price * at units z) most_64) most_64)
  pub rest : (z : ℕ) → stop ≤ z → at after z ≡ at before z

-- lot e of the second level, served by lot u, is left for lot b, whose setup is paid
abbrev pub leaving : (low mid : LevelLists) → (u b e : ℕ) → ℕ
leaving low mid u b e = mid_at low mid u e * asked_between mid e b + at mid.setup_cost.items b

abbrev pub gap_cost : (low mid : LevelLists) → (table : List (List (List ℕ))) → (u b z e : ℕ) → ℕ
gap_cost low mid table u b z e = state table e u z + leaving low mid u b e

-- what it costs to come to lot b of the second level from its lots from u up to the one before `to`, which lot u serves
pub record IsGapRow (low mid : LevelLists) (table : List (List (List ℕ))) (u b to : ℕ) (row : List ℕ) : Type 0 where
  pub size : length row ≡ length mid.asked.items
  pub each : (z : ℕ) → b ≤ z → z < length mid.asked.items → IsNarrowLeast u to (gap_cost low mid table u b z) (at row z)

pub record AreGapRows (low mid : LevelLists) (table : List (List (List ℕ))) (b count : ℕ) (gaps : List (List ℕ)) : Type 0 where
  pub size : length gaps ≡ count
  pub each : (u : ℕ) → u < count → IsGapRow low mid table u b b (row_of gaps u)

-- the first level goes on from lot u to lot v
abbrev pub entering : (gaps stretches : List (List ℕ)) → (v z u : ℕ) → ℕ
entering gaps stretches v z u = cell gaps u z + cell stretches u v

-- what it costs to come to lots b and v, from the first lots of the first level
pub record IsEntered (gaps stretches : List (List ℕ)) (width v b to : ℕ) (row : List ℕ) : Type 0 where
  pub size : length row ≡ width
  pub each : (z : ℕ) → b ≤ z → z < width → IsNarrowLeast 0 to (entering gaps stretches v z) (at row z)

-- units that are asked for from lot t on
pub record AreUnits (top : LevelLists) (t count : ℕ) (row : List ℕ) : Type 0 where
  pub size : length row ≡ count
  pub each : (z : ℕ) → z < count → IsNarrow (asked_between top t z) (at row z)

pub record AreUnitRows (top : LevelLists) (count : ℕ) (rows : List (List ℕ)) : Type 0 where
  pub size : length rows ≡ count
  pub each : (t : ℕ) → t < count → AreUnits top t (length top.asked.items) (row_of rows t)

-- lot t of the third level, which is made of lots b and v, is opened and serves up to lot z
abbrev pub opening : (low mid top : LevelLists) → (row : List ℕ) → (b v z t : ℕ) → ℕ
opening low mid top row b v z t = at row t + at top.setup_cost.items t + top_at low mid top v b t * asked_between top t z

-- a row goes on with lots of the third level from b up to the one before `to`
pub record IsCompleted (low mid top : LevelLists) (b v to : ℕ) (before row : List ℕ) : Type 0 where
  pub size : length row ≡ length before
  pub below : (z : ℕ) → b ≤ z → z < length before → at row z ≤ at before z
  pub start : at row b ≡ at before b
  pub opens : (t z : ℕ) → b ≤ t → t < to → t < z → z < length before → at row z ≤ opening low mid top row b v z t
  pub some : (z : ℕ) → b ≤ z → z < length before → at row z < most_64 →
      (at before z ≤ at row z) ⊎ ((t : ℕ) × (b ≤ t) × (t < to) × (t < z) × (opening low mid top row b v z t ≤ at row z))

-- what a row begins with: nothing is paid yet at lots 0
pub record IsBegun (gaps stretches : List (List ℕ)) (width v b : ℕ) (row : List ℕ) : Type 0 where
  pub size : length row ≡ width
  pub start : b ≡ 0 → at row 0 ≡ 0
  pub enter : (u z : ℕ) → u < b → u ≤ v → b ≤ z → z < width → at row z ≤ entering gaps stretches v z u
  pub some : (z : ℕ) → 1 ≤ z → b ≤ z → z < width → at row z < most_64 → (u : ℕ) × (u < b) × (u ≤ v) × (entering gaps stretches v z u ≤ at row z)

-- rows of so many lots of the second level; row v of lot b is that of lot v of the first one, up to b
pub record AreStates (width count : ℕ) (table : List (List (List ℕ))) : Type 0 where
  pub size : length table ≡ count
  pub lots : (b : ℕ) → b < count → length (plane_of table b) ≡ b + 1
  pub rows : (b v : ℕ) → b < count → v ≤ b → length (row_of (plane_of table b) v) ≡ width

-- from lot e of the second level, served by lot u, to lot b, served by lot v
abbrev pub moving : (low mid : LevelLists) → (stretches : List (List ℕ)) → (table : List (List (List ℕ))) → (b v z u e : ℕ) → ℕ
moving low mid stretches table b v z u e = gap_cost low mid table u b z e + cell stretches u v

pub record IsMove (low mid : LevelLists) (stretches : List (List ℕ)) (table : List (List (List ℕ))) (b v z x : ℕ) : Type 0 where
  pub served : ℕ
  pub lot : ℕ
  pub order : served ≤ lot
  pub before : lot < b
  pub within : served ≤ v
  pub cost : moving low mid stretches table b v z served lot ≤ x

-- the row of lots b and v
pub record IsStateRow (low mid top : LevelLists) (stretches : List (List ℕ)) (table : List (List (List ℕ))) (b v : ℕ) (row : List ℕ) : Type 0 where
  pub size : length row ≡ length top.asked.items
  pub start : b ≡ 0 → at row 0 ≡ 0
  pub enter : (u e z : ℕ) → u ≤ e → e < b → u ≤ v → b ≤ z → z < length top.asked.items → at row z ≤ moving low mid stretches table b v z u e
  pub opens : (t z : ℕ) → b ≤ t → t < z → z < length top.asked.items → at row z ≤ opening low mid top row b v z t
  pub some : (z : ℕ) → 1 ≤ z → b ≤ z → z < length top.asked.items → at row z < most_64 →
      ((t : ℕ) × (b ≤ t) × (t < z) × (opening low mid top row b v z t ≤ at row z)) ⊎ IsMove low mid stretches table b v z (at row z)

pub record AreLotRows (low mid top : LevelLists) (stretches : List (List ℕ)) (table : List (List (List ℕ))) (b count : ℕ) (rows : List (List ℕ)) : Type 0 where
  pub size : length rows ≡ count
  pub each : (v : ℕ) → v < count → IsStateRow low mid top stretches table b v (row_of rows v)

pub record AreTables (low mid top : LevelLists) (stretches : List (List ℕ)) (count : ℕ) (table : List (List (List ℕ))) : Type 0 where
  pub size : length table ≡ count
  pub each : (b : ℕ) → b < count → AreLotRows low mid top stretches table b (b + 1) (plane_of table b)

-- lots b and v are the last ones of the second and of the first level that are used above: `last` is the end
abbrev pub ending : (low mid : LevelLists) → (stretches : List (List ℕ)) → (table : List (List (List ℕ))) → (last b v : ℕ) → ℕ
ending low mid stretches table last b v = state table b v last + (mid_at low mid v b * asked_between mid b last + cell stretches v last)

pub record IsNarrowEnd (low mid : LevelLists) (stretches : List (List ℕ)) (table : List (List (List ℕ))) (last count x : ℕ) : Type 0 where
  pub within : (b v : ℕ) → v ≤ b → b < count → x ≤ ending low mid stretches table last b v
  pub some : x < most_64 → (b : ℕ) × (v : ℕ) × (v ≤ b) × (b < count) × (ending low mid stretches table last b v ≤ x)

-- Tables over lots: each entry is the least of the costs of the steps that lead to it.
use Rattle.std.specs.Prelude.{◌≡◌, ℕ, ◌+◌, ◌-◌, ◌*◌, ◌≤◌, ◌<◌, ◌⊎◌, List, length, min}
use Rattle.chain_dp.specs.declared.lists.LevelLists.{LevelLists}
use Rattle.chain_dp.specs.Numbers.{IsLeastOf, most}
use Rattle.chain_dp.specs.Lists.{HasLots, asked_between, at, cell, mid_at, plane_of, row_of, top_at}

-- STRETCHES: from lot v of a level, which stands, to lot z: the setups of the lots after v, and what is asked from v on and before z

-- the same with lot w for the last one before z, and without the setup of z
abbrev pub step_cost : (row : List ℕ) → LevelLists → (z w : ℕ) → ℕ
step_cost row x z w = at row w + at x.unit_cost.items w * asked_between x w z

-- a row of stretches that begins with lot v
pub record IsStretchRow (x : LevelLists) (v : ℕ) (row : List ℕ) : Type 0 where
  pub none : at row v ≡ 0
  pub next : (z : ℕ) → v < z → z < length row → IsLeastOf v z (λ w. step_cost row x z w + at x.setup_cost.items z) (at row z)

abbrev pub AreStretches : LevelLists → List (List ℕ) → Type 0
AreStretches x rows = (v : ℕ) → v < length rows → IsStretchRow x v (row_of rows v)

-- PAIRS: lot b of the second level stands, and lot v of the first one, which serves it. All setups up to these lots are paid, what is asked of the second level before b, and of the first one before v

-- lot e of the second level, served by lot v, is left for lot b
abbrev pub leave_cost : (low mid : LevelLists) → (plane : List (List ℕ)) → (v b e : ℕ) → ℕ
leave_cost low mid plane v b e = cell plane e v + mid_at low mid v e * asked_between mid e b

-- the first level goes on from lot u to lot v
abbrev pub enter_cost : (gaps : List ℕ) → (stretches : List (List ℕ)) → (v u : ℕ) → ℕ
enter_cost gaps stretches v u = at gaps u + cell stretches u v

-- what it costs before lot b of the second level, by the lots of the first one
pub record AreGaps (low mid : LevelLists) (plane : List (List ℕ)) (b : ℕ) (gaps : List ℕ) : Type 0 where
  pub size : length gaps ≡ b
  pub each : (v : ℕ) → v < b → IsLeastOf v b (leave_cost low mid plane v b) (at gaps v)

-- the entry of lots b and v by the gaps before b: `first` is what it costs without another lot of the second level before it
pub record IsGapEntry (mid : LevelLists) (gaps : List ℕ) (stretches : List (List ℕ)) (first v b x : ℕ) : Type 0 where
  pub start : x ≤ first
  pub enter : (u : ℕ) → u < b → u ≤ v → x ≤ enter_cost gaps stretches v u + at mid.setup_cost.items b
  pub some : x < most → (first ≤ x) ⊎ ((u : ℕ) × (u < b) × (u ≤ v) × (enter_cost gaps stretches v u + at mid.setup_cost.items b ≤ x))

-- from lot e of the second level, served by lot u, to lot b, served by lot v
abbrev pub pair_step : (low mid : LevelLists) → (stretches plane : List (List ℕ)) → (v b u e : ℕ) → ℕ
pair_step low mid stretches plane v b u e = leave_cost low mid plane u b e + cell stretches u v + at mid.setup_cost.items b

pub record IsPairStep (low mid : LevelLists) (stretches plane : List (List ℕ)) (v b x : ℕ) : Type 0 where
  pub served : ℕ
  pub lot : ℕ
  pub order : served ≤ lot
  pub before : lot < b
  pub within : served ≤ v
  pub cost : pair_step low mid stretches plane v b served lot ≤ x

pub record IsPairEntry (low mid : LevelLists) (stretches plane : List (List ℕ)) (first v b x : ℕ) : Type 0 where
  pub start : x ≤ first
  pub enter : (u e : ℕ) → u ≤ e → e < b → u ≤ v → x ≤ pair_step low mid stretches plane v b u e
  pub some : x < most → (first ≤ x) ⊎ IsPairStep low mid stretches plane v b x

pub record IsPairRow (low mid : LevelLists) (stretches plane : List (List ℕ)) (firsts : List ℕ) (b : ℕ) (row : List ℕ) : Type 0 where
  pub size : length row ≡ b + 1
  pub each : (v : ℕ) → v ≤ b → IsPairEntry low mid stretches plane (at firsts v) v b (at row v)

pub record IsPairPlane (low mid : LevelLists) (stretches firsts : List (List ℕ)) (count : ℕ) (plane : List (List ℕ)) : Type 0 where
  pub size : length plane ≡ count
  pub each : (b : ℕ) → b < count → IsPairRow low mid stretches plane (row_of firsts b) b (row_of plane b)

-- two levels begin with lots 0
pub record AreFirsts (count : ℕ) (firsts : List (List ℕ)) : Type 0 where
  pub shape : HasLots count firsts
  pub start : cell firsts 0 0 ≡ 0
  pub others : (b v : ℕ) → 1 ≤ b → b < count → v ≤ b → cell firsts b v ≡ most

-- what is left to pay at lots b and v where the second level opens no other lot: `last` is the end
abbrev pub end_cost : (low mid : LevelLists) → (stretches plane : List (List ℕ)) → (last b v : ℕ) → ℕ
end_cost low mid stretches plane last b v = leave_cost low mid plane v last b + cell stretches v last

pub record IsLeastEnd (low mid : LevelLists) (stretches plane : List (List ℕ)) (count last x : ℕ) : Type 0 where
  pub within : (b v : ℕ) → v ≤ b → b < count → x ≤ end_cost low mid stretches plane last b v
  pub some : x < most → (b : ℕ) × (v : ℕ) × (v ≤ b) × (b < count) × (end_cost low mid stretches plane last b v ≤ x)

-- THREE LEVELS: the same, and lot z of the third level is next, which isn't set up yet. What is asked of the third level before z is paid, and its setups before z. There is a plane for each z, with as many lots of the second level as are not after z

abbrev pub lots_up_to : (width z : ℕ) → ℕ
lots_up_to width z = min (z + 1) (width - 1)

-- the planes have these lots
abbrev pub ArePlanes : (width : ℕ) → List (List (List ℕ)) → Type 0
ArePlanes width planes = (z : ℕ) → z < length planes → HasLots (lots_up_to width z) (plane_of planes z)

-- lot t of the third level, which is made of lot b, is opened and serves up to lot z
abbrev pub top_step : (low mid top : LevelLists) → (planes : List (List (List ℕ))) → (z b v t : ℕ) → ℕ
top_step low mid top planes z b v t = cell (plane_of planes t) b v + at top.setup_cost.items t + top_at low mid top v b t * asked_between top t z

pub record AreTopFirsts (low mid top : LevelLists) (planes : List (List (List ℕ))) (z count : ℕ) (firsts : List (List ℕ)) : Type 0 where
  pub shape : HasLots count firsts
  pub each : (b v : ℕ) → b < count → v ≤ b → IsLeastOf b z (top_step low mid top planes z b v) (cell firsts b v)

pub record IsChainEntry (low mid top : LevelLists) (stretches : List (List ℕ)) (planes : List (List (List ℕ))) (plane : List (List ℕ)) (z v b x : ℕ) : Type 0 where
  pub opens : (t : ℕ) → b ≤ t → t < z → x ≤ top_step low mid top planes z b v t
  pub enter : (u e : ℕ) → u ≤ e → e < b → u ≤ v → x ≤ pair_step low mid stretches plane v b u e
  pub some : x < most → ((t : ℕ) × (b ≤ t) × (t < z) × (top_step low mid top planes z b v t ≤ x)) ⊎ IsPairStep low mid stretches plane v b x

pub record IsChainPlane (low mid top : LevelLists) (stretches : List (List ℕ)) (planes : List (List (List ℕ))) (width z : ℕ) (plane : List (List ℕ)) : Type 0 where
  pub shape : HasLots (lots_up_to width z) plane
  pub start : z ≡ 0 → cell plane 0 0 ≡ 0
  pub each : (b v : ℕ) → 1 ≤ z → b < lots_up_to width z → v ≤ b → IsChainEntry low mid top stretches planes plane z v b (cell plane b v)

abbrev pub AreChainPlanes : (low mid top : LevelLists) → (stretches : List (List ℕ)) → (width : ℕ) → (planes : List (List (List ℕ))) → Type 0
AreChainPlanes low mid top stretches width planes = (z : ℕ) → z < length planes → IsChainPlane low mid top stretches planes width z (plane_of planes z)

-- What tables say of the levels that their lists are of, whose lots arrive at once.
use Rattle.std.specs.Prelude.{ℕ, ◌+◌, ◌≤◌, ◌<◌}
use Rattle.lot_sizing.specs.Sums.{sum_to}
use Rattle.chain_dp.specs.declared.lists.LevelLists.{LevelLists}
use Rattle.chain_dp.specs.Chains.{Level, Lots, lots_cost, made, used_by}
use Rattle.chain_dp.specs.Numbers.{most}
use Rattle.chain_dp.specs.Lists.{AreListsOf}

-- nothing is used
abbrev pub unused : ℕ → ℕ
unused t = 0

-- `IsMade` without a lead time
pub record IsMadeAtOnce (periods : ℕ) (l : Level) (used : ℕ → ℕ) (w : Lots) : Type 0 where
  pub once : (t : ℕ) → 1 ≤ t → t ≤ periods → w.setup t ≤ 1
  pub setup : (t : ℕ) → 1 ≤ t → t ≤ periods → 0 < w.make t → 1 ≤ w.setup t
  pub served : (t : ℕ) → t ≤ periods → used t + sum_to t l.need ≤ made w t

-- the least cost, or `most` where that is greater
pub record IsLeastOfOne (periods : ℕ) (l : Level) (cost : ℕ) : Type 0 where
  pub some : cost < most → (w : Lots) × IsMadeAtOnce periods l unused w × (lots_cost periods l w ≤ cost)
  pub least : (w : Lots) → IsMadeAtOnce periods l unused w → cost ≤ lots_cost periods l w

pub record IsLeastOfTwo (periods : ℕ) (l m : Level) (cost : ℕ) : Type 0 where
  pub some : cost < most → (w : Lots) × (u : Lots) × IsMadeAtOnce periods l (used_by l.per_next u) w × IsMadeAtOnce periods m unused u × (lots_cost periods l w + lots_cost periods m u ≤ cost)
  pub least : (w u : Lots) → IsMadeAtOnce periods l (used_by l.per_next u) w → IsMadeAtOnce periods m unused u → cost ≤ lots_cost periods l w + lots_cost periods m u

pub record IsLeastOfThree (periods : ℕ) (l m t : Level) (cost : ℕ) : Type 0 where
  pub some : cost < most → (w : Lots) × (u : Lots) × (x : Lots) × IsMadeAtOnce periods l (used_by l.per_next u) w × IsMadeAtOnce periods m (used_by m.per_next x) u × IsMadeAtOnce periods t unused x
      × (lots_cost periods l w + lots_cost periods m u + lots_cost periods t x ≤ cost)
  pub least : (w u x : Lots) → IsMadeAtOnce periods l (used_by l.per_next u) w → IsMadeAtOnce periods m (used_by m.per_next x) u → IsMadeAtOnce periods t unused x
      → cost ≤ lots_cost periods l w + lots_cost periods m u + lots_cost periods t x

abbrev pub IsCostOfOne : LevelLists → ℕ → Type 0
IsCostOfOne x cost = (periods : ℕ) (l : Level) → AreListsOf periods l x → IsLeastOfOne periods l cost

abbrev pub IsCostOfTwo : (low mid : LevelLists) → ℕ → Type 0
IsCostOfTwo low mid cost =
    (periods : ℕ) (l m : Level) → AreListsOf periods l low → AreListsOf periods m mid → IsLeastOfTwo periods l m cost

abbrev pub IsCostOfThree : (low mid top : LevelLists) → ℕ → Type 0
IsCostOfThree low mid top cost =
    (periods : ℕ) (l m t : Level) → AreListsOf periods l low → AreListsOf periods m mid → AreListsOf periods t top
    → IsLeastOfThree periods l m t cost

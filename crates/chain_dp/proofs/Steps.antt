-- Tables of costs over lots, as functions: each entry below `cap` is that of a step that leads to it.
use Rattle.std.proofs.Common.{◌≤◌, ◌<◌, ◌+◌, ◌*◌, ◌⊎◌, ℕ, suc}
use Rattle.chain_dp.specs.Chains.{Level}
use Rattle.chain_dp.proofs.Prices.{Chain, asked, lot_fee, low_price, mid_price, rest_of, top_price}

-- from lot `last` to lot z, which costs `fee`
pub record IsStretchStep (l : Level) (A : ℕ → ℕ → ℕ) (v z fee x : ℕ) : Type 0 where
  pub last : ℕ
  pub low : v ≤ last
  pub high : last < z
  pub cost : A v last + low_price l last * asked l last z + fee ≤ x

-- the row of lot v
pub record HasStretchSteps (cap periods : ℕ) (l : Level) (A : ℕ → ℕ → ℕ) (v : ℕ) : Type 0 where
  pub next : (z : ℕ) → v < z → z ≤ periods → A v z < cap → IsStretchStep l A v z (l.setup_cost z) (A v z)
  pub last : A v (suc periods) < cap → IsStretchStep l A v (suc periods) 0 (A v (suc periods))

abbrev pub AreStretchSteps : (cap periods : ℕ) → Level → (ℕ → ℕ → ℕ) → Type 0
AreStretchSteps cap periods l A = (v : ℕ) → v ≤ periods → HasStretchSteps cap periods l A v

-- from lot `lot` of the second level, served by lot `served`, to lot b, served by lot v
pub record IsPlaneStep (low mid : Level) (a : ℕ) (A S : ℕ → ℕ → ℕ) (v b x : ℕ) : Type 0 where
  pub served : ℕ
  pub lot : ℕ
  pub order : served ≤ lot
  pub before : lot < b
  pub within : served ≤ v
  pub cost : S served lot + mid_price low mid a lot served * asked mid lot b + A served v + mid.setup_cost b ≤ x

-- from lot `open` of the third level to lot z
pub record IsTopStep (c : Chain) (S : ℕ → ℕ → ℕ → ℕ) (v b z x : ℕ) : Type 0 where
  pub lot : ℕ
  pub low : b ≤ lot
  pub high : lot < z
  pub cost : S v b lot + lot_fee c.top lot + top_price c lot b v * asked c.top lot z ≤ x

pub record HasPairSteps (cap periods : ℕ) (low mid : Level) (a : ℕ) (A S : ℕ → ℕ → ℕ) : Type 0 where
  pub stretches : AreStretchSteps cap periods low A
  pub steps : (v b : ℕ) → v ≤ b → 1 ≤ b → b ≤ periods → S v b < cap → IsPlaneStep low mid a A S v b (S v b)

pub record HasChainSteps (cap periods : ℕ) (c : Chain) (A : ℕ → ℕ → ℕ) (S : ℕ → ℕ → ℕ → ℕ) : Type 0 where
  pub stretches : AreStretchSteps cap periods c.low A
  pub steps : (v b z : ℕ) → v ≤ b → b ≤ z → b ≤ periods → 1 ≤ z → z ≤ suc periods → S v b z < cap →
      IsTopStep c S v b z (S v b z) ⊎ IsPlaneStep c.low c.mid c.into_mid A (λ w e. S w e z) v b (S v b z)

-- the end with lots b and v
pub record IsEndStep (periods : ℕ) (low mid : Level) (a : ℕ) (A S : ℕ → ℕ → ℕ) (x : ℕ) : Type 0 where
  pub served : ℕ
  pub lot : ℕ
  pub order : served ≤ lot
  pub high : lot ≤ periods
  pub cost : S served lot + rest_of periods low mid a A served lot ≤ x

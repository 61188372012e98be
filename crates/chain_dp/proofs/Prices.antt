-- Tables of costs over lots, as functions: no entry is above a step that leads to it.
use Rattle.std.proofs.Common.{◌≡◌, ℕ, zero, suc, ◌+◌, ◌-◌, ◌*◌, ◌≤◌, ◌<◌, min}
use Rattle.chain_dp.specs.Chains.{Level}
use Rattle.chain_dp.specs.Lists.{asked_before}

-- three levels, the lowest first, and how many units of each go into a unit of the next
pub record Chain : Type 0 where
  pub low : Level
  pub mid : Level
  pub top : Level
  pub into_mid : ℕ
  pub into_top : ℕ

-- the price of a unit of a lot, with what goes into it
abbrev pub lot_price : Level → ℕ → ℕ → ℕ
lot_price l zero below = l.opening_price
lot_price l (suc t) below = l.unit_cost (suc t) + below

-- the setup cost of a lot: lot 0 has none
abbrev pub lot_fee : Level → ℕ → ℕ
lot_fee l zero = 0
lot_fee l (suc t) = l.setup_cost (suc t)

-- what is asked of a level from one lot to another
abbrev pub asked : Level → ℕ → ℕ → ℕ
asked l w z = asked_before l z - asked_before l w

-- prices of lots of the lowest level
abbrev pub low_price : Level → ℕ → ℕ
low_price l v = lot_price l v 0

-- from lot v of the lowest level to lot z: the setups of the lots after v, and what is asked before z
pub record IsStretchTable (periods : ℕ) (l : Level) (A : ℕ → ℕ → ℕ) : Type 0 where
  pub none : (v : ℕ) → v ≤ periods → A v v ≡ 0
  pub next : (v w z : ℕ) → v ≤ w → w < z → z ≤ periods → A v z ≤ A v w + low_price l w * asked l w z + l.setup_cost z
  pub last : (v w : ℕ) → v ≤ w → w ≤ periods → A v (suc periods) ≤ A v w + low_price l w * asked l w (suc periods)

-- the price of a unit of lot b of the second level, where lot v of the lowest level serves it
abbrev pub mid_price : Level → Level → ℕ → ℕ → ℕ → ℕ
mid_price low mid a b v = lot_price mid b (a * low_price low v)

-- the price of a unit of lot t of the third level, where lot b of the second level serves it, and lot v that one
abbrev pub top_price : Chain → ℕ → ℕ → ℕ → ℕ
top_price c t b v = lot_price c.top t (c.into_top * mid_price c.low c.mid c.into_mid b v)

-- two levels up to a period: S v b stands at the open lot b of the second level, served by lot v. All setups of lots up to b and v are paid, what is asked of the second level before b, and of the lowest one before v
pub record IsPlane (last : ℕ) (low mid : Level) (a : ℕ) (A S : ℕ → ℕ → ℕ) : Type 0 where
  pub next : (v b w z : ℕ) → v ≤ b → b < z → z ≤ last → v ≤ w → w ≤ z → S w z ≤ S v b + mid_price low mid a b v * asked mid b z + A v w + mid.setup_cost z

pub record IsPairTable (periods : ℕ) (low mid : Level) (a : ℕ) (A S : ℕ → ℕ → ℕ) : Type 0 where
  pub stretches : IsStretchTable periods low A
  pub start : S 0 0 ≡ 0
  pub plane : IsPlane periods low mid a A S

-- what is left to pay from lots b and v on, where nothing more is opened but lots of the lowest level
abbrev pub rest_of : ℕ → Level → Level → ℕ → (ℕ → ℕ → ℕ) → ℕ → ℕ → ℕ
rest_of periods low mid a A v b = mid_price low mid a b v * asked mid b (suc periods) + A v (suc periods)

-- at most each end
abbrev pub IsPairEnd : ℕ → Level → Level → ℕ → (A S : ℕ → ℕ → ℕ) → ℕ → Type 0
IsPairEnd periods low mid a A S G = (v b : ℕ) → v ≤ b → b ≤ periods → G ≤ S v b + rest_of periods low mid a A v b

-- three levels: S v b z with z for the next lot of the third level, or periods + 1 where there is none; what is asked of the third level before z is paid, and its setups before z
pub record IsChainTable (periods : ℕ) (c : Chain) (A : ℕ → ℕ → ℕ) (S : ℕ → ℕ → ℕ → ℕ) : Type 0 where
  pub stretches : IsStretchTable periods c.low A
  pub start : S 0 0 0 ≡ 0
  pub planes : (z : ℕ) → 1 ≤ z → z ≤ suc periods → IsPlane (min z periods) c.low c.mid c.into_mid A (λ v b. S v b z)
  pub top : (v b t z : ℕ) → v ≤ b → b ≤ t → t < z → z ≤ suc periods → S v b z ≤ S v b t + lot_fee c.top t + top_price c t b v * asked c.top t z

abbrev pub IsChainEnd : ℕ → Chain → (ℕ → ℕ → ℕ) → (ℕ → ℕ → ℕ → ℕ) → ℕ → Type 0
IsChainEnd periods c A S G = IsPairEnd periods c.low c.mid c.into_mid A (λ v b. S v b (suc periods)) G

-- The limits of least prices, and the first that is past them.
use Rattle.std.specs.Prelude.{ℕ, ◌+◌, ◌-◌, ◌*◌, ◌≤◌, ◌<◌, max, List, length}
use Rattle.lot_sizing.specs.declared.limits.TheConstants.{MAX_PERIODS}
use Rattle.quantity_dp.specs.declared.lots.LotPeriod.{LotPeriod}
use Rattle.quantity_dp.specs.declared.limits.LotsFault.{LotsFault}
use Rattle.quantity_dp.specs.declared.limits.LotsFault.TheVariants.{Need, Periods, Price}
use Rattle.quantity_dp.specs.declared.limits.TheConstants.{MAX_ENTRIES, MAX_PRICE}
use Rattle.quantity_dp.specs.Lots.{lot_at}

-- no price is too high
pub record IsPriced (lot : LotPeriod) : Type 0 where
  pub setup : lot.setup ≤ MAX_PRICE
  pub unit : lot.unit ≤ MAX_PRICE
  pub share : lot.share ≤ MAX_PRICE

-- the table has few enough entries for what must have been started and what is asked by the end of a period
abbrev pub IsSmall : ℕ → LotPeriod → Type 0
IsSmall periods lot = periods * (max lot.need lot.asked + 1) ≤ MAX_ENTRIES

-- both, of each of the first periods
pub record AreWithinTo (lots : List LotPeriod) (n : ℕ) : Type 0 where
  pub priced : (t : ℕ) → 1 ≤ t → t ≤ n → IsPriced (lot_at lots t)
  pub small : (t : ℕ) → 1 ≤ t → t ≤ n → IsSmall (length lots) (lot_at lots t)

-- the limits of `least_price`
pub record IsWithinLimits (lots : List LotPeriod) : Type 0 where
  pub periods : length lots ≤ MAX_PERIODS
  pub each : AreWithinTo lots (length lots)

-- this period is the first past the limits
pub record IsFirstPast (lots : List LotPeriod) (t : ℕ) : Type 0 where
  pub few : length lots ≤ MAX_PERIODS
  pub low : 1 ≤ t
  pub high : t ≤ length lots
  pub before : AreWithinTo lots (t - 1)

-- what is past the limits first: the number of periods, then period by period its prices and then its need
abbrev pub IsFaultOf : List LotPeriod → LotsFault → Type 0
IsFaultOf lots Periods = MAX_PERIODS < length lots
IsFaultOf lots (Price t) = IsFirstPast lots t × (IsPriced (lot_at lots t) → ⊥)
IsFaultOf lots (Need t) = IsFirstPast lots t × IsPriced (lot_at lots t) × (MAX_ENTRIES < length lots * (max (lot_at lots t).need (lot_at lots t).asked + 1))

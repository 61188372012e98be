-- Choices of the lots of one item, and what they cost: lot sizing with capacities that vary over time (Florian, Lenstra and Rinnooy Kan 1980), with prices of setups and units alone.
use Rattle.std.specs.Prelude.{◌≡◌, ℕ, ◌+◌, ◌-◌, ◌*◌, ◌≤◌, List, length, slice_index_or, MatchOption, Option}
use Rattle.lot_sizing.specs.Sums.{sum_to}
use Rattle.lot_sizing.specs.Single.{NetPlan}
use Rattle.quantity_dp.specs.declared.lots.LotPeriod.{LotPeriod}

-- by period: what a setup and a unit cost, what must have been started by the end, what is asked to have been, what a unit costs that falls short of that, and the largest lot
pub record Lots : Type 0 where
  pub periods : ℕ
  pub setup : ℕ → ℕ
  pub unit : ℕ → ℕ
  pub need : ℕ → ℕ
  pub asked : ℕ → ℕ
  pub share : ℕ → ℕ
  pub largest : ℕ → ℕ

abbrev pub no_lot : LotPeriod
no_lot = record { setup = 0; unit = 0; need = 0; asked = 0; share = 0; largest = 0 }

-- the lots of a period, counted from 1
abbrev pub lot_at : List LotPeriod → ℕ → LotPeriod
lot_at lots t = slice_index_or lots (t - 1) no_lot

abbrev pub lots_of : List LotPeriod → Lots
lots_of lots = record {
  periods = length lots;
  setup = λ t. (lot_at lots t).setup;
  unit = λ t. (lot_at lots t).unit;
  need = λ t. (lot_at lots t).need;
  asked = λ t. (lot_at lots t).asked;
  share = λ t. (lot_at lots t).share;
  largest = λ t. (lot_at lots t).largest;
}

-- quantities and setups of the first periods: a setup is made or not, no quantity is above the largest lot or made without a setup, and what must have been started has been
pub record IsChoiceTo (a : Lots) (n : ℕ) (q : NetPlan) : Type 0 where
  pub setup : (t : ℕ) → 1 ≤ t → t ≤ n → q.setup t ≤ 1
  pub lots : (t : ℕ) → 1 ≤ t → t ≤ n → q.make t ≤ a.largest t * q.setup t
  pub started : (t : ℕ) → 1 ≤ t → t ≤ n → a.need t ≤ sum_to t q.make

-- a setup, the units that are made, and those that fall short of what is asked by the end of a period
abbrev pub price_at : Lots → NetPlan → ℕ → ℕ
price_at a q t = a.setup t * q.setup t + a.unit t * q.make t + a.share t * (a.asked t - sum_to t q.make)

abbrev pub price_to : Lots → ℕ → NetPlan → ℕ
price_to a n q = sum_to n (price_at a q)

-- of all periods
abbrev pub IsChoice : Lots → NetPlan → Type 0
IsChoice a q = IsChoiceTo a a.periods q

abbrev pub price : Lots → NetPlan → ℕ
price a q = price_to a a.periods q

-- some choice costs this, and none costs less
pub record IsLeastPrice (a : Lots) (c : ℕ) : Type 0 where
  pub some : (q : NetPlan) × IsChoice a q × (price a q ≡ c)
  pub least : (q : NetPlan) → IsChoice a q → c ≤ price a q

abbrev pub HasNoChoice : Lots → Type 0
HasNoChoice a = (q : NetPlan) → IsChoice a q → ⊥

-- the least price, and none exactly where there is no choice
abbrev pub IsLeastOrNone : Lots → Option ℕ → Type 0
IsLeastOrNone a o = MatchOption o (HasNoChoice a) (IsLeastPrice a)

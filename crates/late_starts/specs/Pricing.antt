-- The least price of a late item, by the periods that serve what is on time: Zangwill's recursion (1966) for lot sizing with backlogging.
use Rattle.std.specs.Prelude.{◌≡◌, ◌⊎◌, ℕ, zero, suc, ◌+◌, ◌-◌, ◌*◌, ◌≤◌, ◌<◌, ◌^◌, min, max, List, length, slice_index_or, Vec}
use Rattle.std.specs.declared.alloc.Global.{Global}
use Rattle.lot_sizing.specs.Problem.{entry}
use Rattle.lot_sizing.specs.Sums.{sum_to, sum_from}
use Rattle.lot_sizing.specs.Single.{NetPlan}
use Rattle.late_starts.specs.declared.lots.LateLot.{LateLot}
use Rattle.late_starts.specs.Choices.{IsLateChoice, LateLots, late_price}

-- what is on time by the end of a period, and nothing before the first
abbrev pub need_by : (ℕ → ℕ) → ℕ → ℕ
need_by need zero = 0
need_by need (suc t) = need (suc t)

-- what is on time doesn't fall from one period to the next
abbrev pub IsRising : LateLots → Type 0
IsRising a = (t : ℕ) → 2 ≤ t → t ≤ a.periods → a.need (t - 1) ≤ a.need t

-- what is on time by the end of a period and not before it
abbrev pub units_in : (ℕ → ℕ) → ℕ → ℕ
units_in need t = need_by need t - need_by need (t - 1)

-- the price of a unit that is started in period u, and falls short from period t on until then
abbrev pub price_from : LateLots → ℕ → ℕ → ℕ
price_from a u t = a.unit u + sum_from t (u - t) a.share

-- period u may serve what is on time by the end of period t: it is no later, or no later than the period from which on nothing may fall short
pub record MayServe (a : LateLots) (u t : ℕ) : Type 0 where
  pub some : 1 ≤ t
  pub low : 1 ≤ u
  pub high : u ≤ a.periods
  pub in_time : u ≤ max t a.settled

-- setups, quantities and shortfalls that serve what is on time by the end of period t alone, and cost no more than this
pub record IsPartial (a : LateLots) (t price : ℕ) (q : NetPlan) (short : ℕ → ℕ) : Type 0 where
  pub setup : (w : ℕ) → q.setup w ≤ 1
  pub made : (w : ℕ) → 0 < q.make w → q.setup w ≡ 1
  pub started : (w : ℕ) → 1 ≤ w → w ≤ a.periods → need_by a.need (min w t) ≤ sum_to w q.make + short w
  pub settled : (w : ℕ) → a.settled ≤ w → short w ≡ 0
  pub within : late_price a q short ≤ price

-- some are such
abbrev pub HasPartial : LateLots → ℕ → ℕ → Type 0
HasPartial a t price = (q : NetPlan) × (short : ℕ → ℕ) × IsPartial a t price q short

-- and have a setup in period u
abbrev pub HasPartialWith : LateLots → ℕ → ℕ → ℕ → Type 0
HasPartialWith a t u price = (q : NetPlan) × (short : ℕ → ℕ) × IsPartial a t price q short × (q.setup u ≡ 1)

-- in a choice, period u serves what is on time by the end of period t: it is the last of the cheapest with a setup; and the price of serving all so far with the last ones from it is no more than what the choice pays so far
pub record IsServedBy (a : LateLots) (q : NetPlan) (short : ℕ → ℕ) (t : ℕ) (row : ℕ → ℕ) (u : ℕ) : Type 0 where
  pub serves : MayServe a u t
  pub set : q.setup u ≡ 1
  pub cheapest : (v : ℕ) → MayServe a v t → q.setup v ≡ 1 → price_from a u t ≤ price_from a v t
  pub last : (v : ℕ) → MayServe a v t → q.setup v ≡ 1 → u < v → price_from a u t < price_from a v t
  pub paid : row u + price_from a u t * sum_to t q.make ≤ sum_to t (λ w. a.unit w * q.make w) + sum_to (t - 1) (λ w. a.share w * short w) + sum_to u (λ w. a.setup w * q.setup w) + price_from a u t * need_by a.need t

-- or no period with a setup may, and nothing is on time by then
pub record IsIdle (a : LateLots) (q : NetPlan) (t least : ℕ) : Type 0 where
  pub none : (v : ℕ) → MayServe a v t → q.setup v ≡ 1 → ⊥
  pub need : need_by a.need t ≡ 0
  pub free : least ≡ 0

-- the prices after t periods: least is that of serving what is on time by then, row u that of serving it with the last of it from period u; up to a greatest number they are prices of choices
pub record IsRowOfPrices (a : LateLots) (most t : ℕ) (row : ℕ → ℕ) (least : ℕ) : Type 0 where
  pub any : (u : ℕ) → MayServe a u t → least ≤ row u
  pub floor : (q : NetPlan) (short : ℕ → ℕ) → IsLateChoice a q short → ((u : ℕ) × IsServedBy a q short t row u) ⊎ IsIdle a q t least
  pub found : least < most → HasPartial a t least
  pub from : (u : ℕ) → MayServe a u t → row u < most → HasPartialWith a t u (row u)

-- an entry of the next row: the last ones come from the period after others from it, or with a setup of it
pub record IsNextPrice (a : LateLots) (most t : ℕ) (row : ℕ → ℕ) (least u price : ℕ) : Type 0 where
  pub enter : price ≤ units_in a.need (suc t) * price_from a u (suc t) + (least + a.setup u)
  pub stay : MayServe a u t → price ≤ units_in a.need (suc t) * price_from a u (suc t) + row u
  pub some : price < most → (units_in a.need (suc t) * price_from a u (suc t) + (least + a.setup u) ≤ price) ⊎ (MayServe a u t × (units_in a.need (suc t) * price_from a u (suc t) + row u ≤ price))

abbrev pub IsNextRow : LateLots → ℕ → ℕ → (ℕ → ℕ) → ℕ → (ℕ → ℕ) → Type 0
IsNextRow a most t row least next = (u : ℕ) → MayServe a u (suc t) → IsNextPrice a most t row least u (next u)

-- and the least of it, nothing where nothing is on time
pub record IsNextLeast (a : LateLots) (most t : ℕ) (row : ℕ → ℕ) (least : ℕ) : Type 0 where
  pub idle : need_by a.need t ≡ 0 → least ≡ 0
  pub any : (u : ℕ) → MayServe a u t → least ≤ row u
  pub some : least < most → (need_by a.need t ≡ 0) ⊎ ((u : ℕ) × MayServe a u t × (row u ≤ least))

abbrev pub no_lot : LateLot
no_lot = record { setup = 0; unit = 0; share = 0; need = 0 }

-- the lot of a period, counted from 1
abbrev pub lot_at : List LateLot → ℕ → LateLot
lot_at lots t = slice_index_or lots (t - 1) no_lot

-- the lots of a list
abbrev pub late_lots_of : List LateLot → ℕ → LateLots
late_lots_of lots until = record {
  periods = length lots;
  setup = λ t. (lot_at lots t).setup;
  unit = λ t. (lot_at lots t).unit;
  share = λ t. (lot_at lots t).share;
  need = λ t. (lot_at lots t).need;
  settled = until;
}

-- how many periods may serve what is on time by the end of a period, the first ones
abbrev pub servers_to : ℕ → ℕ → ℕ
servers_to until zero = 0
servers_to until (suc t) = max (suc t) until

-- what falls short from period t on until a unit is started in period u costs as much
abbrev pub owing_from : List LateLot → ℕ → ℕ → ℕ
owing_from lots t u = sum_from t (u - t) (λ w. (lot_at lots w).share)

-- the price of a server after one more period, up to a greatest number: what its units cost comes to that of entering, or to its price before where it had one
pub record IsPriceAfter (most cost entered : ℕ) (row : List ℕ) (u price : ℕ) : Type 0 where
  pub enter : price ≤ cost + entered
  pub stay : u ≤ length row → price ≤ cost + entry row u
  pub some : price < most → (cost + entered ≤ price) ⊎ ((u ≤ length row) × (cost + entry row u ≤ price))

-- what the units cost that are on time by the end of a period and not before it, where a server starts them
abbrev pub cost_from : LateLots → ℕ → ℕ → ℕ
cost_from a t u = units_in a.need t * price_from a u t

-- the prices of the first n servers after one more period
pub record IsNextRowTo (a : LateLots) (t : ℕ) (row : List ℕ) (least n : ℕ) (next : List ℕ) : Type 0 where
  pub size : length next ≡ n
  pub each : (u : ℕ) → 1 ≤ u → u ≤ n → IsPriceAfter (2 ^ 128 - 1) (cost_from a t u) (least + a.setup u) row u (entry next u)

-- of all that may serve it
abbrev pub IsRowAfter : LateLots → ℕ → List ℕ → ℕ → Vec ℕ Global → Type 0
IsRowAfter a t row least next = IsNextRowTo a t row least (servers_to a.settled t) next.items

-- the least of the first n entries of a row, up to a greatest number
pub record IsLeastTo (row : List ℕ) (n least : ℕ) : Type 0 where
  pub any : (u : ℕ) → 1 ≤ u → u ≤ n → least ≤ entry row u
  pub some : least < 2 ^ 128 - 1 → (u : ℕ) × (1 ≤ u) × (u ≤ n) × (entry row u ≤ least)

-- the least of a row, and nothing where nothing is on time
pub record IsLeastOfRow (need : ℕ) (row : List ℕ) (least : ℕ) : Type 0 where
  pub idle : need ≡ 0 → least ≡ 0
  pub any : (u : ℕ) → 1 ≤ u → u ≤ length row → least ≤ entry row u
  pub some : least < 2 ^ 128 - 1 → (need ≡ 0) ⊎ ((u : ℕ) × (1 ≤ u) × (u ≤ length row) × (entry row u ≤ least))

-- the row and the least price after t periods
pub record IsPricedTo (a : LateLots) (t : ℕ) (row : List ℕ) (least : ℕ) : Type 0 where
  pub size : length row ≡ servers_to a.settled t
  pub prices : IsRowOfPrices a (2 ^ 128 - 1) t (entry row) least

-- the lesser of what a server cost and of entering it
pub record IsBase (row : List ℕ) (u entered base : ℕ) : Type 0 where
  pub enter : base ≤ entered
  pub stay : u ≤ length row → base ≤ entry row u
  pub some : (base ≡ entered) ⊎ ((u ≤ length row) × (base ≡ entry row u))

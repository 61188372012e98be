-- Groups of items whose reduced costs are bounded together, and what the setups and quantities of each may be.
use Rattle.std.specs.Prelude.{◌≡◌, ℕ, ◌+◌, ◌-◌, ◌*◌, ◌≤◌, ◌<◌, List, [], ◌∷◌, if◌then◌else◌, ◌==◌, nat_le}
use Rattle.lot_sizing.specs.Sums.{sum_to}
use Rattle.lot_sizing.specs.Problem.{Problem, entry, item_at, item_count, per_unit}
use Rattle.lot_sizing.specs.Net.{asked_of, asked_to}
use Rattle.lot_sizing.specs.Plan.{EachCell, Table}
use Rattle.lot_sizing.specs.Single.{NetPlan}
use Rattle.lin_rows.specs.declared.column.Column.{Column}
use Rattle.lin_rows.specs.declared.column.Column.TheVariants.{X, Y}
use Rattle.must_start.specs.MustStart.{AreMustStart}
use Rattle.must_start.specs.Lots.{IsLargestLot}
use Rattle.late_starts.specs.OnTime.{AreOnTime}
use Rattle.late_starts.specs.Choices.{LateLots, late_lots}
use Rattle.quantity_dp.specs.Lots.{Lots}
use Rattle.chain_dp.specs.Chains.{Level}
use Rattle.item_groups.specs.declared.group.ChainLink.{ChainLink}

-- an item by what must have been started of it; an item by what is on time of it, with what a unit that falls short costs by the end of each period; an item by what must have been started and its largest lots, in whole quantities; the same by what is on time too, with what a unit that falls short costs; and a chain of items, the lowest first, each of which goes into the next one
pub data GroupShape : Type 0 where
  ItemGroup : (item : ℕ) → GroupShape
  LateGroup : (item : ℕ) → (shares : List ℕ) → GroupShape
  QuantityGroup : (item : ℕ) → GroupShape
  LateQuantityGroup : (item : ℕ) → (shares : List ℕ) → GroupShape
  ChainGroup : (low : ChainLink) → (rest : List ChainLink) → GroupShape

-- what is known of a problem: what must have been started of each item by the end of each period, what has been started if nothing is late, and its largest lots
pub record Known : Type 0 where
  pub start : Table
  pub on_time : Table
  pub lot : Table

-- and it is so
pub record AreKnown (m : Problem) (total : ℕ → ℕ) (known : Known) : Type 0 where
  pub start : AreMustStart m known.start
  pub on_time : AreOnTime m known.on_time
  pub lot : EachCell m (λ i t. IsLargestLot m total i t (known.lot i t))

-- what the setups and quantities of an item cost at the prices of columns
abbrev pub made_cost : Problem → (Column → ℕ) → ℕ → NetPlan → ℕ
made_cost m price i q = sum_to m.periods (λ t. price (Y i t) * q.setup t + price (X i t) * q.make t)

-- setups and quantities of an item: a setup is made or not, nothing is made without one, and what must have been started has been
pub record IsItemChoice (m : Problem) (start : Table) (i : ℕ) (q : NetPlan) : Type 0 where
  pub setup : (t : ℕ) → 1 ≤ t → t ≤ m.periods → q.setup t ≤ 1
  pub made : (t : ℕ) → 1 ≤ t → t ≤ m.periods → 0 < q.make t → q.setup t ≡ 1
  pub started : (t : ℕ) → 1 ≤ t → t ≤ m.periods → start i t ≤ sum_to t q.make

-- the late lots of an item: its prices, what is on time, and what a unit that falls short costs by the end of each period
abbrev pub late_lots_in : Problem → Known → (Column → ℕ) → (item : ℕ) → (shares : List ℕ) → LateLots
late_lots_in m known price i shares = late_lots m known.on_time (λ k t. price (Y k t)) (λ k t. price (X k t)) (λ k. entry shares) i

-- the lots of an item: its prices, what must have been started, and its largest lots
abbrev pub lots_in : Problem → Known → (Column → ℕ) → ℕ → Lots
lots_in m known price i = record {
  periods = m.periods;
  setup = λ t. price (Y i t);
  unit = λ t. price (X i t);
  need = known.start i;
  asked = λ t. 0;
  share = λ t. 0;
  largest = known.lot i;
}

-- the same where what is on time is asked, and a unit that falls short has a price; lots that arrive in the last period or later may not fall short
abbrev pub short_lots_in : Problem → Known → (Column → ℕ) → (item : ℕ) → (shares : List ℕ) → Lots
short_lots_in m known price i shares = record {
  periods = m.periods;
  setup = λ t. price (Y i t);
  unit = λ t. price (X i t);
  need = λ t. if nat_le (m.periods - (item_at m i).lead) t then known.on_time i t else known.start i t;
  asked = known.on_time i;
  share = entry shares;
  largest = known.lot i;
}

-- what is asked of an item up to a period, other than for lots of the next one in its chain: its demand, the required end stock, and what other items take of which so much must have been started
abbrev pub asked_besides : Problem → Table → (i next t : ℕ) → ℕ
asked_besides m start i next t = asked_to (asked_of m i) t + sum_to (item_count m) (λ j. per_unit m i j * (if j == next then 0 else start j t))

-- an item of a chain that goes into the next one
abbrev pub lower_level : Problem → Table → (Column → ℕ) → ChainLink → (next : ℕ) → Level
lower_level m start price link next = record {
  setup_cost = λ t. price (Y link.item t);
  unit_cost = λ t. price (X link.item t);
  need = λ t. asked_besides m start link.item next t - asked_besides m start link.item next (t - 1);
  opening_price = link.opening_price;
  per_next = per_unit m link.item next;
  lead = (item_at m link.item).lead;
}

-- the last item of a chain, by what must have been started of it
abbrev pub last_level : Problem → Table → (Column → ℕ) → ChainLink → Level
last_level m start price link = record {
  setup_cost = λ t. price (Y link.item t);
  unit_cost = λ t. price (X link.item t);
  need = λ t. start link.item t - start link.item (t - 1);
  opening_price = link.opening_price;
  per_next = 1;
  lead = 0;
}

-- the items of a chain
abbrev pub chain_levels : Problem → Table → (Column → ℕ) → ChainLink → List ChainLink → List Level
chain_levels m start price link [] = last_level m start price link ∷ []
chain_levels m start price link (next ∷ rest) = lower_level m start price link next.item ∷ chain_levels m start price next rest

-- what the opening stocks of all but the last item are worth at their prices; that of the last one is used up in what must have been started
abbrev pub stocks_worth : Problem → ChainLink → List ChainLink → ℕ
stocks_worth m link [] = 0
stocks_worth m link (next ∷ rest) = link.opening_price * (item_at m link.item).opening + stocks_worth m next rest

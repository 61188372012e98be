-- Lines over the positions, and where they are kept.
use Rattle.std.specs.Prelude.{◌≡◌, ℕ, zero, suc, ◌+◌, ◌-◌, ◌*◌, ◌/◌, ◌≤◌, ◌<◌, ◌⊎◌, List, length, Option, None, Some, IfSome, IsNone, slice_index_or}
use Rattle.lot_sizing.specs.Sums.{sum_to, sum_from}
use Rattle.lot_sizing.specs.Problem.{entry}
use Rattle.lot_sizing.specs.Single.{Single, IsServer, period_count, net_demand, positions_to, position_count, period_of, serving_cost, potential, ArePotentials}
use Rattle.lot_sizing.specs.declared.Block.{Block}
use Rattle.wagner_whitin.specs.Tables.{AreSums, most_cost, most_for_one, last_block}
use Rattle.wagner_whitin.specs.declared.lines.Line.{Line}
use Rattle.wagner_whitin.specs.declared.lines.LineSums.{LineSums}

-- what all positions up to p cost where the line's server serves those from its first one on
abbrev pub line_cost : Single → Line → ℕ → ℕ
line_cost s l p = l.before + sum_from l.first (suc p - l.first) (serving_cost s l.server)

-- a line that has begun by a position
pub record IsLine (s : Single) (from : ℕ) (l : Line) : Type 0 where
  pub low : 1 ≤ l.first
  pub begun : l.first ≤ from
  pub server : IsServer s l.server (period_of s l.first)
  pub small : l.before ≤ most_cost + most_for_one

-- the net demand of a position
abbrev pub net_at : Single → ℕ → ℕ
net_at s p = net_demand s (period_of s p)

-- what it costs to hold the net demand of a position from the first period on
abbrev pub held_at : Single → ℕ → ℕ
held_at s p = net_at s p * sum_to (period_of s p - 1) (entry s.hold)

-- sums over the first periods and over the first positions
pub record AreLineSums (s : Single) (sums : LineSums) : Type 0 where
  pub held : AreSums (period_count s) (entry s.hold) sums.held.items
  pub net : AreSums (position_count s) (net_at s) sums.net.items
  pub held_net : AreSums (position_count s) (held_at s) sums.held_net.items

-- one server costs no more than another at any position that both may serve
abbrev pub IsNoDearer : Single → ℕ → ℕ → Type 0
IsNoDearer s u w = (p : ℕ) → 1 ≤ p → p ≤ position_count s → u ≤ period_of s p → w ≤ period_of s p → serving_cost s u p ≤ serving_cost s w p

-- what is kept for a position
abbrev pub slot_at : List (Option Line) → ℕ → Option Line
slot_at slots p = slice_index_or slots (p - 1) None

-- all lines that are kept have begun by a position
abbrev pub AreLines : Single → ℕ → List (Option Line) → Type 0
AreLines s from slots = (k : ℕ) → 1 ≤ k → IfSome (slot_at slots k) (IsLine s from)

-- the line is there and costs at most x at p
abbrev pub CostsAtMost : (Line → ℕ → ℕ) → Option Line → ℕ → ℕ → Type 0
CostsAtMost value None p x = ⊥
CostsAtMost value (Some l) p x = value l p ≤ x

abbrev pub middle_of : ℕ → ℕ → ℕ
middle_of low high = low + (high - low) / 2

-- of the slots that are met on the way to p by halving the positions from low to before high, one has a line that costs at most x at p
abbrev pub IsReached : (Line → ℕ → ℕ) → List (Option Line) → ℕ → ℕ → ℕ → ℕ → ℕ → Type 0
IsReached value slots zero low high p x = ⊥
IsReached value slots (suc level) low high p x =
    CostsAtMost value (slot_at slots (middle_of low high)) p x
    ⊎ (((p < middle_of low high) × IsReached value slots level low (middle_of low high) p x)
    ⊎ ((middle_of low high < p) × IsReached value slots level (middle_of low high + 1) high p x))

-- a line has come to the slots from low to before high: at each position from a given one on it and all that were there are still met
pub record IsInserted (value : Line → ℕ → ℕ) (from level low high : ℕ) (line : Line) (old new : List (Option Line)) : Type 0 where
  pub size : length new ≡ length old
  pub others : (k : ℕ) → 1 ≤ k → (k < low) ⊎ (high ≤ k) → slot_at new k ≡ slot_at old k
  pub kept : (p x : ℕ) → from ≤ p → low ≤ p → p < high → IsReached value old level low high p x → IsReached value new level low high p x
  pub reached : (p : ℕ) → from ≤ p → low ≤ p → p < high → IsReached value new level low high p (value line p)
  pub origin : (k : ℕ) → 1 ≤ k → (slot_at new k ≡ Some line) ⊎ ((j : ℕ) × (1 ≤ j) × (slot_at new k ≡ slot_at old j))

-- the first position that a server may serve where no backlog is allowed
abbrev pub entry_of : Single → ℕ → ℕ
entry_of s u = suc (length (positions_to s (u - 1)))

-- the line of a server, from its first position on
abbrev pub line_of : Single → List ℕ → ℕ → Line
line_of s g u = record { before = potential g (entry_of s u - 1) + entry s.setup u; first = entry_of s u; server = u }

-- each potential is the least of the lines that have begun
pub record AreLeastLines (s : Single) (g : List ℕ) : Type 0 where
  pub size : length g ≡ position_count s
  pub least : (u p : ℕ) → 1 ≤ u → u ≤ period_count s → entry_of s u ≤ p → p ≤ position_count s → potential g p ≤ line_cost s (line_of s g u) p
  pub some : (p : ℕ) → 1 ≤ p → p ≤ position_count s → (u : ℕ) × (1 ≤ u) × (u ≤ period_count s) × (entry_of s u ≤ p) × (potential g p ≡ line_cost s (line_of s g u) p)

-- without backlog such potentials rise over no block by more than it costs
abbrev pub LinesArePotentials : Type 0
LinesArePotentials = (s : Single) (g : List ℕ) → IsNone s.back → AreLeastLines s g → ArePotentials s g

-- the lines of the servers up to e are met at each position from p on, and no others are kept
pub record IsHull (s : Single) (g : List ℕ) (e p level : ℕ) (slots : List (Option Line)) : Type 0 where
  pub size : length slots ≡ position_count s
  pub lines : AreLines s p slots
  pub own : (k : ℕ) → 1 ≤ k → IfSome (slot_at slots k) (λ l. l ≡ line_of s g l.server)
  pub begun : (u : ℕ) → 1 ≤ u → u ≤ e → entry_of s u ≤ p
  pub met : (u q : ℕ) → 1 ≤ u → u ≤ e → p ≤ q → q ≤ position_count s → IsReached (line_cost s) slots level 1 (position_count s + 1) q (line_cost s (line_of s g u) q)

-- each last block begins with the first position of its server
abbrev pub BeginAtEntries : Single → ℕ → List Block → Type 0
BeginAtEntries s p lasts = (k : ℕ) → 1 ≤ k → k ≤ p → (last_block lasts k).first ≡ entry_of s (last_block lasts k).server

-- a line of a server that has begun, than which none is cheaper at a position
pub record IsCheapest (s : Single) (g : List ℕ) (p : ℕ) (l : Line) : Type 0 where
  pub line : IsLine s p l
  pub own : l ≡ line_of s g l.server
  pub least : (u : ℕ) → 1 ≤ u → u ≤ period_count s → entry_of s u ≤ p → line_cost s l p ≤ line_cost s (line_of s g u) p

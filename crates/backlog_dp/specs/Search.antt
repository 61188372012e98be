-- How the first broken block is looked for: server by server, over lists by position.
use Rattle.std.specs.Prelude.{◌≡◌, ◌⊎◌, ℕ, suc, ◌+◌, ◌-◌, ◌*◌, ◌≤◌, ◌<◌, ◌&&◌, ◌||◌, ◌==◌, nat_le, nat_lt, Bool, true, false, Option, Some, None, List, if◌then◌else◌}
use Rattle.lot_sizing.specs.Sums.{sum_from, sum_to}
use Rattle.lot_sizing.specs.Problem.{entry}
use Rattle.lot_sizing.specs.declared.Block.{Block}
use Rattle.lot_sizing.specs.Single.{IsBlock, Single, position_count, potential, serving_cost}
use Rattle.lot_sizing.specs.declared.limits.TheConstants.{MAX_PERIODS}
use Rattle.echelon.specs.Views.{HasEach}
use Rattle.echelon_rows.specs.Rows.{single_with}
use Rattle.echelon_rows.specs.declared.limits.TheConstants.{MAX_STEP}
use Rattle.backlog_dp.specs.Broken.{HoldsOver, IsEarlier}
use Rattle.backlog_dp.specs.declared.rising.Start.{Start}

-- what a server's positions cost, whatever setups cost
abbrev pub AreServingCosts : List ℕ → List ℕ → List ℕ → List ℕ → Bool → ℕ → List ℕ → Type 0
AreServingCosts net unit hold back owing u costs = (setup : List ℕ) → HasEach (position_count (single_with net setup unit hold back owing)) (serving_cost (single_with net setup unit hold back owing) u) costs

-- of the blocks of the first servers, the first one over which potentials rise by more
pub record IsFirstTo (s : Single) (g : List ℕ) (n : ℕ) (b : Block) : Type 0 where
  pub block : IsBlock s b
  pub server : b.server ≤ n
  pub broken : HoldsOver s g b → ⊥
  pub before : (c : Block) → IsBlock s c → c.server ≤ n → IsEarlier c b → HoldsOver s g c

-- there is such a block, or they rise over none by more
abbrev pub AnswersTo : Single → List ℕ → ℕ → Option Block → Type 0
AnswersTo s g n None = (c : Block) → IsBlock s c → c.server ≤ n → HoldsOver s g c
AnswersTo s g n (Some b) = IsFirstTo s g n b

-- the same for the blocks of one server
abbrev pub AnswersOf : Single → List ℕ → ℕ → Option Block → Type 0
AnswersOf s g u None = (c : Block) → IsBlock s c → c.server ≡ u → HoldsOver s g c
AnswersOf s g u (Some b) = IsBlock s b × (b.server ≡ u) × (HoldsOver s g b → ⊥) × ((c : Block) → IsBlock s c → c.server ≡ u → IsEarlier c b → HoldsOver s g c)

-- the earlier of two, by positions; the first one where they are the same
abbrev pub is_before : Block → Block → Bool
is_before a b = nat_lt a.first b.first || ((a.first == b.first) && nat_lt a.last b.last)

abbrev pub earlier_of : Option Block → Option Block → Option Block
earlier_of None o = o
earlier_of (Some a) None = Some a
earlier_of (Some a) (Some b) = if is_before b a then Some b else Some a

-- what a server may add from one position on
abbrev pub rise_most : List ℕ → List ℕ → ℕ → ℕ → ℕ → ℕ
rise_most g costs setup first last = potential g (first - 1) + (setup + sum_from first (suc last - first) (entry costs))

-- the first position to which the potentials rise by more
abbrev pub EndsAt : List ℕ → List ℕ → ℕ → ℕ → ℕ → Option ℕ → Type 0
EndsAt g costs setup first count None = (last : ℕ) → first ≤ last → last ≤ count → potential g last ≤ rise_most g costs setup first last
EndsAt g costs setup first count (Some last) = (first ≤ last) × (last ≤ count) × (rise_most g costs setup first last < potential g last) × ((before : ℕ) → first ≤ before → before < last → potential g before ≤ rise_most g costs setup first before)

-- whether a server may serve the period of a position: it is no later where no backlog is allowed
abbrev pub serves_at : Bool → ℕ → List ℕ → ℕ → Bool
serves_at backlogged server periods p = backlogged || nat_le server (entry periods p)

-- of one server's blocks, by the costs and the periods of the positions
abbrev pub HoldsFrom : List ℕ → List ℕ → List ℕ → ℕ → Bool → ℕ → ℕ → ℕ → Type 0
HoldsFrom g costs periods setup backlogged server first last = serves_at backlogged server periods first ≡ true → potential g last ≤ rise_most g costs setup first last

-- of all of them that end with a position up to a last one
abbrev pub HoldsTo : List ℕ → List ℕ → List ℕ → ℕ → Bool → ℕ → ℕ → Type 0
HoldsTo g costs periods setup backlogged server count = (first last : ℕ) → 1 ≤ first → first ≤ last → last ≤ count → HoldsFrom g costs periods setup backlogged server first last

abbrev pub BreaksOf : List ℕ → List ℕ → List ℕ → ℕ → Bool → ℕ → ℕ → Option Block → Type 0
BreaksOf g costs periods setup backlogged server count None = HoldsTo g costs periods setup backlogged server count
BreaksOf g costs periods setup backlogged server count (Some b) =
    (1 ≤ b.first) × (b.first ≤ b.last) × (b.last ≤ count) × (b.server ≡ server) × (serves_at backlogged server periods b.first ≡ true)
    × (rise_most g costs setup b.first b.last < potential g b.last)
    × ((first last : ℕ) → 1 ≤ first → first ≤ last → last ≤ count → (first < b.first) ⊎ ((first ≡ b.first) × (last < b.last)) → HoldsFrom g costs periods setup backlogged server first last)

-- the potential of a position, and what serving the positions up to it costs
pub record IsAfter (g costs : List ℕ) (p : ℕ) (a : Start) : Type 0 where
  pub potential : a.potential ≡ potential g p
  pub spent : a.spent ≡ sum_to p (entry costs)

-- of the first positions from which a block may begin, the start of one from which it may reach least
pub record IsLeastStart (g costs : List ℕ) (may : ℕ → Bool) (n : ℕ) (a : Start) : Type 0 where
  pub some : (p : ℕ) × (1 ≤ p) × (p ≤ n) × (may p ≡ true) × IsAfter g costs (p - 1) a
  pub least : (p : ℕ) → 1 ≤ p → p ≤ n → may p ≡ true → a.potential + sum_to (p - 1) (entry costs) ≤ potential g (p - 1) + a.spent

-- there is none where no block may begin from them
abbrev pub IsKept : List ℕ → List ℕ → (ℕ → Bool) → ℕ → Option Start → Type 0
IsKept g costs may n None = (p : ℕ) → 1 ≤ p → p ≤ n → may p ≡ true → ⊥
IsKept g costs may n (Some a) = IsLeastStart g costs may n a

-- numbers of 128 bits hold the sum of the two
pub record IsSmallStart (a : Start) : Type 0 where
  pub potential : a.potential ≤ MAX_STEP
  pub spent : a.spent ≤ MAX_PERIODS * MAX_STEP

-- of two starts the one from which a block may reach less, the second one where they are the same
abbrev pub lower_of : Start → Start → Start
lower_of a b = if nat_le (b.potential + a.spent) (a.potential + b.spent) then b else a

-- what is kept once another start has come
abbrev pub kept_of : Option Start → Start → Bool → Option Start
kept_of None b serves = if serves then Some b else None
kept_of (Some a) b serves = if serves then Some (lower_of a b) else Some a

-- whether the potentials rise from a start by more than a setup and what was spent since
abbrev pub rises_past : Option Start → Start → ℕ → Bool
rises_past None b setup = false
rises_past (Some a) b setup = nat_lt (a.potential + setup + b.spent) (b.potential + a.spent)

-- What pegs add up to, and when they are in time.
use Rattle.std.specs.Prelude.{◌≡◌, ℕ, ◌+◌, ◌≤◌, Bool, true, false, ◌&&◌, ◌==◌, if◌then◌else◌, List, IsNone, ⊤}
use Rattle.std.specs.List.{sum_by}
use Rattle.lot_sizing.specs.Problem.{EachItem, Problem, item_at, item_count}
use Rattle.lot_sizing.specs.Plan.{Plan}
use Rattle.pegging.specs.declared.pegs.Peg.{Peg}
use Rattle.pegging.specs.declared.pegs.Supply.{Supply}
use Rattle.pegging.specs.declared.pegs.Supply.TheVariants.{Opening, Lot}
use Rattle.pegging.specs.declared.pegs.Target.{Target}
use Rattle.pegging.specs.declared.pegs.Target.TheVariants.{Demand, Part, End}
use Rattle.pegging.specs.Pegs.{needed, supplied}

abbrev pub same_supply : Supply → Supply → Bool
same_supply Opening Opening = true
same_supply Opening (Lot u) = false
same_supply (Lot t) Opening = false
same_supply (Lot t) (Lot u) = t == u

abbrev pub same_target : Target → Target → Bool
same_target (Demand t) (Demand u) = t == u
same_target (Demand t) (Part k u) = false
same_target (Demand t) End = false
same_target (Part j t) (Demand u) = false
same_target (Part j t) (Part k u) = (j == k) && (t == u)
same_target (Part j t) End = false
same_target End (Demand u) = false
same_target End (Part k u) = false
same_target End End = true

-- the period is one of the problem's
abbrev pub IsPeriod : Problem → ℕ → Type 0
IsPeriod m t = (1 ≤ t) × (t ≤ m.periods)

-- so is the item
abbrev pub IsItemOf : Problem → ℕ → Type 0
IsItemOf m i = (1 ≤ i) × (i ≤ item_count m)

-- the supply is one of the problem's
abbrev pub IsSupplyOf : Problem → Supply → Type 0
IsSupplyOf m Opening = ⊤
IsSupplyOf m (Lot t) = IsPeriod m t

-- the need is one of the problem's
abbrev pub IsTargetOf : Problem → Target → Type 0
IsTargetOf m (Demand t) = IsPeriod m t
IsTargetOf m (Part j t) = IsItemOf m j × IsPeriod m t
IsTargetOf m End = ⊤

-- its items and periods are the problem's
pub record IndicesExist (m : Problem) (peg : Peg) : Type 0 where
  pub item : IsItemOf m peg.item
  pub from : IsSupplyOf m peg.from
  pub to : IsTargetOf m peg.to

-- how many units of an item come from a supply
abbrev pub taken_from : List Peg → ℕ → Supply → ℕ
taken_from pegs i s = sum_by (λ peg. if (peg.item == i) && same_supply peg.from s then peg.quantity else 0) pegs

-- how many units of an item are given to a need
abbrev pub given_to : List Peg → ℕ → Target → ℕ
given_to pegs i d = sum_by (λ peg. if (peg.item == i) && same_target peg.to d then peg.quantity else 0) pegs

-- each supply is used up
abbrev pub UseSupplies : Problem → Plan → List Peg → Type 0
UseSupplies m p pegs = EachItem m (λ i. (s : Supply) → IsSupplyOf m s → taken_from pegs i s ≡ supplied m p i s)

-- each need is met
abbrev pub MeetNeeds : Problem → Plan → List Peg → Type 0
MeetNeeds m p pegs = EachItem m (λ i. (d : Target) → IsTargetOf m d → given_to pegs i d ≡ needed m p i d)

-- a lot has arrived when it serves a demand or a part
abbrev pub Arrives : ℕ → Supply → Target → Type 0
Arrives lead Opening d = ⊤
Arrives lead (Lot u) (Demand t) = u + lead ≤ t
Arrives lead (Lot u) (Part j t) = u + lead ≤ t
Arrives lead (Lot u) End = ⊤

-- so it is with a peg of an item that may not be delivered late
abbrev pub IsInTime : Problem → Peg → Type 0
IsInTime m peg = IsNone (item_at m peg.item).backlog_cost → Arrives (item_at m peg.item).lead peg.from peg.to

-- Which supply of an item serves which need: both are laid along one line, and what lies over each other is a peg.
use Rattle.std.specs.Prelude.{ℕ, ◌+◌, ◌-◌, ◌*◌, min, max, List, [], ◌∷◌, ◌++◌, map, if◌then◌else◌, ◌==◌}
use Rattle.std.specs.List.{flat_map, range_with_len}
use Rattle.lot_sizing.specs.Problem.{Problem, demand, item_at, item_count, per_unit}
use Rattle.lot_sizing.specs.Plan.{Plan}
use Rattle.pegging.specs.declared.pegs.Peg.{Peg}
use Rattle.pegging.specs.declared.pegs.Supply.{Supply}
use Rattle.pegging.specs.declared.pegs.Supply.TheVariants.{Opening, Lot}
use Rattle.pegging.specs.declared.pegs.Target.{Target}
use Rattle.pegging.specs.declared.pegs.Target.TheVariants.{Demand, Part, End}

-- the supplies of each item, in order: the opening stock, and the lot of each period
abbrev pub supplies : Problem → List Supply
supplies m = Opening ∷ map (λ t. Lot t) (range_with_len 1 m.periods)

-- the needs of each item in a period, in order: the demand, and the part that goes into each item
abbrev pub targets_in : Problem → ℕ → List Target
targets_in m t = Demand t ∷ map (λ j. Part j t) (range_with_len 1 (item_count m))

-- the needs of each item, in order: those of each period, and last the end stock
abbrev pub targets : Problem → List Target
targets m = flat_map (targets_in m) (range_with_len 1 m.periods) ++ End ∷ []

-- how many units of an item a supply has
abbrev pub supplied : Problem → Plan → ℕ → Supply → ℕ
supplied m p i Opening = (item_at m i).opening
supplied m p i (Lot t) = p.make i t

-- how many units of an item a need takes
abbrev pub needed : Problem → Plan → ℕ → Target → ℕ
needed m p i (Demand t) = demand m i t
needed m p i (Part j t) = per_unit m i j * p.make j t
needed m p i End = p.stock i m.periods

-- an interval of the line from 0 upwards, and what it stands for
pub record Interval (A : Type 0) : Type 0 where
  pub what : A
  pub start : ℕ
  pub end : ℕ

-- intervals of these lengths, each from the end of the one before, the first from here
abbrev pub intervals : {A : Type 0} → (A → ℕ) → ℕ → List A → List (Interval A)
intervals size here [] = []
intervals size here (x ∷ xs) = record { what = x; start = here; end = here + size x } ∷ intervals size (here + size x) xs

-- the length over which both lie
abbrev pub overlap : Interval Supply → Interval Target → ℕ
overlap a b = min a.end b.end - max a.start b.start

-- the peg of this quantity, and none of nothing
abbrev pub peg_of : ℕ → Supply → Target → ℕ → List Peg
peg_of i from to quantity = if quantity == 0 then [] else record { item = i; from = from; to = to; quantity = quantity } ∷ []

-- the pegs of a supply with each need
abbrev pub pegs_along : ℕ → List (Interval Target) → Interval Supply → List Peg
pegs_along i needs a = flat_map (λ b. peg_of i a.what b.what (overlap a b)) needs

-- where the supplies and the needs of an item lie
abbrev pub supply_intervals : Problem → Plan → ℕ → List (Interval Supply)
supply_intervals m p i = intervals (supplied m p i) 0 (supplies m)

abbrev pub need_intervals : Problem → Plan → ℕ → List (Interval Target)
need_intervals m p i = intervals (needed m p i) 0 (targets m)

-- the pegs of an item, by supply and then by need
abbrev pub pegs_of_item : Problem → Plan → ℕ → List Peg
pegs_of_item m p i = flat_map (pegs_along i (need_intervals m p i)) (supply_intervals m p i)

-- the pegs of a plan, by item
abbrev pub pegs_of : Problem → Plan → List Peg
pegs_of m p = flat_map (pegs_of_item m p) (range_with_len 1 (item_count m))

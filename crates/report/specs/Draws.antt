-- What is drawn of a model: the words of a seeded generator, one for each number.
use Rattle.std.specs.Prelude.{ℕ, zero, suc, ◌+◌, ◌-◌, ◌%◌, ◌==◌, ◌&&◌, not, Bool, true, false, if◌then◌else◌, List, [], ◌∷◌, ◌++◌, Option, Some, None}
use Rattle.rand_pcg.specs.Lcg.{Lcg, increment_of, started}
use Rattle.rand_pcg.specs.Pcg.{multiplier_64, pcg32}
use Rattle.report.specs.declared.generating_draws.TheConstants.{STREAM}

-- the generator of a seed: PCG32 (XSH RR 64/32 of O'Neill), on one stream for all seeds
abbrev pub generator_of : ℕ → Lcg
generator_of seed = started 64 multiplier_64 seed (increment_of 64 STREAM)

-- a number from a to b by the next word, and the generator after it
abbrev pub pick : ℕ → ℕ → Lcg → ℕ × Lcg
pick a b g = (a + (pcg32 g).0 % (b - a + 1), (pcg32 g).1)

-- so many numbers from a to b, one after the other
abbrev pub picks : ℕ → ℕ → ℕ → Lcg → List ℕ × Lcg
picks a b zero g = ([], g)
picks a b (suc n) g = let before = picks a b n g in let last = pick a b before.1 in (before.0 ++ (last.0 ∷ []), last.1)

-- one number where there is to be one, and else none and no word
abbrev pub pick_if : Bool → ℕ → ℕ → Lcg → Option ℕ × Lcg
pick_if false a b g = (None, g)
pick_if true a b g = let one = pick a b g in (Some one.0, one.1)

-- what is drawn of an item: its number, a demand and a setup cost for each period, a hold cost for all of them, and a backlog cost for all of them, if there is one
pub record Drawn : Type 0 where
  pub number : ℕ
  pub demand : List ℕ
  pub setup_cost : List ℕ
  pub hold_cost : ℕ
  pub backlog_cost : Option ℕ

-- an item is the first of a group of three
abbrev pub is_first : ℕ → Bool
is_first i = i % 3 == 1

-- the largest demand of an item
abbrev pub most_demand : Bool → ℕ → ℕ
most_demand coupled i = if coupled then (if is_first i then 49 else 9) else 99

-- odd items have a backlog cost, where the model isn't coupled
abbrev pub has_backlog : Bool → ℕ → Bool
has_backlog coupled i = not coupled && i % 2 == 1

-- an item in a model of so many periods, in the order of its draws
abbrev pub draw_item : Bool → ℕ → ℕ → Lcg → Drawn × Lcg
draw_item coupled periods i g =
    let demand = picks 0 (most_demand coupled i) periods g in
    let setup_cost = picks 100 299 periods demand.1 in
    let hold_cost = pick 1 3 setup_cost.1 in
    let backlog_cost = pick_if (has_backlog coupled i) 2 6 hold_cost.1 in
    (record { number = i; demand = demand.0; setup_cost = setup_cost.0; hold_cost = hold_cost.0; backlog_cost = backlog_cost.0 }, backlog_cost.1)

-- so many items, one after the other
abbrev pub draw_items : Bool → ℕ → ℕ → Lcg → List Drawn × Lcg
draw_items coupled periods zero g = ([], g)
draw_items coupled periods (suc n) g =
    let before = draw_items coupled periods n g in
    let last = draw_item coupled periods (suc n) before.1 in
    (before.0 ++ (last.0 ∷ []), last.1)

-- all that is drawn of a seed's model
abbrev pub drawn : ℕ → ℕ → ℕ → Bool → List Drawn
drawn seed items periods coupled = (draw_items coupled periods items (generator_of seed)).0

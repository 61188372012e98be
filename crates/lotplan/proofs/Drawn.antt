-- What holds of the generated models, whatever is drawn.
use Rattle.std.proofs.Common.{◌≡◌, ◌+◌, ◌∙◌, Bool, true, false, ℕ, zero, suc, List, [], ◌∷◌, ◌++◌, length, map, refl, arith}
use Rattle.std.specs.Prelude.{◌-◌, slice_index_or}
use Rattle.lot_sizing.specs.Problem.{IsPlainItem, IsUncoupled, Item, no_item}
use Rattle.rand_pcg.specs.Lcg.{Lcg}
use Rattle.report.specs.Draws.{Drawn, draw_items, drawn, generator_of}
use Rattle.report.specs.Generated.{item_of}
use Rattle.lotplan.specs.Showing.{IsShort, coupled_problem, free_problem}
use Rattle.lotplan.specs.declared.commands.demo.TheConstants.{COUPLED_ITEMS, COUPLED_PERIODS, FREE_ITEMS, FREE_PERIODS}

-- an item takes no time and needs no other, and may have any lot at once
record IsFree (a : Item) : Type 0 where
  uses : a.uses ≡ []
  needs : a.needs ≡ []
  plain : IsPlainItem a

drawn_free : (items periods : ℕ) (d : Drawn) → IsFree (item_of false items periods d)
drawn_free items periods d = record { uses = refl; needs = refl; plain = record { lead = refl; min_lot = refl; max_lot = refl } }

no_free : IsFree no_item
no_free = record { uses = refl; needs = refl; plain = record { lead = refl; min_lot = refl; max_lot = refl } }

each_free : (items periods : ℕ) (ds : List Drawn) (n : ℕ) → IsFree (slice_index_or (map (item_of false items periods) ds) n no_item)
each_free items periods [] n = no_free
each_free items periods (d ∷ ds) zero = drawn_free items periods d
each_free items periods (d ∷ ds) (suc n) = each_free items periods ds n

pub free_alone : (seed : ℕ) → IsUncoupled (free_problem seed)
free_alone seed =
    let ds = drawn seed FREE_ITEMS FREE_PERIODS false in
    record {
      uses = λ i low high. (each_free FREE_ITEMS FREE_PERIODS ds (i - 1)).uses;
      needs = λ i low high. (each_free FREE_ITEMS FREE_PERIODS ds (i - 1)).needs;
      plain = λ i low high. (each_free FREE_ITEMS FREE_PERIODS ds (i - 1)).plain;
    }

-- as many items are drawn as are asked for
length_two : {A B : Type 0} (f : A → B) (xs : List A) (x : A) → length (map f (xs ++ (x ∷ []))) ≡ length (map f xs) + 1
length_two f [] x = refl
length_two f (y ∷ xs) x = omega (arith, length_two f xs x)

count_drawn : {B : Type 0} (f : Drawn → B) (coupled : Bool) (periods n : ℕ) (g : Lcg) → length (map f (draw_items coupled periods n g).0) ≡ n
count_drawn f coupled periods zero g = refl
count_drawn f coupled periods (suc n) g = length_two f (draw_items coupled periods n g).0 _ ∙ omega (arith, count_drawn f coupled periods n g)

pub coupled_short : (seed : ℕ) → IsShort (coupled_problem seed)
coupled_short seed =
    let few = count_drawn (item_of true COUPLED_ITEMS COUPLED_PERIODS) true COUPLED_PERIODS COUPLED_ITEMS (generator_of seed) in
    omega (arith, few)

-- The later periods as they are written out.
use Rattle.std.proofs.Common.{◌≡◌, ◌≤◌, ◌<◌, ◌+◌, ◌-◌, ◌∙◌, ℕ, suc, refl, sym, ap, arith, List, [], ◌∷◌, length, map, slice_index_or}
use Rattle.std.specs.Prelude.{ℤ, pos, drop, min, option_map, slice_set, Some}
use Rattle.std.proofs.lemmas.List.{get_or-drop, length-drop}
use Rattle.lot_sizing.specs.declared.limits.TheConstants.{MAX_AMOUNT}
use Rattle.lot_sizing.specs.declared.Need.{Need}
use Rattle.lot_sizing.specs.declared.Usage.{Usage}
use Rattle.lot_sizing.specs.Problem.{AllAtMost, Item, Problem}
use Rattle.lot_sizing.specs.Plan.{Table}
use Rattle.lot_draft.specs.Raw.{RawItem, RawModel, RawNeed, RawResource, RawUse}
use Rattle.lot_model.specs.Drafted.{item_written, need_written, resource_written, use_written, wholes}
use Rattle.frozen_start.specs.Rests.{more_in_front, rest_after, rest_items, rest_resource}
use Rattle.frozen_start.proofs.RestAfter.{item_name_stays, resource_name_stays}
use Rattle.replan.specs.Capped.{cap, capped_item, item_drafted, most_written, resource_drafted, rest_draft}

pub map-map : {A B C : Type 0} (f : B → C) (g : A → B) (xs : List A) → map f (map g xs) ≡ map (λ x. f (g x)) xs
map-map f g [] = refl
map-map f g (x ∷ xs) = ap (λ ys. f (g x) ∷ ys) (map-map f g xs)

pub map-same : {A B : Type 0} (f g : A → B) → ((x : A) → f x ≡ g x) → (xs : List A) → map f xs ≡ map g xs
map-same f g same [] = refl
map-same f g same (x ∷ xs) = ap (λ y. y ∷ map f xs) (same x) ∙ ap (λ ys. g x ∷ ys) (map-same f g same xs)

-- amounts within the limit are not capped
small_kept : (xs : List ℕ) → AllAtMost MAX_AMOUNT xs → map (cap most_written) (wholes xs) ≡ wholes xs
small_kept [] all = refl
small_kept (x ∷ xs) all =
    let e : min x most_written ≡ x = omega (arith, all 0 0 (omega arith)) in
    ap (λ n. pos n ∷ map (cap most_written) (wholes xs)) e ∙ ap (λ ys. pos x ∷ ys) (small_kept xs (λ k d less. all (suc k) d (omega (arith, less))))

front_set : (xs : List ℕ) (owed : ℕ) → 1 ≤ length xs → AllAtMost MAX_AMOUNT xs → slice_set (wholes xs) 0 (cap most_written (pos (slice_index_or xs 0 0 + owed))) ≡ map (cap most_written) (wholes (more_in_front owed xs))
front_set [] owed some all = absurd (omega (arith, some))
front_set (x ∷ xs) owed some all = ap (λ ys. cap most_written (pos (x + owed)) ∷ ys) (sym (small_kept xs (λ k d less. all (suc k) d (omega (arith, less)))))

-- the amounts from a place on, with what is owed on top of the first
pub first_asked : (xs : List ℕ) (first owed : ℕ) → first < length xs → AllAtMost MAX_AMOUNT xs → slice_set (wholes (drop first xs)) 0 (cap most_written (pos (slice_index_or xs first 0 + owed))) ≡ map (cap most_written) (wholes (more_in_front owed (drop first xs)))
first_asked xs first owed inside all =
    let e : first + 0 ≡ first = omega arith in
    let here : slice_index_or (drop first xs) 0 0 ≡ slice_index_or xs first 0 = get_or-drop first xs 0 0 ∙ ap (λ j. slice_index_or xs j 0) e in
    ap (λ n. slice_set (wholes (drop first xs)) 0 (cap most_written (pos (n + owed)))) (sym here)
    ∙ front_set (drop first xs) owed (omega (arith, length-drop first xs, inside)) (λ k d less. omega (arith, ap (λ n. n) (get_or-drop first xs k d), all (first + k) d (omega (arith, length-drop first xs, less))))

-- a line is the same with the names of the rest
pub need_same : (m : Problem) (make : Table) (first : ℕ) (need : Need) → need_written (rest_after m make first) need ≡ need_written m need
need_same m make first need = ap (λ name. record { item = name; quantity = pos need.quantity }) (item_name_stays m make first need.item)

pub use_same : (m : Problem) (make : Table) (first : ℕ) (usage : Usage) → use_written (rest_after m make first) usage ≡ use_written m usage
use_same m make first usage = ap (λ name. record { resource = name; unit = pos usage.unit; setup = pos usage.setup }) (resource_name_stays m make first usage.resource)

abbrev with_lines : Item → List RawNeed → List RawUse → RawItem
with_lines a needs uses = record {
  name = a.name;
  demand = wholes a.demand;
  unit_cost = wholes a.unit_cost;
  setup_cost = wholes a.setup_cost;
  hold_cost = wholes a.hold_cost;
  backlog_cost = option_map wholes a.backlog_cost;
  opening = pos a.opening;
  end_min = pos a.end_min;
  end_max = Some (pos a.end_max);
  lead = pos a.lead;
  min_lot = pos a.min_lot;
  max_lot = option_map (λ x. pos x) a.max_lot;
  needs = needs;
  uses = uses;
}

-- and so is an item
pub item_same : (m : Problem) (make : Table) (first : ℕ) (a : Item) → item_written (rest_after m make first) a ≡ item_written m a
item_same m make first a =
    let rest = rest_after m make first in
    ap (λ needs. with_lines a needs (map (use_written rest) a.uses)) (map-same (need_written rest) (need_written m) (need_same m make first) a.needs)
    ∙ ap (with_lines a (map (need_written m) a.needs)) (map-same (use_written rest) (use_written m) (use_same m make first) a.uses)

abbrev pub model_with : ℤ → List RawResource → List RawItem → RawModel
model_with periods resources items = record { periods = periods; resources = resources; items = items }

-- the draft of the rest, resource by resource and item by item
draft_is : (m : Problem) (make : Table) (first : ℕ) → rest_draft m make first ≡ model_with (pos (rest_after m make first).periods) (map (resource_drafted first) m.resources) (map (item_drafted m) (rest_items m make first 1 m.items))
draft_is m make first =
    let rest = rest_after m make first in
    let list = rest_items m make first 1 m.items in
    let resources = map-map resource_written (rest_resource first) m.resources in
    let items = map-map (capped_item most_written) (item_written rest) list ∙ map-same (λ a. capped_item most_written (item_written rest a)) (item_drafted m) (λ a. ap (capped_item most_written) (item_same m make first a)) list in
    ap (λ rs. model_with (pos rest.periods) rs (map (capped_item most_written) (map (item_written rest) list))) resources
    ∙ ap (model_with (pos rest.periods) (map (resource_drafted first) m.resources)) items

pub drafted : (m : Problem) (make : Table) (first : ℕ) (periods : ℤ) (resources : List RawResource) (items : List RawItem) → periods ≡ pos (m.periods - first) → resources ≡ map (resource_drafted first) m.resources → items ≡ map (item_drafted m) (rest_items m make first 1 m.items) → model_with periods resources items ≡ rest_draft m make first
drafted m make first periods resources items p_is r_is i_is = rw (p_is, r_is, i_is) (sym (draft_is m make first))

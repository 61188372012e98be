-- The later periods, written out and read, are the same problem: names stand for the same items and resources.
use Rattle.std.proofs.Common.{◌≡◌, ◌<◌, ◌∙◌, ℕ, zero, suc, refl, sym, ap, arith, List, [], ◌∷◌, length, map, slice_index_or}
use Rattle.std.specs.Prelude.{pos, option_map, Option, Some, None}
use Rattle.std.proofs.lemmas.List.{get_or-map, length-map}
use Rattle.lot_sizing.specs.declared.Need.{Need}
use Rattle.lot_sizing.specs.declared.Usage.{Usage}
use Rattle.lot_sizing.specs.Problem.{Item, Problem, Resource, no_item}
use Rattle.lot_sizing.specs.Plan.{Table}
use Rattle.lot_draft.specs.Raw.{RawItem}
use Rattle.lot_draft.specs.Meaning.{item_of, natural, naturals, need_of, problem_of, resource_of, use_of}
use Rattle.lot_draft.specs.Refusals.{item_names, resource_names}
use Rattle.lot_model.specs.Drafted.{item_written, need_written, resource_written, use_written, wholes, written_out}
use Rattle.lot_model.specs.Valid.{IsValid}
use Rattle.lot_model.specs.Views.{IsInstance}
use Rattle.lot_model.proofs.Accepts.{read_back}
use Rattle.lot_sizing.specs.Least.{least_backlog, least_stock}
use Rattle.frozen_start.specs.Rests.{rest_after, rest_item, rest_items, rest_resource}
use Rattle.replan.proofs.Drafts.{item_same, map-same}

naturals_whole : (xs : List ℕ) → naturals (wholes xs) ≡ xs
naturals_whole [] = refl
naturals_whole (x ∷ xs) = ap (λ ys. x ∷ ys) (naturals_whole xs)

prices_back : (prices : Option (List ℕ)) → option_map naturals (option_map wholes prices) ≡ prices
prices_back None = refl
prices_back (Some xs) = ap Some (naturals_whole xs)

most_back : (most : Option ℕ) → option_map natural (option_map (λ x. pos x) most) ≡ most
most_back None = refl
most_back (Some n) = refl

-- the lines of an item are read as they are
record HasLinesBack (resources names : List (List ℕ)) (m : Problem) (a : Item) : Type 0 where
  needs : map (need_of names) (map (need_written m) a.needs) ≡ a.needs
  uses : map (use_of resources) (map (use_written m) a.uses) ≡ a.uses

abbrev item_with : Item → List ℕ → List ℕ → List ℕ → List ℕ → Option (List ℕ) → Option ℕ → List Need → List Usage → Item
item_with a demand unit setup hold back most needs uses = record {
  name = a.name;
  demand = demand;
  unit_cost = unit;
  setup_cost = setup;
  hold_cost = hold;
  backlog_cost = back;
  opening = a.opening;
  end_min = a.end_min;
  end_max = a.end_max;
  lead = a.lead;
  min_lot = a.min_lot;
  max_lot = most;
  needs = needs;
  uses = uses;
}

item_is : (a : Item) (demand unit setup hold : List ℕ) (back : Option (List ℕ)) (most : Option ℕ) (needs : List Need) (uses : List Usage) → demand ≡ a.demand → unit ≡ a.unit_cost → setup ≡ a.setup_cost → hold ≡ a.hold_cost → back ≡ a.backlog_cost → most ≡ a.max_lot → needs ≡ a.needs → uses ≡ a.uses → item_with a demand unit setup hold back most needs uses ≡ a
item_is a demand unit setup hold back most needs uses h1 h2 h3 h4 h5 h6 h7 h8 = rw (h1, h2, h3, h4, h5, h6, h7, h8) refl

item_back : (resources names : List (List ℕ)) (m : Problem) (a : Item) → HasLinesBack resources names m a → item_of resources names (item_written m a) ≡ a
item_back resources names m a back =
    item_is a _ _ _ _ _ _ _ _
    (naturals_whole a.demand)
    (naturals_whole a.unit_cost)
    (naturals_whole a.setup_cost)
    (naturals_whole a.hold_cost)
    (prices_back a.backlog_cost)
    (most_back a.max_lot)
    back.needs
    back.uses

items_back : (resources names : List (List ℕ)) (m : Problem) (make : Table) (first n : ℕ) (items : List Item) → ((k : ℕ) → k < length items → HasLinesBack resources names m (slice_index_or items k no_item)) → map (item_of resources names) (map (item_written m) (rest_items m make first n items)) ≡ rest_items m make first n items
items_back resources names m make first n [] each = refl
items_back resources names m make first n (a ∷ more) each =
    let here = each zero (omega arith) in
    let rest = rest_items m make first (suc n) more in
    let b = rest_item first (least_stock m make n first) (least_backlog m make n first) a in
    ap (λ x. x ∷ map (item_of resources names) (map (item_written m) rest)) (item_back resources names m b (record { needs = here.needs; uses = here.uses }))
    ∙ ap (λ list. b ∷ list) (items_back resources names m make first (suc n) more (λ k less. each (suc k) (omega (arith, less))))

-- names stay, whichever problem the lines are written for
names_stay : (r m : Problem) (make : Table) (first n : ℕ) (items : List Item) → item_names (map (item_written r) (rest_items m make first n items)) ≡ item_names (map (item_written m) items)
names_stay r m make first n [] = refl
names_stay r m make first n (a ∷ more) = ap (λ names. a.name ∷ names) (names_stay r m make first (suc n) more)

resource_names_stay : (first : ℕ) (resources : List Resource) → resource_names (map resource_written (map (rest_resource first) resources)) ≡ resource_names (map resource_written resources)
resource_names_stay first [] = refl
resource_names_stay first (r ∷ more) = ap (λ names. r.name ∷ names) (resource_names_stay first more)

resources_back : (resources : List Resource) → map resource_of (map resource_written resources) ≡ resources
resources_back [] = refl
resources_back (r ∷ more) =
    ap (λ (xs : List ℕ). record { name = r.name; capacity = xs } ∷ map resource_of (map resource_written more)) (naturals_whole r.capacity) ∙ ap (λ list. r ∷ list) (resources_back more)

-- the lines of an instance's items are read as they are
lines_back : (m : Problem) → IsInstance m → (k : ℕ) → k < length m.items → HasLinesBack (resource_names (map resource_written m.resources)) (item_names (map (item_written m) m.items)) m (slice_index_or m.items k no_item)
lines_back m is k less =
    let valid : IsValid m = record { names = is.names; resource_names = is.resource_names; needs_once = is.needs_once; uses_once = is.uses_once; no_backlogs = is.no_backlogs } in
    let names = item_names (map (item_written m) m.items) in
    let resources = resource_names (map resource_written m.resources) in
    let whole = read_back m is.limits valid in
    let written = map (item_written m) m.items in
    let there = get_or-map (item_of resources names) written k (item_written m no_item) no_item (omega (arith, less, length-map m.items (item_written m))) ∙ ap (item_of resources names) (get_or-map (item_written m) m.items k no_item (item_written m no_item) less) in
    let same = sym there ∙ ap (λ (q : Problem). slice_index_or q.items k no_item) whole in
    record { needs = ap (λ (a : Item). a.needs) same; uses = ap (λ (a : Item). a.uses) same }

abbrev problem_with : ℕ → List Resource → List Item → Problem
problem_with periods resources items = record { periods = periods; resources = resources; items = items }

pub rest_back : (m : Problem) (make : Table) (first : ℕ) → IsInstance m → problem_of (written_out (rest_after m make first)) ≡ rest_after m make first
rest_back m make first is =
    let rest = rest_after m make first in
    let list = rest_items m make first 1 m.items in
    let names = item_names (map (item_written m) m.items) in
    let resources = resource_names (map resource_written m.resources) in
    let read : List (List ℕ) → List (List ℕ) → List RawItem → List Item = λ rs ns items. map (item_of rs ns) items in
    let items : read (resource_names (map resource_written rest.resources)) (item_names (map (item_written rest) list)) (map (item_written rest) list) ≡ list =
    ap (λ rs. read rs (item_names (map (item_written rest) list)) (map (item_written rest) list)) (resource_names_stay first m.resources)
    ∙ (ap (λ ns. read resources ns (map (item_written rest) list)) (names_stay rest m make first 1 m.items)
    ∙ (ap (read resources names) (map-same (item_written rest) (item_written m) (item_same m make first) list)
    ∙ items_back resources names m make first 1 m.items (lines_back m is))) in
    ap (λ rs. problem_with rest.periods rs (read (resource_names (map resource_written rest.resources)) (item_names (map (item_written rest) list)) (map (item_written rest) list))) (resources_back rest.resources)
    ∙ ap (problem_with rest.periods rest.resources) items

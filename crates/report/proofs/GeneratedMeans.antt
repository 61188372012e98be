-- What is read of a generated model means its problem: the largest end stocks that are left out are those that the problem has.
use Rattle.std.proofs.Common.{◌≡◌, ◌+◌, ◌∙◌, ℕ, zero, suc, refl, sym, ap, subst, arith, List, [], ◌∷◌, length, map, replicate, Option, Some, None}
use Rattle.std.specs.Prelude.{ℤ, pos, Bool, true, false, not, ◌&&◌, ◌||◌, nat_le, is_some, option_map, Ok}
use Rattle.std.specs.List.{list_any, sum_by}
use Rattle.std.proofs.lemmas.List.{length-map}
use Rattle.std.proofs.lemmas.List.Sums.{sum_by-cons}
use Rattle.lot_sizing.specs.declared.limits.TheConstants.{MAX_BILL_LINES, MAX_ITEMS, MAX_PERIODS, MAX_RESOURCES}
use Rattle.lot_sizing.specs.Problem.{Item, Problem, Resource, item_at}
use Rattle.lot_draft.specs.Meaning.{item_of, problem_of, resource_of}
use Rattle.lot_draft.specs.Raw.{RawItem, RawModel, RawNeed, RawResource, RawUse}
use Rattle.lot_draft.specs.Refusals.{Fault, backlog_fault, count_fault, ends_fault, first_in, is_among, is_component, is_from, item_lines_fault, item_lists_fault, item_lots_fault, item_name_fault, item_names, item_numbers_fault, item_repeat, item_stocks_fault, later_fault, lines_fault, lots_fault, name_fault, need_fault, need_names, numbers_fault, or_then, plain_fault, repeat_at, repeat_fault, resource_names, unless, use_fault}
use Rattle.lot_draft.specs.declared.fault.ModelCode.TheVariants as code
use Rattle.lot_draft.specs.declared.fault.Place.TheVariants as place
use Rattle.lot_draft.specs.declared.fault.Key.TheVariants as key
use Rattle.lot_model.specs.Drafted.{item_written, need_written, resource_written, use_written, wholes, written_out}
use Rattle.lot_model.specs.Laws.{WrittenOutMeansItself}
use Rattle.lot_model.specs.Meaning.{BreaksNone, IsBounded, IsRanked, Means}
use Rattle.lot_model.specs.Views.{IsInstance}
use Rattle.report.specs.Draws.{Drawn}
use Rattle.report.specs.Generated as generated
use Rattle.report.specs.Generated.{capacities, has_next, item_name, need_if, needs_of, problem_with, uses_of}
use Rattle.report.proofs.GeneratedPlaces.{IsGenerated, name_at, next_there}
use Rattle.report.proofs.GeneratedRead.{raw_model_with, raw_need, raw_of, raw_resource_of, raw_use}

-- an item as it is written out, without its largest end stock
abbrev pub left_out : Problem → Item → RawItem
left_out p a = record {
  name = a.name;
  demand = wholes a.demand;
  unit_cost = wholes a.unit_cost;
  setup_cost = wholes a.setup_cost;
  hold_cost = wholes a.hold_cost;
  backlog_cost = option_map wholes a.backlog_cost;
  opening = pos a.opening;
  end_min = pos a.end_min;
  end_max = None;
  lead = pos a.lead;
  min_lot = pos a.min_lot;
  max_lot = option_map (λ x. pos x) a.max_lot;
  needs = map (need_written p) a.needs;
  uses = map (use_written p) a.uses;
}

abbrev pub without_ends : Problem → RawModel
without_ends p = record { periods = pos p.periods; resources = map resource_written p.resources; items = map (left_out p) p.items }

-- lists

map_same : {A B C : Type 0} (u v : A → B) (g : B → C) (xs : List A) → ((x : A) → g (u x) ≡ g (v x)) → map g (map u xs) ≡ map g (map v xs)
map_same u v g [] h = refl
map_same u v g (x ∷ xs) h = ap (λ y. y ∷ map g (map u xs)) (h x) ∙ ap (λ ys. g (v x) ∷ ys) (map_same u v g xs h)

sums_same : {A B : Type 0} (u v : A → B) (size : B → ℕ) (xs : List A) → ((x : A) → size (u x) ≡ size (v x)) → sum_by size (map u xs) ≡ sum_by size (map v xs)
sums_same u v size [] h = refl
sums_same u v size (x ∷ xs) h = omega (arith, sum_by-cons size (u x) (map u xs), sum_by-cons size (v x) (map v xs), h x, sums_same u v size xs h)

any_same : {A B : Type 0} (u v : A → B) (test : B → Bool) (xs : List A) → ((x : A) → test (u x) ≡ test (v x)) → list_any test (map u xs) ≡ list_any test (map v xs)
any_same u v test [] h = refl
any_same u v test (x ∷ xs) h = ap (λ b. b || list_any test (map u xs)) (h x) ∙ ap (λ b. test (v x) || b) (any_same u v test xs h)

or_none : (a b : Fault) → or_then a b ≡ None → (a ≡ None) × (b ≡ None)
or_none None b h = (refl, h)
or_none (Some f) b h = absurd (cc h)

none_then : (a b : Fault) → a ≡ None → b ≡ None → or_then a b ≡ None
none_then a b h i = rw h i

first_none : {A B : Type 0} (u v : A → B) (f h : ℕ → B → Fault) (n : ℕ) (xs : List A) → ((m : ℕ) (x : A) → h m (v x) ≡ None → f m (u x) ≡ None) → first_in h n (map v xs) ≡ None → first_in f n (map u xs) ≡ None
first_none u v f h n [] each none = refl
first_none u v f h n (x ∷ xs) each none =
    let (this, rest) = or_none (h n (v x)) (first_in h (suc n) (map v xs)) none in
    none_then (f n (u x)) (first_in f (suc n) (map u xs)) (each n x this) (first_none u v f h (suc n) xs each rest)

-- no rule is broken without the end stocks that isn't with them

names_same : (p : Problem) → item_names (without_ends p).items ≡ item_names (written_out p).items
names_same p = map_same (left_out p) (item_written p) (λ i. i.name) p.items (λ x. refl)

abbrev counts : ℤ → ℕ → ℕ → ℕ → Fault
counts periods resources items lines =
    or_then (unless (is_from (pos 1) (pos MAX_PERIODS) periods) code.OutOfRange place.Root (Some key.Periods) None)
    (or_then (unless (nat_le resources MAX_RESOURCES) code.OutOfRange place.Root (Some key.Resource) None)
    (or_then (unless (nat_le 1 items && nat_le items MAX_ITEMS) code.OutOfRange place.Root (Some key.Item) None)
    (unless (nat_le lines MAX_BILL_LINES) code.OutOfRange place.Root (Some key.Needs) None)))

count_same : (p : Problem) → count_fault (without_ends p) ≡ count_fault (written_out p)
count_same p =
    let a = without_ends p in
    let b = written_out p in
    ap (λ n. counts a.periods (length a.resources) n (sum_by (λ i. length i.needs) a.items)) (length-map p.items (left_out p) ∙ sym (length-map p.items (item_written p)))
    ∙ ap (λ n. counts a.periods (length a.resources) (length b.items) n) (sums_same (left_out p) (item_written p) (λ i. length i.needs) p.items (λ x. refl))

name_none : (p : Problem) → name_fault (written_out p) ≡ None → name_fault (without_ends p) ≡ None
name_none p h =
    let (resources, items) = or_none _ _ h in
    none_then _ _ resources (first_none (left_out p) (item_written p) item_name_fault item_name_fault 1 p.items (λ n x e. e) items)

repeat_none : (p : Problem) → repeat_fault (written_out p) ≡ None → repeat_fault (without_ends p) ≡ None
repeat_none p h =
    let (resources, items) = or_none _ _ h in
    none_then _ _ resources (first_none (left_out p) (item_written p) (item_repeat (without_ends p).items) (item_repeat (written_out p).items) 1 p.items (λ n x e. ap (λ names. repeat_at place.Item names n x.name) (names_same p) ∙ e) items)

numbers_at : (p : Problem) (periods : ℤ) (n : ℕ) (x : Item) → item_numbers_fault periods n (item_written p x) ≡ None → item_numbers_fault periods n (left_out p x) ≡ None
numbers_at p periods n x h =
    let (lists, others) = or_none (item_lists_fault periods n (item_written p x)) _ h in
    let (stocks, lots) = or_none (item_stocks_fault n (item_written p x)) (item_lots_fault n (item_written p x)) others in
    let (opening, ends) = or_none _ _ stocks in
    let (least, most) = or_none _ _ ends in
    none_then _ _ lists (none_then _ _ (none_then _ _ opening (none_then _ _ least refl)) lots)

numbers_none : (p : Problem) → numbers_fault (written_out p) ≡ None → numbers_fault (without_ends p) ≡ None
numbers_none p h =
    let (resources, items) = or_none _ _ h in
    none_then _ _ resources (first_none (left_out p) (item_written p) (item_numbers_fault (pos p.periods)) (item_numbers_fault (pos p.periods)) 1 p.items (numbers_at p (pos p.periods)) items)

abbrev lines_with : List (List ℕ) → List (List ℕ) → ℕ → List RawNeed → List RawUse → Fault
lines_with items resources i needs uses = or_then (first_in (need_fault items i needs) 1 needs) (first_in (use_fault resources i uses) 1 uses)

lines_none : (p : Problem) → lines_fault (written_out p) ≡ None → lines_fault (without_ends p) ≡ None
lines_none p h = first_none (left_out p) (item_written p) (item_lines_fault (without_ends p)) (item_lines_fault (written_out p)) 1 p.items (λ n x e. ap (λ names. lines_with names (resource_names (written_out p).resources) n (map (need_written p) x.needs) (map (use_written p) x.uses)) (names_same p) ∙ e) h

plain_none : (p : Problem) → plain_fault (written_out p) ≡ None → plain_fault (without_ends p) ≡ None
plain_none p h =
    let (counted, rest) = or_none (count_fault (written_out p)) _ h in
    let (named, rest) = or_none (name_fault (written_out p)) _ rest in
    let (repeated, rest) = or_none (repeat_fault (written_out p)) _ rest in
    let (numbered, lined) = or_none (numbers_fault (written_out p)) (lines_fault (written_out p)) rest in
    none_then _ _ (count_same p ∙ counted) (none_then _ _ (name_none p named) (none_then _ _ (repeat_none p repeated) (none_then _ _ (numbers_none p numbered) (lines_none p lined))))

component_same : (p : Problem) (name : List ℕ) → is_component (without_ends p).items name ≡ is_component (written_out p).items name
component_same p name = any_same (left_out p) (item_written p) (λ one. is_among (need_names one.needs) name) p.items (λ x. refl)

later_none : (p : Problem) → later_fault (written_out p) ≡ None → later_fault (without_ends p) ≡ None
later_none p h =
    let (backs, rest) = or_none _ _ h in
    let (ends, lots) = or_none (first_in ends_fault 1 (written_out p).items) (first_in lots_fault 1 (written_out p).items) rest in
    none_then _ _
    (first_none (left_out p) (item_written p) (backlog_fault (without_ends p).items) (backlog_fault (written_out p).items) 1 p.items (λ n x e. ap (λ b. unless (not (b && is_some (option_map wholes x.backlog_cost))) code.BacklogOnComponent (place.Item n) None None) (component_same p x.name) ∙ e) backs)
    (none_then _ _
    (first_none (left_out p) (item_written p) ends_fault ends_fault 1 p.items (λ n x e. refl) ends)
    (first_none (left_out p) (item_written p) lots_fault lots_fault 1 p.items (λ n x e. e) lots))

-- where each largest end stock is the least one and the opening stock together, the problem is the same

abbrev pub AreEven : Problem → Type 0
AreEven p = (resources names : List (List ℕ)) → map (item_of resources names) (map (left_out p) p.items) ≡ map (item_of resources names) (map (item_written p) p.items)

abbrev with_items : ℕ → List Resource → List Item → Problem
with_items periods resources items = record { periods = periods; resources = resources; items = items }

same_problem : (p : Problem) → AreEven p → problem_of (without_ends p) ≡ problem_of (written_out p)
same_problem p even =
    let a = without_ends p in
    let b = written_out p in
    let items : map (item_of (resource_names b.resources) (item_names a.items)) a.items ≡ map (item_of (resource_names b.resources) (item_names b.items)) b.items =
    ap (λ names. map (item_of (resource_names b.resources) names) a.items) (names_same p) ∙ even (resource_names b.resources) (item_names b.items) in
    ap (with_items p.periods (map resource_of b.resources)) items

breaks_none : (p : Problem) → AreEven p → BreaksNone (written_out p) → BreaksNone (without_ends p)
breaks_none p even none = record {
  plain = plain_none p none.plain;
  ranked = subst (λ (q : Problem). IsRanked q) (sym (same_problem p even)) none.ranked;
  later = later_none p none.later;
  bounded = subst (λ (q : Problem). IsBounded q) (sym (same_problem p even)) none.bounded;
}

left_out_means : (p : Problem) → AreEven p → Means (written_out p) (Ok p) → Means (without_ends p) (Ok p)
left_out_means p even means = (means.0 ∙ sym (same_problem p even), breaks_none p even means.1)

-- what is read is this

even_in : (p : Problem) (coupled : Bool) (items periods : ℕ) (resources names : List (List ℕ)) (ds : List Drawn) → map (item_of resources names) (map (left_out p) (map (generated.item_of coupled items periods) ds)) ≡ map (item_of resources names) (map (item_written p) (map (generated.item_of coupled items periods) ds))
even_in p coupled items periods resources names [] = refl
even_in p coupled items periods resources names (d ∷ ds) = ap (λ rest. item_of resources names (item_written p (generated.item_of coupled items periods d)) ∷ rest) (even_in p coupled items periods resources names ds)

wholes_same : (n x : ℕ) → wholes (replicate n x) ≡ replicate n (pos x)
wholes_same zero x = refl
wholes_same (suc n) x = ap (λ xs. pos x ∷ xs) (wholes_same n x)

back_same : (periods : ℕ) (o : Option ℕ) → option_map wholes (option_map (replicate periods) o) ≡ option_map (λ n. replicate periods (pos n)) o
back_same periods None = refl
back_same periods (Some n) = ap Some (wholes_same periods n)

abbrev named_need : List ℕ → List RawNeed
named_need name = record { item = name; quantity = pos 1 } ∷ []

needs_same : (p : Problem) (b : Bool) (next : ℕ) → (b ≡ true → (item_at p next).name ≡ item_name next) → map (need_written p) (need_if b next) ≡ map raw_need (need_if b next)
needs_same p false next h = refl
needs_same p true next h = ap named_need (h refl)

uses_same : (coupled : Bool) (items periods : ℕ) (ds : List Drawn) → map (use_written (problem_with coupled items periods ds)) (uses_of coupled) ≡ map raw_use (uses_of coupled)
uses_same false items periods ds = refl
uses_same true items periods ds = refl

abbrev parts : List ℕ → List ℕ → List ℕ → List ℤ → List ℤ → Option (List ℤ) → List RawNeed → List RawUse → RawItem
parts name demand setup unit hold back needs uses = record {
  name = name;
  demand = wholes demand;
  unit_cost = unit;
  setup_cost = wholes setup;
  hold_cost = hold;
  backlog_cost = back;
  opening = pos 0;
  end_min = pos 0;
  end_max = None;
  lead = pos 0;
  min_lot = pos 0;
  max_lot = None;
  needs = needs;
  uses = uses;
}

item_same : (coupled : Bool) (items periods : ℕ) (ds : List Drawn) → IsGenerated coupled items periods (problem_with coupled items periods ds) → (d : Drawn) → left_out (problem_with coupled items periods ds) (generated.item_of coupled items periods d) ≡ raw_of coupled items periods d
item_same coupled items periods ds g d =
    let p = problem_with coupled items periods ds in
    let name = item_name d.number in
    let back = option_map wholes (option_map (replicate periods) d.backlog_cost) in
    let needs = needs_of coupled items d.number in
    let uses = uses_of coupled in
    let named = needs_same p (has_next coupled items d.number) (d.number + 1) (λ next. name_at coupled items periods p g (d.number + 1) (omega arith) (next_there coupled items d.number next)) in
    ap (λ u. parts name d.demand d.setup_cost u (wholes (replicate periods d.hold_cost)) back (map (need_written p) needs) (map (use_written p) uses)) (wholes_same periods 0)
    ∙ ap (λ h. parts name d.demand d.setup_cost (replicate periods (pos 0)) h back (map (need_written p) needs) (map (use_written p) uses)) (wholes_same periods d.hold_cost)
    ∙ ap (λ b. parts name d.demand d.setup_cost (replicate periods (pos 0)) (replicate periods (pos d.hold_cost)) b (map (need_written p) needs) (map (use_written p) uses)) (back_same periods d.backlog_cost)
    ∙ ap (λ ns. parts name d.demand d.setup_cost (replicate periods (pos 0)) (replicate periods (pos d.hold_cost)) (option_map (λ n. replicate periods (pos n)) d.backlog_cost) ns (map (use_written p) uses)) named
    ∙ ap (λ us. parts name d.demand d.setup_cost (replicate periods (pos 0)) (replicate periods (pos d.hold_cost)) (option_map (λ n. replicate periods (pos n)) d.backlog_cost) (map raw_need needs) us) (uses_same coupled items periods ds)

maps_same : {A B C : Type 0} (f : A → B) (g : B → C) (h : A → C) (xs : List A) → ((x : A) → g (f x) ≡ h x) → map g (map f xs) ≡ map h xs
maps_same f g h [] e = refl
maps_same f g h (x ∷ xs) e = ap (λ y. y ∷ map g (map f xs)) (e x) ∙ ap (λ ys. h x ∷ ys) (maps_same f g h xs e)

abbrev resource_with : List ℤ → RawResource
resource_with capacity = record { name = generated.resource_name; capacity = capacity }

abbrev model_with : ℕ → List RawResource → List RawItem → RawModel
model_with periods resources items = record { periods = pos periods; resources = resources; items = items }

model_same : (coupled : Bool) (items periods : ℕ) (ds : List Drawn) → IsGenerated coupled items periods (problem_with coupled items periods ds) → without_ends (problem_with coupled items periods ds) ≡ raw_model_with coupled items periods ds
model_same coupled items periods ds g =
    let p = problem_with coupled items periods ds in
    let resources = maps_same (generated.resource_of periods) resource_written (raw_resource_of periods) (capacities coupled items) (λ c. ap resource_with (wholes_same periods c)) in
    let list = maps_same (generated.item_of coupled items periods) (left_out p) (raw_of coupled items periods) ds (item_same coupled items periods ds g) in
    ap (λ rs. model_with periods rs (map (left_out p) p.items)) resources
    ∙ ap (model_with periods (map (raw_resource_of periods) (capacities coupled items))) list

pub model_means : (coupled : Bool) (items periods : ℕ) (ds : List Drawn) → WrittenOutMeansItself → IsGenerated coupled items periods (problem_with coupled items periods ds) → IsInstance (problem_with coupled items periods ds) → Means (raw_model_with coupled items periods ds) (Ok (problem_with coupled items periods ds))
model_means coupled items periods ds law g is =
    let p = problem_with coupled items periods ds in
    subst (λ (m : RawModel). Means m (Ok p)) (model_same coupled items periods ds g) (left_out_means p (λ resources names. even_in p coupled items periods resources names ds) (law p is))

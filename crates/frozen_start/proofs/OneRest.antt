-- There is one problem of the later periods.
use Rattle.std.proofs.Common.{◌≡◌, ◌≤◌, ◌<◌, ◌-◌, ◌∙◌, ℕ, suc, refl, sym, ap, subst, arith, List}
use Rattle.std.specs.Prelude.{Option, length}
use Rattle.std.proofs.lemmas.List.{ext_get_or, length-map}
use Rattle.std.proofs.Math.ListN.{get_or}
use Rattle.lot_sizing.specs.declared.Need.{Need}
use Rattle.lot_sizing.specs.declared.Usage.{Usage}
use Rattle.lot_sizing.specs.Problem.{Item, Problem, Resource, item_at, no_item, no_resource, resource_at}
use Rattle.lot_sizing.specs.Plan.{Plan}
use Rattle.lot_sizing.specs.Least.{least_backlog, least_stock}
use Rattle.frozen_start.specs.Rests.{IsRestItem, IsRestOf, IsRestResource, rest_item, rest_of, rest_resource}
use Rattle.frozen_start.proofs.RestAfter.{items_size, rest_item_at, rest_resource_at}

abbrev item_with : List ℕ → List ℕ → List ℕ → List ℕ → List ℕ → Option (List ℕ) → ℕ → ℕ → ℕ → ℕ → ℕ → Option ℕ → List Need → List Usage → Item
item_with x1 x2 x3 x4 x5 x6 x7 x8 x9 x10 x11 x12 x13 x14 = record { name = x1; demand = x2; unit_cost = x3; setup_cost = x4; hold_cost = x5; backlog_cost = x6; opening = x7; end_min = x8; end_max = x9; lead = x10; min_lot = x11; max_lot = x12; needs = x13; uses = x14 }

item_is : (first left owed : ℕ) (a b : Item) → IsRestItem first left owed a b → b ≡ rest_item first left owed a
item_is first left owed a b is =
    let c = rest_item first left owed a in
    ap (λ (x : List ℕ). item_with x b.demand b.unit_cost b.setup_cost b.hold_cost b.backlog_cost b.opening b.end_min b.end_max b.lead b.min_lot b.max_lot b.needs b.uses) is.name
    ∙ (ap (λ (x : List ℕ). item_with c.name x b.unit_cost b.setup_cost b.hold_cost b.backlog_cost b.opening b.end_min b.end_max b.lead b.min_lot b.max_lot b.needs b.uses) is.demand
    ∙ (ap (λ (x : List ℕ). item_with c.name c.demand x b.setup_cost b.hold_cost b.backlog_cost b.opening b.end_min b.end_max b.lead b.min_lot b.max_lot b.needs b.uses) is.unit_cost
    ∙ (ap (λ (x : List ℕ). item_with c.name c.demand c.unit_cost x b.hold_cost b.backlog_cost b.opening b.end_min b.end_max b.lead b.min_lot b.max_lot b.needs b.uses) is.setup_cost
    ∙ (ap (λ (x : List ℕ). item_with c.name c.demand c.unit_cost c.setup_cost x b.backlog_cost b.opening b.end_min b.end_max b.lead b.min_lot b.max_lot b.needs b.uses) is.hold_cost
    ∙ (ap (λ (x : Option (List ℕ)). item_with c.name c.demand c.unit_cost c.setup_cost c.hold_cost x b.opening b.end_min b.end_max b.lead b.min_lot b.max_lot b.needs b.uses) is.backlog_cost
    ∙ (ap (λ (x : ℕ). item_with c.name c.demand c.unit_cost c.setup_cost c.hold_cost c.backlog_cost x b.end_min b.end_max b.lead b.min_lot b.max_lot b.needs b.uses) is.opening
    ∙ (ap (λ (x : ℕ). item_with c.name c.demand c.unit_cost c.setup_cost c.hold_cost c.backlog_cost c.opening x b.end_max b.lead b.min_lot b.max_lot b.needs b.uses) is.end_min
    ∙ (ap (λ (x : ℕ). item_with c.name c.demand c.unit_cost c.setup_cost c.hold_cost c.backlog_cost c.opening c.end_min x b.lead b.min_lot b.max_lot b.needs b.uses) is.end_max
    ∙ (ap (λ (x : ℕ). item_with c.name c.demand c.unit_cost c.setup_cost c.hold_cost c.backlog_cost c.opening c.end_min c.end_max x b.min_lot b.max_lot b.needs b.uses) is.lead
    ∙ (ap (λ (x : ℕ). item_with c.name c.demand c.unit_cost c.setup_cost c.hold_cost c.backlog_cost c.opening c.end_min c.end_max c.lead x b.max_lot b.needs b.uses) is.min_lot
    ∙ (ap (λ (x : Option ℕ). item_with c.name c.demand c.unit_cost c.setup_cost c.hold_cost c.backlog_cost c.opening c.end_min c.end_max c.lead c.min_lot x b.needs b.uses) is.max_lot
    ∙ (ap (λ (x : List Need). item_with c.name c.demand c.unit_cost c.setup_cost c.hold_cost c.backlog_cost c.opening c.end_min c.end_max c.lead c.min_lot c.max_lot x b.uses) is.needs
    ∙ (ap (λ (x : List Usage). item_with c.name c.demand c.unit_cost c.setup_cost c.hold_cost c.backlog_cost c.opening c.end_min c.end_max c.lead c.min_lot c.max_lot c.needs x) is.uses)))))))))))))

item_fits : (first left owed : ℕ) (a : Item) → IsRestItem first left owed a (rest_item first left owed a)
item_fits first left owed a = record { name = refl; demand = refl; unit_cost = refl; setup_cost = refl; hold_cost = refl; backlog_cost = refl; opening = refl; end_min = refl; end_max = refl; lead = refl; min_lot = refl; max_lot = refl; needs = refl; uses = refl }

abbrev resource_with : List ℕ → List ℕ → Resource
resource_with name capacity = record { name = name; capacity = capacity }

resource_is : (first : ℕ) (a b : Resource) → IsRestResource first a b → b ≡ rest_resource first a
resource_is first a b is =
    let step : b ≡ record { name = a.name; capacity = b.capacity } = ap (λ (x : List ℕ). resource_with x b.capacity) is.name in
    step ∙ ap (λ (x : List ℕ). resource_with a.name x) is.capacity

pub is_rest : (m : Problem) (p : Plan) (first : ℕ) → first < m.periods → IsRestOf m p first (rest_of m p first)
is_rest m p first inside = record {
  some_later = inside;
  periods = refl;
  resource_count = length-map m.resources (rest_resource first);
  item_count = items_size m p.make first 1 m.items;
  resources = λ k low high. subst (IsRestResource first (resource_at m k)) (sym (rest_resource_at m p.make first k low high)) (record { name = refl; capacity = refl });
  items = λ i low high. subst (IsRestItem first (least_stock m p.make i first) (least_backlog m p.make i first) (item_at m i)) (sym (rest_item_at m p.make first i low high)) (item_fits first (least_stock m p.make i first) (least_backlog m p.make i first) (item_at m i));
}

abbrev problem_with : ℕ → List Resource → List Item → Problem
problem_with periods resources items = record { periods = periods; resources = resources; items = items }

pub the_rest : (m : Problem) (p : Plan) (first : ℕ) (rest : Problem) → IsRestOf m p first rest → rest ≡ rest_of m p first
the_rest m p first rest r =
    let c = rest_of m p first in
    let resources : rest.resources ≡ c.resources = ext_get_or no_resource rest.resources c.resources (r.resource_count ∙ sym (length-map m.resources (rest_resource first))) (λ k h.
    let e : suc k - 1 ≡ k = omega arith in
    let inside : suc k ≤ length m.resources = omega (arith, h, r.resource_count) in
    ap (λ j. get_or rest.resources j no_resource) (sym e) ∙ (resource_is first (resource_at m (suc k)) (resource_at rest (suc k)) (r.resources (suc k) (omega arith) inside) ∙ (sym (rest_resource_at m p.make first (suc k) (omega arith) inside) ∙ ap (λ j. get_or c.resources j no_resource) e))) in
    let items : rest.items ≡ c.items = ext_get_or no_item rest.items c.items (r.item_count ∙ sym (items_size m p.make first 1 m.items)) (λ k h.
    let e : suc k - 1 ≡ k = omega arith in
    let inside : suc k ≤ length m.items = omega (arith, h, r.item_count) in
    ap (λ j. get_or rest.items j no_item) (sym e) ∙ (item_is first _ _ (item_at m (suc k)) (item_at rest (suc k)) (r.items (suc k) (omega arith) inside) ∙ (sym (rest_item_at m p.make first (suc k) (omega arith) inside) ∙ ap (λ j. get_or c.items j no_item) e))) in
    ap (λ (n : ℕ). problem_with n rest.resources rest.items) r.periods ∙ (ap (λ (rs : List Resource). problem_with c.periods rs rest.items) resources ∙ ap (λ (is : List Item). problem_with c.periods c.resources is) items)

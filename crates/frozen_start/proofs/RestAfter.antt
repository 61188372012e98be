-- What the problem of the later periods has at its places, as a value.
use Rattle.std.proofs.Common.{◌≡◌, ◌≤◌, ◌<◌, ◌+◌, ◌-◌, ◌∙◌, ℕ, zero, suc, refl, sym, ap, arith, List, [], ◌∷◌, length}
use Rattle.std.proofs.lemmas.Bool.{cases_lt}
use Rattle.std.proofs.lemmas.List.{get_or-map, get_or_past, length-map}
use Rattle.std.proofs.Common.{⊎_elim}
use Rattle.std.proofs.Math.ListN.{get_or}
use Rattle.lot_sizing.specs.Problem.{Item, Problem, item_at, no_item, no_resource, resource_at}
use Rattle.lot_sizing.specs.Plan.{Table}
use Rattle.lot_sizing.specs.Least.{least_backlog, least_stock}
use Rattle.frozen_start.specs.Rests.{rest_after, rest_item, rest_items, rest_resource}

pub items_size : (m : Problem) (make : Table) (first n : ℕ) (items : List Item) → length (rest_items m make first n items) ≡ length items
items_size m make first n [] = refl
items_size m make first n (a ∷ more) = omega (arith, items_size m make first (suc n) more)

pub items_at : (m : Problem) (make : Table) (first n : ℕ) (items : List Item) (k : ℕ) → k < length items → get_or (rest_items m make first n items) k no_item ≡ rest_item first (least_stock m make (n + k) first) (least_backlog m make (n + k) first) (get_or items k no_item)
items_at m make first n [] k h = absurd (omega (arith, h))
items_at m make first n (a ∷ more) zero h =
    let e : n ≡ n + zero = omega arith in
    ap (λ j. rest_item first (least_stock m make j first) (least_backlog m make j first) a) e
items_at m make first n (a ∷ more) (suc k) h =
    let e : suc n + k ≡ n + suc k = omega arith in
    items_at m make first (suc n) more k (omega (arith, h)) ∙ ap (λ j. rest_item first (least_stock m make j first) (least_backlog m make j first) (get_or more k no_item)) e

pub rest_item_at : (m : Problem) (make : Table) (first i : ℕ) → 1 ≤ i → i ≤ length m.items → item_at (rest_after m make first) i ≡ rest_item first (least_stock m make i first) (least_backlog m make i first) (item_at m i)
rest_item_at m make first i low high =
    let e : 1 + (i - 1) ≡ i = omega (arith, low) in
    items_at m make first 1 m.items (i - 1) (omega (arith, low, high)) ∙ ap (λ j. rest_item first (least_stock m make j first) (least_backlog m make j first) (item_at m i)) e

pub rest_resource_at : (m : Problem) (make : Table) (first k : ℕ) → 1 ≤ k → k ≤ length m.resources → resource_at (rest_after m make first) k ≡ rest_resource first (resource_at m k)
rest_resource_at m make first k low high = get_or-map (rest_resource first) m.resources (k - 1) no_resource no_resource (omega (arith, low, high))

-- names stay, at every number
names_at : (m : Problem) (make : Table) (first n : ℕ) (items : List Item) (k : ℕ) → (get_or (rest_items m make first n items) k no_item).name ≡ (get_or items k no_item).name
names_at m make first n [] k = refl
names_at m make first n (a ∷ more) zero = refl
names_at m make first n (a ∷ more) (suc k) = names_at m make first (suc n) more k

pub item_name_stays : (m : Problem) (make : Table) (first i : ℕ) → (item_at (rest_after m make first) i).name ≡ (item_at m i).name
item_name_stays m make first i = names_at m make first 1 m.items (i - 1)

pub resource_name_stays : (m : Problem) (make : Table) (first k : ℕ) → (resource_at (rest_after m make first) k).name ≡ (resource_at m k).name
resource_name_stays m make first k =
    let all = m.resources in
    let cut = rest_after m make first in
    ⊎_elim
    (λ inside. ap (λ r. r.name) (get_or-map (rest_resource first) all (k - 1) no_resource no_resource inside))
    (λ past. ap (λ r. r.name) (get_or_past cut.resources (k - 1) no_resource (omega (arith, past, length-map all (rest_resource first))) ∙ sym (get_or_past all (k - 1) no_resource past)))
    (cases_lt (k - 1) (length all))

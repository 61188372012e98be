-- A model with no fault stands for a problem whose names differ, whose lines name things once, and whose components have no backlog costs.
use Rattle.std.proofs.Common.{◌≡◌, ◌≢◌, ◌≤◌, ◌<◌, ◌+◌, ◌-◌, ◌∙◌, ⊎_elim, ℕ, zero, suc, refl, sym, ap, subst, arith, List, [], ◌∷◌, length, map, take, slice_index_or, Any}
use Rattle.std.specs.Prelude.{Bool, true, false, not, ◌&&◌, ◌||◌, Option, Some, None, IsNone, option_map, is_some, ℤ, pos}
use Rattle.std.specs.List.{list_any}
use Rattle.std.specs.Str.{bytes_eq}
use Rattle.std.proofs.lemmas.Bool.{cases_Bool}
use Rattle.std.proofs.lemmas.List.{get_or_default, length-map}
use Rattle.std.proofs.lemmas.List.Folds.{list_any-from_Any}
use Rattle.std.proofs.lemmas.Slice.Eq.{bytes_eq-Decides}
use Rattle.std.proofs.Math.ListN.{get_or-map}
use Rattle.lot_sizing.specs.Problem.{Problem, item_at, item_count, no_resource, per_unit, resource_at}
use Rattle.bill.specs.Lines.{Names}
use Rattle.bill.proofs.Paths.{names_it}
use Rattle.lot_draft.specs.declared.fault.Place.{Place}
use Rattle.lot_draft.specs.declared.fault.Place.TheVariants as place
use Rattle.lot_draft.specs.Raw.{RawItem, RawModel, RawNeed, RawUse}
use Rattle.lot_draft.specs.Refusals.{Fault, backlog_fault, count_fault, first_in, is_among, is_component, item_lines_fault, item_names, item_repeat, later_fault, name_fault, need_fault, need_names, or_then, plain_fault, repeat_at, repeat_fault, resource_names, resource_repeat, use_fault, use_names}
use Rattle.lot_draft.specs.Meaning.{item_of, naturals, need_of, number_named_from, number_named, problem_of, resource_of, use_of}
use Rattle.lot_draft.proofs.Faults.{each_none, first_none, holds, rest_none}
use Rattle.lot_draft.proofs.Limits.{blank_item, blank_resource, item_read, plain}
use Rattle.lot_draft.proofs.Members.{met}
use Rattle.lot_model.specs.Valid.{HaveNoBacklogs, HaveOwnNames, HaveOwnResourceNames, IsValid, NameOnce, UseOnce, no_need, no_usage}

is_not : (b : Bool) → not b ≡ true → b ≡ false
is_not true h = cc h
is_not false h = refl

-- a name that stands in no earlier place
new_name : (at : ℕ → Place) (names : List (List ℕ)) (l : ℕ) (x : List ℕ) → repeat_at at names (1 + l) x ≡ None → is_among (take l names) x ≡ false
new_name at names l x h =
    let back : (1 + l) - 1 ≡ l = omega arith in
    ap (λ n. is_among (take n names) x) (sym back) ∙ is_not (is_among (take ((1 + l) - 1) names) x) (holds (not (is_among (take ((1 + l) - 1) names) x)) _ _ _ _ h)

-- is none of the earlier ones
apart : (names : List (List ℕ)) (k l : ℕ) (x y : List ℕ) → k < l → l < length names → slice_index_or names k [] ≡ x → is_among (take l names) y ≡ false → x ≢ y
apart names k l x y less high is new same = cc (met names k l y x less (omega (arith, high)) is ((bytes_eq-Decides x y).1 same), new)

-- the faults of repeated names
no_repeats : (m : RawModel) → plain_fault m ≡ None → repeat_fault m ≡ None
no_repeats m h = first_none (repeat_fault m) _ (rest_none (name_fault m) _ (rest_none (count_fault m) _ h))

-- a name of a list's members, as it is read
read_name : {A : Type 0} → (f : A → List ℕ) (xs : List A) (k : ℕ) (d : A) → k < length xs → slice_index_or (map f xs) k [] ≡ f (slice_index_or xs k d)
read_name f xs k d less = get_or_default (map f xs) k [] (f d) (omega (arith, less, length-map xs f)) ∙ get_or-map f xs k d

own_names : (m : RawModel) → plain_fault m ≡ None → HaveOwnNames (problem_of m)
own_names m h i j low less high =
    let count = length-map m.items (item_of (resource_names m.resources) (item_names m.items)) in
    let names_count = length-map m.items (λ i. i.name) in
    let k_high : i - 1 < length m.items = omega (arith, less, high, count, low) in
    let l_high : j - 1 < length m.items = omega (arith, less, high, count, low) in
    let a = slice_index_or m.items (i - 1) blank_item in
    let b = slice_index_or m.items (j - 1) blank_item in
    let none = each_none (item_repeat m.items) 1 (j - 1) blank_item m.items (rest_none (first_in (resource_repeat m.resources) 1 m.resources) _ (no_repeats m h)) l_high in
    rw (item_read m (i - 1) k_high, item_read m (j - 1) l_high) (apart (item_names m.items) (i - 1) (j - 1) a.name b.name (omega (arith, less, low)) (omega (arith, l_high, names_count)) (read_name (λ a. a.name) m.items (i - 1) blank_item k_high) (new_name place.Item (item_names m.items) (j - 1) b.name none))

resource_read : (m : RawModel) (k : ℕ) → k < length m.resources → slice_index_or (problem_of m).resources k no_resource ≡ resource_of (slice_index_or m.resources k blank_resource)
resource_read m k less = get_or_default (map resource_of m.resources) k no_resource (resource_of blank_resource) (omega (arith, less, length-map m.resources resource_of)) ∙ get_or-map resource_of m.resources k blank_resource

own_resource_names : (m : RawModel) → plain_fault m ≡ None → HaveOwnResourceNames (problem_of m)
own_resource_names m h i j low less high =
    let count = length-map m.resources resource_of in
    let names_count = length-map m.resources (λ r. r.name) in
    let k_high : i - 1 < length m.resources = omega (arith, less, high, count, low) in
    let l_high : j - 1 < length m.resources = omega (arith, less, high, count, low) in
    let a = slice_index_or m.resources (i - 1) blank_resource in
    let b = slice_index_or m.resources (j - 1) blank_resource in
    let none = each_none (resource_repeat m.resources) 1 (j - 1) blank_resource m.resources (first_none (first_in (resource_repeat m.resources) 1 m.resources) _ (no_repeats m h)) l_high in
    rw (resource_read m (i - 1) k_high, resource_read m (j - 1) l_high) (apart (resource_names m.resources) (i - 1) (j - 1) a.name b.name (omega (arith, less, low)) (omega (arith, l_high, names_count)) (read_name (λ r. r.name) m.resources (i - 1) blank_resource k_high) (new_name place.Resource (resource_names m.resources) (j - 1) b.name none))

-- the name that has the number of a name
number_low : (names : List (List ℕ)) (n : ℕ) (x : List ℕ) → is_among names x ≡ true → n ≤ number_named_from n names x
number_low [] n x h = cc h
number_low (name ∷ names) n x h =
    ⊎_elim
    (λ same. let e : number_named_from n (name ∷ names) x ≡ n = rw same refl in omega (arith, e))
    (λ other.
    let rest : is_among names x ≡ true = sym (ap (λ b. b || is_among names x) other) ∙ h in
    let e : number_named_from n (name ∷ names) x ≡ number_named_from (suc n) names x = rw other refl in
    omega (arith, e, number_low names (suc n) x rest))
    (cases_Bool (bytes_eq name x))

number_reads : (names : List (List ℕ)) (n : ℕ) (x : List ℕ) → is_among names x ≡ true → slice_index_or names (number_named_from n names x - n) [] ≡ x
number_reads [] n x h = cc h
number_reads (name ∷ names) n x h =
    ⊎_elim
    (λ same.
    let e : number_named_from n (name ∷ names) x ≡ n = rw same refl in
    let z : number_named_from n (name ∷ names) x - n ≡ 0 = omega (arith, e) in
    ap (λ k. slice_index_or (name ∷ names) k []) z ∙ (bytes_eq-Decides name x).0 same)
    (λ other.
    let rest : is_among names x ≡ true = sym (ap (λ b. b || is_among names x) other) ∙ h in
    let e : number_named_from n (name ∷ names) x ≡ number_named_from (suc n) names x = rw other refl in
    let z : number_named_from n (name ∷ names) x - n ≡ suc (number_named_from (suc n) names x - suc n) = omega (arith, e, number_low names (suc n) x rest) in
    ap (λ k. slice_index_or (name ∷ names) k []) z ∙ number_reads names (suc n) x rest)
    (cases_Bool (bytes_eq name x))

-- known names of one number are the same
number_same : (names : List (List ℕ)) (x y : List ℕ) → is_among names x ≡ true → is_among names y ≡ true → number_named names x ≡ number_named names y → x ≡ y
number_same names x y one other same = sym (number_reads names 1 x one) ∙ ap (λ n. slice_index_or names (n - 1) []) same ∙ number_reads names 1 y other

blank_need : RawNeed
blank_need = record { item = []; quantity = pos 0 }

blank_use : RawUse
blank_use = record { resource = []; unit = pos 0; setup = pos 0 }

need_read : (names : List (List ℕ)) (lines : List RawNeed) (n : ℕ) → n < length lines → (slice_index_or (map (need_of names) lines) n no_need).item ≡ number_named names (slice_index_or lines n blank_need).item
need_read names lines n less = ap (λ a. a.item) (get_or_default (map (need_of names) lines) n no_need (need_of names blank_need) (omega (arith, less, length-map lines (need_of names))) ∙ get_or-map (need_of names) lines n blank_need)

use_read : (names : List (List ℕ)) (lines : List RawUse) (n : ℕ) → n < length lines → (slice_index_or (map (use_of names) lines) n no_usage).resource ≡ number_named names (slice_index_or lines n blank_use).resource
use_read names lines n less = ap (λ a. a.resource) (get_or_default (map (use_of names) lines) n no_usage (use_of names blank_use) (omega (arith, less, length-map lines (use_of names))) ∙ get_or-map (use_of names) lines n blank_use)

need_known : (names : List (List ℕ)) (i : ℕ) (lines : List RawNeed) → first_in (need_fault names i lines) 1 lines ≡ None → (n : ℕ) → n < length lines → is_among names (slice_index_or lines n blank_need).item ≡ true
need_known names i lines h n less = holds (is_among names (slice_index_or lines n blank_need).item) _ _ _ _ (first_none _ _ (each_none (need_fault names i lines) 1 n blank_need lines h less))

needs_once : (names : List (List ℕ)) (i : ℕ) (lines : List RawNeed) → first_in (need_fault names i lines) 1 lines ≡ None → NameOnce (map (need_of names) lines)
needs_once names i lines h n o less high same =
    let count = length-map lines (need_of names) in
    let o_high : o < length lines = omega (arith, high, count) in
    let n_high : n < length lines = omega (arith, less, o_high) in
    let x = (slice_index_or lines n blank_need).item in
    let y = (slice_index_or lines o blank_need).item in
    let none = each_none (need_fault names i lines) 1 o blank_need lines h o_high in
    let new = new_name (place.Need i) (need_names lines) o y (first_none _ _ (rest_none _ _ none)) in
    apart (need_names lines) n o x y less (omega (arith, o_high, length-map lines (λ a. a.item))) (read_name (λ a. a.item) lines n blank_need n_high) new
    (number_same names x y (need_known names i lines h n n_high) (need_known names i lines h o o_high) (sym (need_read names lines n n_high) ∙ same ∙ need_read names lines o o_high))

use_known : (names : List (List ℕ)) (i : ℕ) (lines : List RawUse) → first_in (use_fault names i lines) 1 lines ≡ None → (n : ℕ) → n < length lines → is_among names (slice_index_or lines n blank_use).resource ≡ true
use_known names i lines h n less = holds (is_among names (slice_index_or lines n blank_use).resource) _ _ _ _ (first_none _ _ (each_none (use_fault names i lines) 1 n blank_use lines h less))

uses_once : (names : List (List ℕ)) (i : ℕ) (lines : List RawUse) → first_in (use_fault names i lines) 1 lines ≡ None → UseOnce (map (use_of names) lines)
uses_once names i lines h n o less high same =
    let count = length-map lines (use_of names) in
    let o_high : o < length lines = omega (arith, high, count) in
    let n_high : n < length lines = omega (arith, less, o_high) in
    let x = (slice_index_or lines n blank_use).resource in
    let y = (slice_index_or lines o blank_use).resource in
    let none = each_none (use_fault names i lines) 1 o blank_use lines h o_high in
    let new = new_name (place.Usage i) (use_names lines) o y (first_none _ _ (rest_none _ _ none)) in
    apart (use_names lines) n o x y less (omega (arith, o_high, length-map lines (λ a. a.resource))) (read_name (λ a. a.resource) lines n blank_use n_high) new
    (number_same names x y (use_known names i lines h n n_high) (use_known names i lines h o o_high) (sym (use_read names lines n n_high) ∙ same ∙ use_read names lines o o_high))

any_at : {A : Type 0} → (p : A → Bool) (xs : List A) (k : ℕ) (d : A) → k < length xs → p (slice_index_or xs k d) ≡ true → list_any p xs ≡ true
any_at p xs k d h passes = list_any-from_Any p xs (k, slice_index_or xs k d, h, get_or_default xs k (slice_index_or xs k d) d h, passes)

none_of : (o : Option (List ℤ)) (c : Bool) → c ≡ true → not (c && is_some o) ≡ true → IsNone (option_map naturals o)
none_of None c is h = refl
none_of (Some x) true is h = cc h
none_of (Some x) false is h = cc is

-- the lines of an item have no fault
lines_none : (m : RawModel) (k : ℕ) → plain_fault m ≡ None → k < length m.items → item_lines_fault m (1 + k) (slice_index_or m.items k blank_item) ≡ None
lines_none m k h less = each_none (item_lines_fault m) 1 k blank_item m.items (plain m h).lines less

no_backlogs : (m : RawModel) → plain_fault m ≡ None → later_fault m ≡ None → HaveNoBacklogs (problem_of m)
no_backlogs m h later i j i_low i_high j_low j_high some =
    let p = problem_of m in
    let names = item_names m.items in
    let count = length-map m.items (item_of (resource_names m.resources) names) in
    let k_high : i - 1 < length m.items = omega (arith, i_low, i_high, count) in
    let l_high : j - 1 < length m.items = omega (arith, j_low, j_high, count) in
    let a = slice_index_or m.items (i - 1) blank_item in
    let b = slice_index_or m.items (j - 1) blank_item in
    let needs_are : (item_at p j).needs ≡ map (need_of names) b.needs = ap (λ x. x.needs) (item_read m (j - 1) l_high) in
    let found : Names (map (need_of names) b.needs) i = subst (λ xs. Names xs i) needs_are (names_it (item_at p j).needs i some) in
    let n = found.0 in
    let n_high : n < length b.needs = omega (arith, found.1, length-map b.needs (need_of names)) in
    let x = (slice_index_or b.needs n blank_need).item in
    let known = need_known names (1 + (j - 1)) b.needs (first_none _ _ (lines_none m (j - 1) h l_high)) n n_high in
    let place : number_named names x ≡ i = sym (need_read names b.needs n n_high) ∙ found.2 in
    let named : x ≡ a.name = sym (number_reads names 1 x known) ∙ ap (λ n. slice_index_or names (n - 1) []) place ∙ read_name (λ a. a.name) m.items (i - 1) blank_item k_high in
    let among : is_among (need_names b.needs) a.name ≡ true = any_at (λ one. bytes_eq one a.name) (need_names b.needs) n [] (omega (arith, n_high, length-map b.needs (λ a. a.item))) ((bytes_eq-Decides _ a.name).1 (read_name (λ a. a.item) b.needs n blank_need n_high ∙ named)) in
    let component : is_component m.items a.name ≡ true = any_at (λ one. is_among (need_names one.needs) a.name) m.items (j - 1) blank_item l_high among in
    let none = each_none (backlog_fault m.items) 1 (i - 1) blank_item m.items (first_none (first_in (backlog_fault m.items) 1 m.items) _ later) k_high in
    rw (item_read m (i - 1) k_high) (none_of a.backlog_cost (is_component m.items a.name) component (holds (not (is_component m.items a.name && is_some a.backlog_cost)) _ _ _ _ none))

pub valid : (m : RawModel) → plain_fault m ≡ None → later_fault m ≡ None → IsValid (problem_of m)
valid m h later =
    let count = length-map m.items (item_of (resource_names m.resources) (item_names m.items)) in
    record {
      names = own_names m h;
      resource_names = own_resource_names m h;
      needs_once = λ i low high.
          let less : i - 1 < length m.items = omega (arith, low, high, count) in
          rw (item_read m (i - 1) less) (needs_once (item_names m.items) (1 + (i - 1)) (slice_index_or m.items (i - 1) blank_item).needs (first_none _ _ (lines_none m (i - 1) h less)));
      uses_once = λ i low high.
          let less : i - 1 < length m.items = omega (arith, low, high, count) in
          rw (item_read m (i - 1) less) (uses_once (resource_names m.resources) (1 + (i - 1)) (slice_index_or m.items (i - 1) blank_item).uses (rest_none _ _ (lines_none m (i - 1) h less)));
      no_backlogs = no_backlogs m h later;
    }

-- Members of a draft's lists.
use Rattle.std.proofs.Common.{◌≡◌, ◌≤◌, ◌<◌, ◌+◌, ◌∙◌, ⊎_elim, ℕ, zero, suc, refl, sym, ap, arith, List, [], ◌∷◌, ◌++◌, length, map, take, slice_index_or, Vec, Global, vec_len, Any}
use Rattle.std.specs.Prelude.{Bool, true, false, ◌||◌, nat_le}
use Rattle.std.specs.Str.{bytes_eq}
use Rattle.std.proofs.lemmas.Bool.{cases_lt}
use Rattle.std.proofs.lemmas.List.Folds.{list_any-append, list_any-from_Any, list_any_more}
use Rattle.lot_sizing.specs.declared.limits.TheConstants.{MAX_BILL_LINES}
use Rattle.lot_draft.specs.Refusals.{is_among}
use Rattle.std.specs.List.{list_any, sum_by}
use Rattle.std.proofs.Math.ListN.{get_or-map}
use Rattle.std.proofs.lemmas.Grind.{take_at_read}
use Rattle.std.proofs.lemmas.List.{get_or_default, length-map}
use Rattle.std.proofs.lemmas.List.Sums.{sum_by_push}
use Rattle.lot_draft.specs.declared.draft.DraftItem.{DraftItem}
use Rattle.lot_draft.specs.Raw.{RawItem, raw_item, raw_need}

-- a member of a list, as it is read
pub member_read : {A B : Type 0} → (f : A → B) (xs : List A) (k : ℕ) (x : A) (d : B) → k < length xs → x ≡ slice_index_or xs k x → slice_index_or (map f xs) k d ≡ f x
member_read f xs k x d h is = get_or_default (map f xs) k d (f x) (omega (arith, h, length-map xs f)) ∙ get_or-map f xs k x ∙ sym (ap f is)

-- a sum takes one member more
pub sum_more : {A B : Type 0} → (f : A → B) (g : B → ℕ) (xs : List A) (k : ℕ) (x : A) → k < length xs → x ≡ slice_index_or xs k x → sum_by g (take (k + 1) (map f xs)) ≡ sum_by g (take k (map f xs)) + g (f x)
sum_more f g xs k x h is =
    let count = length-map xs f in
    ap (sum_by g) ((take_at_read (map f xs) k (f x) (omega (arith, h, count))).1) ∙ sum_by_push g (take k (map f xs)) (slice_index_or (map f xs) k (f x)) ∙ ap (λ y. sum_by g (take k (map f xs)) + g y) (member_read f xs k x (f x) h is)

pub not_few : (n : ℕ) → MAX_BILL_LINES < n → false ≡ nat_le n MAX_BILL_LINES
not_few n h = grind (arith, h)

last_one : (b : Bool) → (b || false) ≡ b
last_one true = refl
last_one false = refl

-- one more name
pub among_more : (names : List (List ℕ)) (k : ℕ) (x : List ℕ) → k < length names → is_among (take (k + 1) names) x ≡ (is_among (take k names) x || bytes_eq (slice_index_or names k []) x)
among_more names k x h = ap (λ ns. is_among ns x) ((take_at_read names k [] h).1) ∙ list_any-append (λ one. bytes_eq one x) (take k names) (slice_index_or names k [] ∷ []) ∙ ap (λ b. is_among (take k names) x || b) (last_one (bytes_eq (slice_index_or names k []) x))

is_zero : (k : ℕ) → k ≤ 0 → k ≡ 0
is_zero k h = omega (arith, h)

either_true : (a b : Bool) → b ≡ true → (a || b) ≡ true
either_true true b h = refl
either_true false b h = h

-- names that stand in the first ones stand in more of them
among_part : (names : List (List ℕ)) (k n : ℕ) (x : List ℕ) → k ≤ n → n ≤ length names → is_among (take k names) x ≡ true → is_among (take n names) x ≡ true
among_part names k zero x h high some = ap (λ j. is_among (take j names) x) (sym (is_zero k h)) ∙ some
among_part names k (suc n) x h high some =
    ⊎_elim
    (λ less. let e : suc n ≡ n + 1 = omega arith in ap (λ j. is_among (take j names) x) e ∙ among_more names n x (omega (arith, high)) ∙ ap (λ b. b || bytes_eq (slice_index_or names n []) x) (among_part names k n x (omega (arith, less)) (omega (arith, high)) some))
    (λ no. let e : k ≡ suc n = omega (arith, no, h) in ap (λ j. is_among (take j names) x) (sym e) ∙ some)
    (cases_lt k (suc n))

-- a name that is met, and one that isn't
pub met : (names : List (List ℕ)) (k n : ℕ) (x one : List ℕ) → k < n → n ≤ length names → slice_index_or names k [] ≡ one → bytes_eq one x ≡ true → true ≡ is_among (take n names) x
met names k n x one less high is same = sym (among_part names (k + 1) n x (omega (arith, less)) high (among_more names k x (omega (arith, less, high)) ∙ either_true (is_among (take k names) x) (bytes_eq (slice_index_or names k []) x) (ap (λ y. bytes_eq y x) is ∙ same)))

pub not_met : (names : List (List ℕ)) (k : ℕ) (x one : List ℕ) → k < length names → slice_index_or names k [] ≡ one → bytes_eq one x ≡ false → is_among (take k names) x ≡ false → is_among (take (k + 1) names) x ≡ false
not_met names k x one h is other before = among_more names k x h ∙ ap (λ b. b || bytes_eq (slice_index_or names k []) x) before ∙ ap (λ y. bytes_eq y x) is ∙ other

-- what a member's name is, as it is read
pub name_read : {A B : Type 0} → (f : A → B) (g : B → List ℕ) (xs : List A) (k : ℕ) (x : A) → k < length xs → x ≡ slice_index_or xs k x → slice_index_or (map g (map f xs)) k [] ≡ g (f x)
name_read f g xs k x h is = get_or_default (map g (map f xs)) k [] (g (f x)) (omega (arith, h, length-map xs f, length-map (map f xs) g)) ∙ get_or-map g (map f xs) k (f x) ∙ ap g (member_read f xs k x (f x) h is)

pub name_count : {A B : Type 0} → (f : A → B) (g : B → List ℕ) (xs : List A) → length (map g (map f xs)) ≡ length xs
name_count f g xs = length-map (map f xs) g ∙ length-map xs f

any_at : {A : Type 0} → (p : A → Bool) (xs : List A) (k : ℕ) (d : A) → k < length xs → p (slice_index_or xs k d) ≡ true → Any (λ x. p x ≡ true) xs
any_at p xs k d h passes = (k, slice_index_or xs k d, h, get_or_default xs k (slice_index_or xs k d) d h, passes)

-- a member that passes a test, and one that doesn't
pub any_met : {A B : Type 0} → (f : A → B) (p : B → Bool) (xs : List A) (k : ℕ) (x : A) → k < length xs → x ≡ slice_index_or xs k x → p (f x) ≡ true → true ≡ list_any p (map f xs)
any_met f p xs k x h is passes = sym (list_any-from_Any p (map f xs) (any_at p (map f xs) k (f x) (omega (arith, h, length-map xs f)) (ap p (member_read f xs k x (f x) h is) ∙ passes)))

pub any_not_met : {A B : Type 0} → (f : A → B) (p : B → Bool) (xs : List A) (k : ℕ) (x : A) → k < length xs → x ≡ slice_index_or xs k x → p (f x) ≡ false → list_any p (take k (map f xs)) ≡ false → list_any p (take (k + 1) (map f xs)) ≡ false
any_not_met f p xs k x h is fails before = list_any_more p (map f xs) k (f x) (omega (arith, h, length-map xs f)) ∙ ap (λ b. b || p (slice_index_or (map f xs) k (f x))) before ∙ ap p (member_read f xs k x (f x) h is) ∙ fails

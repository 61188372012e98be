-- Where the tests of a model find no fault: what each of them says.
use Rattle.std.proofs.Common.{◌≡◌, ◌≢◌, ◌≤◌, ◌<◌, ◌+◌, ◌-◌, ◌∙◌, ⊎_elim, ℕ, zero, suc, refl, sym, ap, arith, List, [], ◌∷◌, length, map, take, slice_index_or, Option, Some, None}
use Rattle.std.specs.Prelude.{◌↔◌, ℤ, pos, negsuc, int_le, nat_le, Bool, true, false, not, ◌&&◌, ◌||◌, IfSome}
use Rattle.std.specs.Int.Signed.{◌≤ℤ◌}
use Rattle.std.specs.List.{All, AllPairs, Any, list_all}
use Rattle.std.specs.Str.{bytes_eq}
use Rattle.std.proofs.Math.Dec.{T}
use Rattle.std.proofs.lemmas.Bool.{and_from, cases_Bool, or_from, or_left, or_parts, or_right}
use Rattle.std.proofs.lemmas.List.{get_or_default}
use Rattle.std.proofs.lemmas.Slice.Eq.{bytes_eq-Decides}
use Rattle.lot_sizing.specs.declared.limits.TheConstants.{MAX_AMOUNT}
use Rattle.lot_draft.specs.declared.fault.ModelCode.{ModelCode}
use Rattle.lot_draft.specs.declared.fault.Place.{Place}
use Rattle.lot_draft.specs.declared.fault.Key.{Key}
use Rattle.lot_draft.specs.Refusals.{Fault, entry_fault, first_in, is_among, is_from, is_ordered, number_fault, optional_number_fault, optional_series_fault, or_then, repeat_at, series_fault, unless}
use Rattle.lot_draft.proofs.Faults.{at_most, each_none, first_none, first_of, holds, rest_none, second_of}
use Rattle.existence.specs.Rules.{IsFrom}

-- no fault is found
abbrev pub Passes : Fault → Type 0
Passes f = f ≡ None

-- one equivalence after another
pub by : {A B C : Type 0} → A ↔ B → B ↔ C → A ↔ C
by f g = (λ a. g.0 (f.0 a), λ c. f.1 (g.1 c))

pub pair : {A B C D : Type 0} → A ↔ B → C ↔ D → (A × C) ↔ (B × D)
pair f g = (λ both. (f.0 both.0, g.0 both.1), λ both. (f.1 both.0, g.1 both.1))

-- ---- tests

pub le_is : (a b : ℕ) → (nat_le a b ≡ true) ↔ (a ≤ b)
le_is a b = (at_most a b, λ h. grind (arith, h))

pub and_is : (a b : Bool) → ((a && b) ≡ true) ↔ ((a ≡ true) × (b ≡ true))
and_is a b = (λ h. (first_of a b h, second_of a b h), λ both. and_from a b both.0 both.1)

true_is : (b : Bool) → (b ≡ true) ↔ T b
true_is true = (λ h. tt, λ t. refl)
true_is false = (λ h. absurd (cc h), λ t. absurd t)

pub int_le_is : (a b : ℤ) → (int_le a b ≡ true) ↔ (a ≤ℤ b)
int_le_is a b = (λ h. record { le = (true_is (int_le a b)).0 h }, λ h. (true_is (int_le a b)).1 h.le)

pub from_is : (least most : ℕ) (x : ℤ) → (is_from (pos least) (pos most) x ≡ true) ↔ IsFrom least most x
from_is least most x =
    let low = int_le_is (pos least) x in
    let high = int_le_is x (pos most) in
    let both = and_is (int_le (pos least) x) (int_le x (pos most)) in
    (λ h. record { low = low.0 (both.0 h).0; high = high.0 (both.0 h).1 }, λ is. both.1 (low.1 is.low, high.1 is.high))

-- two whole numbers of which neither is above the other are the same
count_same : (n : ℕ) (t : ℤ) → int_le (pos n) t ≡ true → int_le t (pos n) ≡ true → pos n ≡ t
count_same n (pos t) h i = let e : n ≡ t = omega (arith, at_most n t h, at_most t n i) in ap (λ k. pos k) e
count_same n (negsuc t) h i = absurd (cc h)

itself : (n : ℕ) → int_le (pos n) (pos n) ≡ true
itself n = (le_is n n).1 (omega arith)

pub count_is : (n : ℕ) (t : ℤ) → ((int_le (pos n) t && int_le t (pos n)) ≡ true) ↔ (pos n ≡ t)
count_is n t =
    let both = and_is (int_le (pos n) t) (int_le t (pos n)) in
    (λ h. count_same n t (both.0 h).0 (both.0 h).1, λ e. both.1 (ap (int_le (pos n)) (sym e) ∙ itself n, ap (λ z. int_le z (pos n)) (sym e) ∙ itself n))

pub all_is : {A : Type 0} (test : A → Bool) (xs : List A) → (list_all test xs ≡ true) ↔ All (λ x. test x ≡ true) xs
all_is {A} test xs = (λ h. there xs h, λ all. back xs all)
  where
    there : (xs : List A) → list_all test xs ≡ true → All (λ x. test x ≡ true) xs
    there [] h k d less = absurd (omega (arith, less))
    there (x ∷ xs) h zero d less = first_of (test x) (list_all test xs) h
    there (x ∷ xs) h (suc k) d less = there xs (second_of (test x) (list_all test xs) h) k d (omega (arith, less))

    back : (xs : List A) → All (λ x. test x ≡ true) xs → list_all test xs ≡ true
    back [] all = refl
    back (x ∷ xs) all = and_from (test x) (list_all test xs) (all 0 x (omega arith)) (back xs (λ k d less. all (suc k) d (omega (arith, less))))

-- ---- faults

pub unless_is : (b : Bool) (c : ModelCode) (p : Place) (k : Option Key) (t : Option ℕ) → Passes (unless b c p k t) ↔ (b ≡ true)
unless_is b c p k t = (holds b c p k t, λ h. rw h refl)

pub then_is : (f g : Fault) → Passes (or_then f g) ↔ (Passes f × Passes g)
then_is f g = (λ h. (first_none f g h, rest_none f g h), λ both. rw (both.0, both.1) refl)

-- of the members of a list each passes, at its place
pub each_is : {A : Type 0} (f : ℕ → A → Fault) (n : ℕ) (xs : List A) → Passes (first_in f n xs) ↔ ((k : ℕ) (d : A) → k < length xs → Passes (f (n + k) (slice_index_or xs k d)))
each_is {A} f n xs = (λ h k d less. each_none f n k d xs h less, λ each. back n xs each)
  where
    back : (n : ℕ) (xs : List A) → ((k : ℕ) (d : A) → k < length xs → Passes (f (n + k) (slice_index_or xs k d))) → Passes (first_in f n xs)
    back n [] each = refl
    back n (x ∷ xs) each =
        let e : n + 0 ≡ n = omega arith in
        (then_is (f n x) (first_in f (suc n) xs)).1 (
          ap (λ m. f m x) (sym e) ∙ each 0 x (omega arith),
          back (suc n) xs (λ k d less. let g : suc n + k ≡ n + suc k = omega arith in ap (λ m. f m (slice_index_or xs k d)) g ∙ each (suc k) d (omega (arith, less))),
        )

-- where what is tested doesn't go by the place
pub every_is : {A : Type 0} (f : ℕ → A → Fault) (P : A → Type 0) (n : ℕ) (xs : List A) → ((k : ℕ) (x : A) → Passes (f k x) ↔ P x) → Passes (first_in f n xs) ↔ All P xs
every_is f P n xs is =
    let each = each_is f n xs in
    (λ h k d less. (is (n + k) (slice_index_or xs k d)).0 (each.0 h k d less), λ all. each.1 (λ k d less. (is (n + k) (slice_index_or xs k d)).1 (all k d less)))

-- ---- numbers and lists of them

pub number_is : (least most : ℕ) (p : Place) (k : Key) (x : ℤ) → Passes (number_fault (pos least) (pos most) p k x) ↔ IsFrom least most x
number_is least most p k x = by (unless_is (is_from (pos least) (pos most) x) _ _ _ _) (from_is least most x)

pub optional_number_is : (least most : ℕ) (p : Place) (k : Key) (o : Option ℤ) → Passes (optional_number_fault (pos least) (pos most) p k o) ↔ IfSome o (IsFrom least most)
optional_number_is least most p k None = (λ h. tt, λ t. refl)
optional_number_is least most p k (Some x) = number_is least most p k x

-- a list with a number for each period, each in its range
abbrev pub IsGoodList : ℤ → List ℤ → Type 0
IsGoodList periods xs = (pos (length xs) ≡ periods) × All (IsFrom 0 MAX_AMOUNT) xs

pub series_is : (periods : ℤ) (p : Place) (k : Key) (xs : List ℤ) → Passes (series_fault periods p k xs) ↔ IsGoodList periods xs
series_is periods p k xs =
    by
    (then_is (unless (int_le (pos (length xs)) periods && int_le periods (pos (length xs))) _ _ _ _) (first_in (entry_fault p k) 1 xs))
    (pair
    (by (unless_is (int_le (pos (length xs)) periods && int_le periods (pos (length xs))) _ _ _ _) (count_is (length xs) periods))
    (every_is (entry_fault p k) (IsFrom 0 MAX_AMOUNT) 1 xs (λ t x. by (unless_is (is_from (pos 0) (pos MAX_AMOUNT) x) _ _ _ _) (from_is 0 MAX_AMOUNT x))))

pub optional_series_is : (periods : ℤ) (p : Place) (k : Key) (o : Option (List ℤ)) → Passes (optional_series_fault periods p k o) ↔ IfSome o (IsGoodList periods)
optional_series_is periods p k None = (λ h. tt, λ t. refl)
optional_series_is periods p k (Some xs) = series_is periods p k xs

pub ordered_is : (least : ℤ) (most : Option ℤ) → (is_ordered least most ≡ true) ↔ IfSome most (λ x. least ≤ℤ x)
ordered_is least None = (λ h. tt, λ t. refl)
ordered_is least (Some x) = int_le_is least x

-- ---- names

pub same_is : (x y : List ℕ) → (bytes_eq x y ≡ true) ↔ (x ≡ y)
same_is x y = bytes_eq-Decides x y

-- two names are apart
apart_is : (x y : List ℕ) → (bytes_eq x y ≡ false) ↔ (x ≢ y)
apart_is x y =
    (λ no same. absurd (cc (no, (same_is x y).1 same)), λ apart. ⊎_elim (λ yes. absurd (apart ((same_is x y).0 yes))) (λ no. no) (cases_Bool (bytes_eq x y)))

pub not_is : (b : Bool) → (not b ≡ true) ↔ (b ≡ false)
not_is true = (λ h. absurd (cc h), λ h. absurd (cc h))
not_is false = (λ h. refl, λ h. refl)

module _ {A : Type 0} (name : A → List ℕ) where
  -- some member has this name
  found_there : (xs : List A) (x : List ℕ) → is_among (map name xs) x ≡ true → Any (λ a. name a ≡ x) xs
  found_there [] x h = absurd (cc h)
  found_there (a ∷ xs) x h =
      ⊎_elim
      (λ yes. (0, a, omega arith, refl, (same_is (name a) x).0 yes))
      (λ no. let rest = found_there xs x (sym (ap (λ b. b || is_among (map name xs) x) no) ∙ h) in (suc rest.0, rest.1, omega (arith, rest.2), rest.3, rest.4))
      (cases_Bool (bytes_eq (name a) x))

  found_back : (xs : List A) (x : List ℕ) (k : ℕ) (one : A) → k < length xs → slice_index_or xs k one ≡ one → name one ≡ x → is_among (map name xs) x ≡ true
  found_back [] x k one less is same = absurd (omega (arith, less))
  found_back (a ∷ xs) x zero one less is same = or_left (bytes_eq (name a) x) (is_among (map name xs) x) ((same_is (name a) x).1 (ap name is ∙ same))
  found_back (a ∷ xs) x (suc k) one less is same = or_right (bytes_eq (name a) x) (is_among (map name xs) x) (found_back xs x k one (omega (arith, less)) is same)

  pub among_is : (xs : List A) (x : List ℕ) → (is_among (map name xs) x ≡ true) ↔ Any (λ a. name a ≡ x) xs
  among_is xs x = (found_there xs x, λ any. found_back xs x any.0 any.1 any.2 any.3 any.4)

  -- none of the first k members has this name
  abbrev NoneBefore : List A → ℕ → List ℕ → Type 0
  NoneBefore xs k x = (j : ℕ) (d : A) → j < k → name (slice_index_or xs j d) ≢ x

  new_there : (xs : List A) (k : ℕ) (x : List ℕ) → k ≤ length xs → is_among (take k (map name xs)) x ≡ false → NoneBefore xs k x
  new_there xs zero x few h j d less = absurd (omega (arith, less))
  new_there [] (suc k) x few h j d less = absurd (omega (arith, few))
  new_there (a ∷ xs) (suc k) x few h zero d less = (apart_is (name a) x).0 (or_parts (bytes_eq (name a) x) (is_among (take k (map name xs)) x) h).0
  new_there (a ∷ xs) (suc k) x few h (suc j) d less = new_there xs k x (omega (arith, few)) (or_parts (bytes_eq (name a) x) (is_among (take k (map name xs)) x) h).1 j d (omega (arith, less))

  new_back : (xs : List A) (k : ℕ) (x : List ℕ) → k ≤ length xs → NoneBefore xs k x → is_among (take k (map name xs)) x ≡ false
  new_back xs zero x few none = refl
  new_back [] (suc k) x few none = absurd (omega (arith, few))
  new_back (a ∷ xs) (suc k) x few none =
      or_from (bytes_eq (name a) x) (is_among (take k (map name xs)) x) ((apart_is (name a) x).1 (none 0 a (omega arith))) (new_back xs k x (omega (arith, few)) (λ j d less. none (suc j) d (omega (arith, less))))

  -- the member at k repeats no earlier name
  pub repeat_is : (at : ℕ → Place) (xs : List A) (k : ℕ) (x : List ℕ) → k ≤ length xs → Passes (repeat_at at (map name xs) (1 + k) x) ↔ NoneBefore xs k x
  repeat_is at xs k x few =
      let back : 1 + k - 1 ≡ k = omega arith in
      let test = is_among (take (1 + k - 1) (map name xs)) x in
      let e : test ≡ is_among (take k (map name xs)) x = ap (λ n. is_among (take n (map name xs)) x) back in
      let clear = by (unless_is (not test) _ _ _ _) (not_is test) in
      (λ h. new_there xs k x few (sym e ∙ clear.0 h), λ none. clear.1 (e ∙ new_back xs k x few none))

  -- no name stands twice
  abbrev pub Differ : List A → Type 0
  Differ xs = AllPairs (λ a b. name a ≢ name b) xs

  pub differ_is : (at : ℕ → Place) (xs : List A) → ((k : ℕ) (d : A) → k < length xs → Passes (repeat_at at (map name xs) (1 + k) (name (slice_index_or xs k d)))) ↔ Differ xs
  differ_is at xs = (
    λ each i j d less high. (repeat_is at xs j (name (slice_index_or xs j d)) (omega (arith, high))).0 (each j d high) i d less,
    λ differ k d high. (repeat_is at xs k (name (slice_index_or xs k d)) (omega (arith, high))).1 (λ j e less same. differ j k d less high (ap name (get_or_default xs j d e (omega (arith, less, high))) ∙ same)),
  )

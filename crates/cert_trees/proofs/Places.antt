-- The one place in a list at which a test holds, and what the test of a path means.
use Rattle.std.proofs.Common.{◌≡◌, ◌≤◌, ◌<◌, ◌+◌, ◌∙◌, ⊎_elim, ℕ, zero, suc, refl, ap, arith, Bool, true, false, List, [], ◌∷◌, length, slice_index_or}
use Rattle.std.specs.Prelude.{◌↔◌, cond, count_by}
use Rattle.std.proofs.lemmas.Bool.{and_from, and_parts, cases_Bool}
use Rattle.std.proofs.lemmas.List.Elements.{All-cons, All-head, All-nil, All-tail}
use Rattle.std.proofs.lemmas.List.Sums.{sum_by-cons}
use Rattle.lin_rows.specs.declared.bound.Bound.{Bound}
use Rattle.lin_rows.specs.Bounds.{IsWithinNumber}
use Rattle.lin_rows.specs.Rows.{Values}
use Rattle.cert_trees.specs.Paths.{AreMet, IsMet}
use Rattle.cert_trees.specs.Trees.{is_met, is_within_number, lies_at}

-- the one place
pub record OnlyPlace {A : Type 0} (f : A → Bool) (d : A) (xs : List A) : Type 0 where
  pub place : ℕ
  pub exists : place < length xs
  pub holds : f (slice_index_or xs place d) ≡ true
  pub only : (k : ℕ) → k < length xs → f (slice_index_or xs k d) ≡ true → k ≡ place

one_if : Bool → ℕ
one_if b = cond b 1 0

count_more : {A : Type 0} (f : A → Bool) (x : A) (xs : List A) → count_by f (x ∷ xs) ≡ one_if (f x) + count_by f xs
unfolding one_if
count_more f x xs = sum_by-cons (λ y. cond (f y) 1 0) x xs

count_yes : {A : Type 0} (f : A → Bool) (x : A) (xs : List A) → f x ≡ true → count_by f (x ∷ xs) ≡ 1 + count_by f xs
unfolding one_if
count_yes f x xs is = count_more f x xs ∙ ap (λ b. one_if b + count_by f xs) is

count_no : {A : Type 0} (f : A → Bool) (x : A) (xs : List A) → f x ≡ false → count_by f (x ∷ xs) ≡ 0 + count_by f xs
unfolding one_if
count_no f x xs is = count_more f x xs ∙ ap (λ b. one_if b + count_by f xs) is

count_rest : {A : Type 0} (f : A → Bool) (x : A) (xs : List A) → count_by f xs ≤ count_by f (x ∷ xs)
count_rest f x xs = omega (arith, count_more f x xs)

none_there : {A : Type 0} (f : A → Bool) (d : A) (xs : List A) → count_by f xs ≡ 0 → (k : ℕ) → k < length xs → f (slice_index_or xs k d) ≡ true → ⊥
none_there f d [] none k less is = omega (arith, less)
none_there f d (x ∷ xs) none zero less is = omega (arith, none, count_yes f x xs is)
none_there f d (x ∷ xs) none (suc k) less is = none_there f d xs (omega (arith, none, count_rest f x xs)) k (omega (arith, less)) is

-- a test that counts one passes at one place
first_only : {A : Type 0} (f : A → Bool) (d : A) (x : A) (xs : List A) → count_by f xs ≡ 0 → (k : ℕ) → k < length (x ∷ xs) → f (slice_index_or (x ∷ xs) k d) ≡ true → k ≡ 0
first_only f d x xs none zero less is = refl
first_only f d x xs none (suc k) less is = absurd (none_there f d xs none k (omega (arith, less)) is)

later_only : {A : Type 0} (f : A → Bool) (d : A) (x : A) (xs : List A) → f x ≡ false → (one : OnlyPlace f d xs) → (k : ℕ) → k < length (x ∷ xs) → f (slice_index_or (x ∷ xs) k d) ≡ true → k ≡ suc one.place
later_only f d x xs fails one zero less is = let here : f x ≡ true = is in cc
later_only f d x xs fails one (suc k) less is = ap suc (one.only k (omega (arith, less)) is)

pub only_place : {A : Type 0} (f : A → Bool) (d : A) (xs : List A) → count_by f xs ≡ 1 → OnlyPlace f d xs
only_place f d [] one = absurd (omega (arith, one))
only_place f d (x ∷ xs) one =
    ⊎_elim
    (λ here. record { place = 0; exists = omega arith; holds = here; only = first_only f d x xs (omega (arith, one, count_yes f x xs here)) })
    (λ fails.
    let later = only_place f d xs (omega (arith, one, count_no f x xs fails)) in
    record { place = suc later.place; exists = omega (arith, later.exists); holds = later.holds; only = later_only f d x xs fails later })
    (cases_Bool (f x))

-- the test of a bound
within_true : (most : Bool) (number value : ℕ) → (is_within_number most number value ≡ true) ↔ IsWithinNumber most number value
within_true true number value = (λ is. grind (arith, is), λ is. grind (arith, is))
within_true false number value = (λ is. grind (arith, is), λ is. grind (arith, is))

-- and of a path
pub lies_met : (v : Values) (path : List Bound) → (lies_at v path ≡ true) ↔ AreMet v path
lies_met v [] = (λ is. All-nil (IsMet v), λ met. refl)
lies_met v (b ∷ path) =
    let here = within_true b.most b.number (v b.column) in
    let later = lies_met v path in (
      λ is. let both = and_parts (is_met v b) (lies_at v path) is in All-cons (IsMet v) b path (here.0 both.0) (later.0 both.1),
      λ met. and_from (is_met v b) (lies_at v path) (here.1 (All-head (IsMet v) b path met)) (later.1 (All-tail (IsMet v) b path met)),
    )

-- Lists over the numbers from 1 on, one number further.
use Rattle.std.proofs.Common.{◌≡◌, ◌≤◌, ◌<◌, ◌+◌, ◌-◌, ◌++◌, ◌∙◌, ⊎_elim, ℕ, zero, suc, List, [], ◌∷◌, map, refl, sym, ap, arith, append_assoc, append-nil}
use Rattle.std.specs.List.{All, flat_map, range_with_len, sum_by}
use Rattle.std.proofs.lemmas.Bool.{cases_eq}
use Rattle.std.proofs.lemmas.List.FromFn.{map-range_with_len_more, sum_by-map-range_with_len_more}
use Rattle.std.proofs.lemmas.List.Sums.{sum_by-append, sum_by-cons}
use Rattle.std.proofs.lemmas.List.Elements.{All-append, All-cons, All-head, All-nil, All-tail}
use Rattle.lot_sizing.specs.Sums.{sum_to}

-- a list that has come as far as t - 1 takes its next element
pub range_more : {X : Type 0} (f : ℕ → X) (t : ℕ) → 1 ≤ t → map f (range_with_len 1 (t + 1 - 1)) ≡ map f (range_with_len 1 (t - 1)) ++ f t ∷ []
range_more f t low =
    let e : t + 1 - 1 ≡ t - 1 + 1 = omega arith in
    ap (λ n. map f (range_with_len 1 n)) e ∙ map-range_with_len_more f 1 (t - 1) t (omega arith)

flat_range-suc : {X : Type 0} (f : ℕ → List X) (a n j : ℕ) → a + n ≡ j → flat_map f (range_with_len a (suc n)) ≡ flat_map f (range_with_len a n) ++ f j
flat_range-suc f a zero j e = append-nil (f a) ∙ ap f (omega (arith, e))
flat_range-suc f a (suc n) j e =
    ap (λ v. f a ++ v) (flat_range-suc f (a + 1) n j (omega (arith, e)))
    ∙ sym (append_assoc (f a) (flat_map f (range_with_len (a + 1) n)) (f j))

-- the same of lists that are joined
pub flat_range_more : {X : Type 0} (f : ℕ → List X) (t : ℕ) → 1 ≤ t → flat_map f (range_with_len 1 (t + 1 - 1)) ≡ flat_map f (range_with_len 1 (t - 1)) ++ f t
flat_range_more f t low =
    let e : t + 1 - 1 ≡ suc (t - 1) = omega arith in
    ap (λ n. flat_map f (range_with_len 1 n)) e ∙ flat_range-suc f 1 (t - 1) t (omega arith)

-- a sum over a list that is joined, or made of another
pub sum_flat : {X Y : Type 0} (f : Y → ℕ) (g : X → List Y) (xs : List X) → sum_by f (flat_map g xs) ≡ sum_by (λ x. sum_by f (g x)) xs
sum_flat f g [] = refl
sum_flat f g (x ∷ xs) = sum_by-append f (g x) (flat_map g xs) ∙ ap (λ n. sum_by f (g x) + n) (sum_flat f g xs) ∙ sym (sum_by-cons (λ y. sum_by f (g y)) x xs)

pub sum_map : {X Y : Type 0} (f : Y → ℕ) (g : X → Y) (xs : List X) → sum_by f (map g xs) ≡ sum_by (λ x. f (g x)) xs
sum_map f g [] = refl
sum_map f g (x ∷ xs) = sum_by-cons f (g x) (map g xs) ∙ ap (λ n. f (g x) + n) (sum_map f g xs) ∙ sym (sum_by-cons (λ y. f (g y)) x xs)

-- a sum over the numbers from 1 to n
pub sum_listed : {X : Type 0} (f : X → ℕ) (g : ℕ → X) (n : ℕ) → sum_by f (map g (range_with_len 1 n)) ≡ sum_to n (λ t. f (g t))
sum_listed f g zero = refl
sum_listed f g (suc n) =
    let e : suc n ≡ n + 1 = omega arith in
    ap (λ k. sum_by f (map g (range_with_len 1 k))) e ∙ sum_by-map-range_with_len_more f g 1 n (suc n) (omega arith) ∙ ap (λ k. k + f (g (suc n))) (sum_listed f g n)

pub sum_range : (f : ℕ → ℕ) (n : ℕ) → sum_by f (range_with_len 1 n) ≡ sum_to n f
sum_range f n = sym (sum_map f (λ t. t) (range_with_len 1 n)) ∙ sum_listed f (λ t. t) n

-- a sum without a term, and with one alone
pub sum_none : (f : ℕ → ℕ) (a n : ℕ) → ((j : ℕ) → a ≤ j → j < a + n → f j ≡ 0) → sum_by f (range_with_len a n) ≡ 0
sum_none f a zero none = refl
sum_none f a (suc n) none =
    omega (arith, sum_by-cons f a (range_with_len (a + 1) n), none a (omega arith) (omega arith), sum_none f (a + 1) n (λ j low high. none j (omega (arith, low)) (omega (arith, high))))

pub sum_one : (f : ℕ → ℕ) (i a n : ℕ) → a ≤ i → i < a + n → ((j : ℕ) → a ≤ j → j < a + n → (j ≡ i → ⊥) → f j ≡ 0) → sum_by f (range_with_len a n) ≡ f i
sum_one f i a zero low high others = absurd (omega (arith, low, high))
sum_one f i a (suc n) low high others =
    ⊎_elim
    (λ here. omega (arith, sum_by-cons f a (range_with_len (a + 1) n), ap f here, sum_none f (a + 1) n (λ j j_low j_high. others j (omega (arith, j_low)) (omega (arith, j_high)) (λ same. absurd (omega (arith, same, here, j_low))))))
    (λ later. omega (arith, sum_by-cons f a (range_with_len (a + 1) n), others a (omega arith) (omega arith) later, sum_one f i (a + 1) n (omega (arith, low, later)) (omega (arith, high)) (λ j j_low j_high. others j (omega (arith, j_low)) (omega (arith, j_high)))))
    (cases_eq a i)

-- what holds of each part of a list holds of the whole
pub all_flat : {X Y : Type 0} (P : Y → Type 0) (g : X → List Y) (xs : List X) → All (λ x. All P (g x)) xs → All P (flat_map g xs)
all_flat P g [] all = All-nil P
all_flat P g (x ∷ xs) all = All-append P (g x) (flat_map g xs) (All-head (λ y. All P (g y)) x xs all) (all_flat P g xs (All-tail (λ y. All P (g y)) x xs all))

pub all_range : (P : ℕ → Type 0) (a n : ℕ) → ((j : ℕ) → a ≤ j → j < a + n → P j) → All P (range_with_len a n)
all_range P a zero each = All-nil P
all_range P a (suc n) each = All-cons P a (range_with_len (a + 1) n) (each a (omega arith) (omega arith)) (all_range P (a + 1) n (λ j low high. each j (omega (arith, low)) (omega (arith, high))))

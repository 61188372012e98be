-- Sums over lists and items, by tests of their terms.
use Rattle.std.proofs.Common.{◌≡◌, ◌≤◌, ◌<◌, ◌+◌, ◌∙◌, ⊎_elim, ℕ, zero, suc, Bool, true, false, List, [], ◌∷◌, length, slice_index_or, refl, sym, arith}
use Rattle.std.specs.Prelude.{◌==◌, ◌&&◌, if◌then◌else◌}
use Rattle.std.specs.List.{sum_by}
use Rattle.std.proofs.lemmas.Bool.{cases_Bool, cases_lt, eq-eqb, ne_eqb}
use Rattle.std.proofs.lemmas.List.Sums.{sum_by-cons}
use Rattle.lot_sizing.specs.Sums.{sum_to}
use Rattle.lot_sizing.proofs.Sums.{sum_to-add, sum_to-same, sum_to-zero}

-- ---- sums over items with one term
pub term_here : (i j v : ℕ) → i ≡ j → (if i == j then v else 0) ≡ v
term_here i j v e = let t : (i == j) ≡ true = eq-eqb i j e in rw t refl

pub term_apart : (i j v : ℕ) → (i ≡ j → ⊥) → (if i == j then v else 0) ≡ 0
term_apart i j v apart = let t : (i == j) ≡ false = ne_eqb i j apart in rw t refl

no_term : (n i v : ℕ) → n < i → sum_to n (λ j. if i == j then v else 0) ≡ 0
no_term n i v past = sum_to-same n (λ j. if i == j then v else 0) (λ j. 0) (λ j low high. term_apart i j v (λ e. omega (arith, e, high, past))) ∙ sum_to-zero n

pub one_term : (n i v : ℕ) → 1 ≤ i → i ≤ n → sum_to n (λ j. if i == j then v else 0) ≡ v
one_term zero i v low high = absurd (omega (arith, low, high))
one_term (suc n) i v low high =
    ⊎_elim
    (λ before. omega (arith, one_term n i v low (omega (arith, before)), term_apart i (suc n) v (λ e. omega (arith, e, before))))
    (λ no.
    let e : i ≡ suc n = omega (arith, no, high) in
    omega (arith, no_term n i v (omega (arith, e)), term_here i (suc n) v e))
    (cases_lt i (suc n))

-- ---- sums over a list
pub sum_by_same : {X : Type 0} (f g : X → ℕ) (xs : List X) → ((x : X) → f x ≡ g x) → sum_by f xs ≡ sum_by g xs
sum_by_same f g [] same = refl
sum_by_same f g (x ∷ xs) same = omega (arith, sum_by-cons f x xs, sum_by-cons g x xs, same x, sum_by_same f g xs same)

pub sum_by_add : {X : Type 0} (f g : X → ℕ) (xs : List X) → sum_by (λ x. f x + g x) xs ≡ sum_by f xs + sum_by g xs
sum_by_add f g [] = refl
sum_by_add f g (x ∷ xs) = omega (arith, sum_by-cons (λ y. f y + g y) x xs, sum_by-cons f x xs, sum_by-cons g x xs, sum_by_add f g xs)

-- the sum of those that pass a test
abbrev pub passing : {X : Type 0} → (X → Bool) → (X → ℕ) → List X → ℕ
passing p f xs = sum_by (λ x. if p x then f x else 0) xs

pub passing-cons : {X : Type 0} (p : X → Bool) (f : X → ℕ) (x : X) (xs : List X) → passing p f (x ∷ xs) ≡ (if p x then f x else 0) + passing p f xs
passing-cons p f x xs = sum_by-cons (λ y. if p y then f y else 0) x xs

pub none_passes : {X : Type 0} (p : X → Bool) (f : X → ℕ) (d : X) (xs : List X) → ((n : ℕ) → n < length xs → p (slice_index_or xs n d) ≡ false) → passing p f xs ≡ 0
none_passes p f d [] none = refl
none_passes p f d (x ∷ xs) none =
    let here : p x ≡ false = none 0 (omega arith) in
    let first : (if p x then f x else 0) ≡ 0 = rw here refl in
    omega (arith, passing-cons p f x xs, first, none_passes p f d xs (λ n less. none (suc n) (omega (arith, less))))

pub one_passes : {X : Type 0} (p : X → Bool) (f : X → ℕ) (d : X) (xs : List X) (n : ℕ) → n < length xs → p (slice_index_or xs n d) ≡ true → ((o : ℕ) → o < length xs → p (slice_index_or xs o d) ≡ true → o ≡ n) → passing p f xs ≡ f (slice_index_or xs n d)
one_passes p f d [] n there is only = absurd (omega (arith, there))
one_passes p f d (x ∷ xs) zero there is only =
    let first : (if p x then f x else 0) ≡ f x = rw is refl in
    let rest : passing p f xs ≡ 0 = none_passes p f d xs (λ o less. ⊎_elim (λ yes. absurd (omega (arith, only (suc o) (omega (arith, less)) yes))) (λ no. no) (cases_Bool (p (slice_index_or xs o d)))) in
    omega (arith, passing-cons p f x xs, first, rest)
one_passes p f d (x ∷ xs) (suc n) there is only =
    let here : p x ≡ false = ⊎_elim (λ yes. absurd (omega (arith, only 0 (omega arith) yes))) (λ no. no) (cases_Bool (p x)) in
    let first : (if p x then f x else 0) ≡ 0 = rw here refl in
    omega (arith, passing-cons p f x xs, first, one_passes p f d xs n (omega (arith, there)) is (λ o less yes. omega (arith, only (suc o) (omega (arith, less)) yes)))

-- a term is at most the sum, and so are two
pub term_within : {X : Type 0} (f : X → ℕ) (d : X) (xs : List X) (n : ℕ) → n < length xs → f (slice_index_or xs n d) ≤ sum_by f xs
term_within f d [] n there = absurd (omega (arith, there))
term_within f d (x ∷ xs) zero there = omega (arith, sum_by-cons f x xs)
term_within f d (x ∷ xs) (suc n) there = omega (arith, sum_by-cons f x xs, term_within f d xs n (omega (arith, there)))

pub two_within : {X : Type 0} (f : X → ℕ) (d : X) (xs : List X) (n o : ℕ) → n < o → o < length xs → f (slice_index_or xs n d) + f (slice_index_or xs o d) ≤ sum_by f xs
two_within f d [] n o less there = absurd (omega (arith, there))
two_within f d (x ∷ xs) n zero less there = absurd (omega (arith, less))
two_within f d (x ∷ xs) zero (suc o) less there = omega (arith, sum_by-cons f x xs, term_within f d xs o (omega (arith, there)))
two_within f d (x ∷ xs) (suc n) (suc o) less there = omega (arith, sum_by-cons f x xs, two_within f d xs n o (omega (arith, less)) (omega (arith, there)))

-- a sum above 0 has a term above 0
pub some_term : {X : Type 0} (f : X → ℕ) (d : X) (xs : List X) → 0 < sum_by f xs → (n : ℕ) × (n < length xs) × (0 < f (slice_index_or xs n d))
some_term f d [] more = absurd (omega (arith, more))
some_term f d (x ∷ xs) more =
    ⊎_elim
    (λ here. (0, omega arith, here))
    (λ none. let (n, there, is) = some_term f d xs (omega (arith, none, more, sum_by-cons f x xs)) in (suc n, omega (arith, there), is))
    (cases_lt 0 (f x))

-- ---- sums over a list, item by item
item_term : (b : Bool) (n c v : ℕ) → 1 ≤ c → c ≤ n → sum_to n (λ i. if b && (c == i) then v else 0) ≡ (if b then v else 0)
item_term true n c v low high = one_term n c v low high
item_term false n c v low high = sum_to-zero n

pub by_items : {X : Type 0} (q : X → Bool) (key f : X → ℕ) (d : X) (n : ℕ) (xs : List X) → ((k : ℕ) → k < length xs → (1 ≤ key (slice_index_or xs k d)) × (key (slice_index_or xs k d) ≤ n)) → passing q f xs ≡ sum_to n (λ i. passing (λ x. q x && (key x == i)) f xs)
by_items q key f d n [] keys = sym (sum_to-zero n)
by_items q key f d n (x ∷ xs) keys =
    let (low, high) = keys 0 (omega arith) in
    let rest = by_items q key f d n xs (λ k less. keys (suc k) (omega (arith, less))) in
    let each = sum_to-same n (λ i. passing (λ y. q y && (key y == i)) f (x ∷ xs)) (λ i. (if q x && (key x == i) then f x else 0) + passing (λ y. q y && (key y == i)) f xs) (λ i i_low i_high. passing-cons (λ y. q y && (key y == i)) f x xs) in
    let parts = sum_to-add n (λ i. if q x && (key x == i) then f x else 0) (λ i. passing (λ y. q y && (key y == i)) f xs) in
    omega (arith, passing-cons q f x xs, rest, each, parts, item_term (q x) n (key x) (f x) low high)

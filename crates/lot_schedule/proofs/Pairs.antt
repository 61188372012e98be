-- The sum of ends of lots that don't overlap: each ordered pair of lots adds at least the lesser length.
use Rattle.std.proofs.Common.{◌≡◌, ◌≤◌, ◌<◌, ◌+◌, ◌*◌, ◌⊎◌, ⊎_elim, inl, inr, ℕ, zero, suc, true, false, refl, ap, arith, min}
use Rattle.std.specs.Prelude.{◌==◌, ◌&&◌, nat_le, if◌then◌else◌}
use Rattle.std.proofs.lemmas.Bool.{and_from, and_left, and_right, cases_eq, cases_lt, le-leb, lt-leb}
use Rattle.lot_sizing.specs.Sums.{sum_to}
use Rattle.lot_sizing.proofs.Sums.{sum_to-add, sum_to-le, sum_to-same, sum_to-swap}
use Rattle.lot_schedule.specs.Lots.{pair_sum}
use Rattle.lot_schedule.proofs.Terms.{one_term, term_apart, term_here}

-- a lot from s to e that lies from a to b gives its length
abbrev inside : ℕ → ℕ → ℕ → ℕ → ℕ → ℕ
inside a b s e v = if nat_le a s && nat_le e b then v else 0

is_inside : (a b s e v : ℕ) → a ≤ s → e ≤ b → inside a b s e v ≡ v
is_inside a b s e v low high = let t : (nat_le a s && nat_le e b) ≡ true = and_from (nat_le a s) (nat_le e b) (le-leb a s low) (le-leb e b high) in rw t refl

is_outside : (a b s e v : ℕ) → (s < a) ⊎ (b < e) → inside a b s e v ≡ 0
is_outside a b s e v out =
    let t : (nat_le a s && nat_le e b) ≡ false = ⊎_elim (λ low. and_left (nat_le a s) (nat_le e b) (lt-leb a s low)) (λ high. and_right (nat_le a s) (nat_le e b) (lt-leb e b high)) out in
    rw t refl

-- it lies before or after another one
split : (a b c d s e v : ℕ) → (e ≤ c) ⊎ (d ≤ s) → inside a b s e v ≤ inside a c s e v + inside d b s e v
split a b c d s e v apart =
    ⊎_elim
    (λ low. omega (arith, is_outside a b s e v (inl low)))
    (λ from. ⊎_elim
    (λ high. omega (arith, is_outside a b s e v (inr high)))
    (λ to. ⊎_elim
    (λ before. omega (arith, is_inside a b s e v from to, is_inside a c s e v from before))
    (λ after. omega (arith, is_inside a b s e v from to, is_inside d b s e v after to))
    apart)
    (cases_lt b e))
    (cases_lt s a)

-- lots of these starts, ends and lengths that don't overlap
pub record AreDisjoint (n : ℕ) (s e f : ℕ → ℕ) : Type 0 where
  pub lasts : (i : ℕ) → 1 ≤ i → i ≤ n → e i ≡ s i + f i
  pub apart : (i j : ℕ) → 1 ≤ i → i < j → j ≤ n → (e i ≤ s j) ⊎ (e j ≤ s i)

fewer : (n : ℕ) (s e f : ℕ → ℕ) → AreDisjoint (suc n) s e f → AreDisjoint n s e f
fewer n s e f all = record { lasts = λ i low high. all.lasts i low (omega (arith, high)); apart = λ i j low less high. all.apart i j low less (omega (arith, high)) }

-- those that lie from a to b take no longer than that
room : (n : ℕ) (s e f : ℕ → ℕ) → AreDisjoint n s e f → (a b : ℕ) → a ≤ b → sum_to n (λ j. inside a b (s j) (e j) (f j)) + a ≤ b
room zero s e f all a b up = omega (arith, up)
room (suc n) s e f all a b up =
    let x = suc n in
    let rest = fewer n s e f all in
    ⊎_elim
    (λ low. let out : inside a b (s x) (e x) (f x) ≡ 0 = is_outside a b (s x) (e x) (f x) (inl low) in omega (arith, out, room n s e f rest a b up))
    (λ from. ⊎_elim
    (λ high. let out : inside a b (s x) (e x) (f x) ≡ 0 = is_outside a b (s x) (e x) (f x) (inr high) in omega (arith, out, room n s e f rest a b up))
    (λ to.
    let each = sum_to-le n (λ j. inside a b (s j) (e j) (f j)) (λ j. inside a (s x) (s j) (e j) (f j) + inside (e x) b (s j) (e j) (f j)) (λ j low high. split a b (s x) (e x) (s j) (e j) (f j) (all.apart j x low (omega (arith, high)) (omega arith))) in
    let parts = sum_to-add n (λ j. inside a (s x) (s j) (e j) (f j)) (λ j. inside (e x) b (s j) (e j) (f j)) in
    omega (arith, is_inside a b (s x) (e x) (f x) from to, each, parts, room n s e f rest a (s x) from, room n s e f rest (e x) b to, all.lasts x (omega arith) (omega arith)))
    (cases_lt b (e x)))
    (cases_lt (s x) a)

-- the length of a lot that ends no later than another
abbrev before : (ℕ → ℕ) → (ℕ → ℕ) → ℕ → ℕ → ℕ
before e f i j = inside 0 (e i) 0 (e j) (f j)

pair : (i j ei ej fi fj : ℕ) → (i ≡ j → fi ≡ fj) → (i ≡ j → ei ≡ ej) → min fi fj + (if i == j then fi else 0) ≤ inside 0 ei 0 ej fj + inside 0 ej 0 ei fi
pair i j ei ej fi fj lengths ends =
    ⊎_elim
    (λ e. omega (arith, lengths e, ends e, term_here i j fi e, is_inside 0 ei 0 ej fj (omega arith) (omega (arith, ends e)), is_inside 0 ej 0 ei fi (omega arith) (omega (arith, ends e))))
    (λ ne. ⊎_elim
    (λ less. omega (arith, term_apart i j fi ne, is_inside 0 ej 0 ei fi (omega arith) (omega (arith, less))))
    (λ more. omega (arith, term_apart i j fi ne, is_inside 0 ei 0 ej fj (omega arith) more))
    (cases_lt ei ej))
    (cases_eq i j)

from_zero : (b s e v : ℕ) → inside 0 b 0 e v ≡ inside 0 b s e v
from_zero b s e v = let t : nat_le 0 s ≡ true = le-leb 0 s (omega arith) in rw t refl

room_before : (n : ℕ) (s e f : ℕ → ℕ) → AreDisjoint n s e f → (b : ℕ) → sum_to n (λ j. inside 0 b 0 (e j) (f j)) ≤ b
room_before n s e f all b =
    let same = sum_to-same n (λ j. inside 0 b 0 (e j) (f j)) (λ j. inside 0 b (s j) (e j) (f j)) (λ j low high. from_zero b (s j) (e j) (f j)) in
    omega (arith, same, room n s e f all 0 b (omega arith))

-- twice the sum of ends is at least the lesser lengths of all ordered pairs
pub pairs_within : (n : ℕ) (s e f : ℕ → ℕ) → AreDisjoint n s e f → pair_sum n f ≤ 2 * sum_to n e
pairs_within n s e f all =
    let ones = sum_to-same n (λ i. sum_to n (λ j. if i == j then f i else 0)) f (λ i low high. one_term n i (f i) low high) in
    let row = λ (i : ℕ). sum_to-add n (λ j. min (f i) (f j)) (λ j. if i == j then f i else 0) in
    let left = sum_to-same n (λ i. sum_to n (λ j. min (f i) (f j) + (if i == j then f i else 0))) (λ i. sum_to n (λ j. min (f i) (f j)) + sum_to n (λ j. if i == j then f i else 0)) (λ i low high. row i) in
    let left_parts = sum_to-add n (λ i. sum_to n (λ j. min (f i) (f j))) (λ i. sum_to n (λ j. if i == j then f i else 0)) in
    let each = sum_to-le n (λ i. sum_to n (λ j. min (f i) (f j) + (if i == j then f i else 0))) (λ i. sum_to n (λ j. before e f i j + before e f j i)) (λ i low high. sum_to-le n (λ j. min (f i) (f j) + (if i == j then f i else 0)) (λ j. before e f i j + before e f j i) (λ j j_low j_high. pair i j (e i) (e j) (f i) (f j) (λ same. ap f same) (λ same. ap e same))) in
    let right = sum_to-same n (λ i. sum_to n (λ j. before e f i j + before e f j i)) (λ i. sum_to n (λ j. before e f i j) + sum_to n (λ j. before e f j i)) (λ i low high. sum_to-add n (λ j. before e f i j) (λ j. before e f j i)) in
    let right_parts = sum_to-add n (λ i. sum_to n (λ j. before e f i j)) (λ i. sum_to n (λ j. before e f j i)) in
    let swapped = sum_to-swap n n (λ i j. before e f j i) in
    let fits = sum_to-le n (λ i. sum_to n (λ j. before e f i j)) e (λ i low high. room_before n s e f all (e i)) in
    omega (arith, ones, left, left_parts, each, right, right_parts, swapped, fits)

-- The bill of a generated problem: an item goes into the one before it, or into none.
use Rattle.std.proofs.Common.{◌≡◌, ◌≢◌, ◌≤◌, ◌<◌, ◌+◌, ◌-◌, ◌*◌, ◌∙◌, ⊎_elim, ℕ, zero, suc, Bool, true, false, refl, sym, ap, arith}
use Rattle.std.specs.Prelude.{if◌then◌else◌, ◌==◌, ◌&&◌, nat_le}
use Rattle.std.specs.List.{sum_by}
use Rattle.std.proofs.lemmas.Bool.{cases_eq, cases_lt}
use Rattle.lot_sizing.specs.Sums.{sum_to}
use Rattle.report.specs.Generated.{has_next, need_if, needs_of}

-- 1 where there is a line
abbrev pub one_if : Bool → ℕ
one_if b = if b then 1 else 0

-- units of item i in one of item j
abbrev pub next_units : Bool → ℕ → ℕ → ℕ → ℕ
next_units coupled items j i = if has_next coupled items j then one_if (j + 1 == i) else 0

units_of : (b : Bool) (i j : ℕ) → sum_by (λ need. if need.item == i then need.quantity else 0) (need_if b (j + 1)) ≡ (if b then one_if (j + 1 == i) else 0)
units_of false i j = refl
units_of true i j = plus (j + 1 == i)
  where
    plus : (c : Bool) → 0 + (if c then 1 else 0) ≡ one_if c
    plus false = refl
    plus true = refl

pub units_in_needs : (coupled : Bool) (items i j : ℕ) → sum_by (λ need. if need.item == i then need.quantity else 0) (needs_of coupled items j) ≡ next_units coupled items j i
units_in_needs coupled items i j = units_of (has_next coupled items j) i j

off_false : (a b : ℕ) → a ≢ b → (a == b) ≡ false
off_false a b h = grind (arith, h)

on_true : (a b : ℕ) → a ≡ b → (a == b) ≡ true
on_true a b h = grind (arith, h)

pub either : (b : Bool) (n : ℕ) → (if b then n else n) ≡ n
either false n = refl
either true n = refl

pub off : (coupled : Bool) (items j i : ℕ) → j + 1 ≢ i → next_units coupled items j i ≡ 0
off coupled items j i h = ap (λ c. if has_next coupled items j then one_if c else 0) (off_false (j + 1) i h) ∙ either (has_next coupled items j) 0

pub on : (coupled : Bool) (items j i : ℕ) → j + 1 ≡ i → next_units coupled items j i ≡ one_if (has_next coupled items j)
on coupled items j i h = ap (λ c. if has_next coupled items j then one_if c else 0) (on_true (j + 1) i h)

-- what goes into the item before
abbrev pub into_previous : Bool → ℕ → (ℕ → ℕ) → ℕ → ℕ
into_previous coupled items f i = one_if (has_next coupled items (i - 1)) * f (i - 1)

pub zero_times : (n : ℕ) → 0 * n ≡ 0
zero_times n = omega arith

-- the items before an item and the one before it take none
none_before : (coupled : Bool) (items i : ℕ) (f : ℕ → ℕ) (m : ℕ) → m + 1 < i → sum_to m (λ j. next_units coupled items j i * f j) ≡ 0
none_before coupled items i f zero h = refl
none_before coupled items i f (suc m) h =
    let before = none_before coupled items i f m (omega (arith, h)) in
    let last : next_units coupled items (suc m) i * f (suc m) ≡ 0 = ap (λ n. n * f (suc m)) (off coupled items (suc m) i (λ e. omega (arith, h, e))) ∙ zero_times (f (suc m)) in
    omega (arith, before, last)

from_previous : (coupled : Bool) (items i : ℕ) (f : ℕ → ℕ) (m : ℕ) → 2 ≤ i → i ≤ m + 1 → sum_to m (λ j. next_units coupled items j i * f j) ≡ into_previous coupled items f i
from_previous coupled items i f zero low high = absurd (omega (arith, low, high))
from_previous coupled items i f (suc m) low high =
    ⊎_elim
    (λ last. let e : i - 1 ≡ suc m = omega (arith, last) in
    let before = none_before coupled items i f m (omega (arith, last)) in
    let here : next_units coupled items (suc m) i * f (suc m) ≡ into_previous coupled items f i = ap (λ n. n * f (suc m)) (on coupled items (suc m) i (sym last)) ∙ ap (λ k. one_if (has_next coupled items k) * f k) (sym e) in
    omega (arith, before, here))
    (λ other. let before = from_previous coupled items i f m low (omega (arith, high, other)) in
    let here : next_units coupled items (suc m) i * f (suc m) ≡ 0 = ap (λ n. n * f (suc m)) (off coupled items (suc m) i (λ e. other (sym e))) ∙ zero_times (f (suc m)) in
    omega (arith, before, here))
    (cases_eq i (suc m + 1))

none_first : (coupled : Bool) (items i : ℕ) (f : ℕ → ℕ) (m : ℕ) → i ≤ 1 → sum_to m (λ j. next_units coupled items j i * f j) ≡ 0
none_first coupled items i f zero h = refl
none_first coupled items i f (suc m) h =
    let before = none_first coupled items i f m h in
    let here : next_units coupled items (suc m) i * f (suc m) ≡ 0 = ap (λ n. n * f (suc m)) (off coupled items (suc m) i (λ e. omega (arith, h, e))) ∙ zero_times (f (suc m)) in
    omega (arith, before, here)

and_false : (b : Bool) → (b && false) ≡ false
and_false false = refl
and_false true = refl

pub none_before_first : (coupled : Bool) (items : ℕ) → has_next coupled items 0 ≡ false
none_before_first coupled items = ap (λ b. coupled && b) (and_false (nat_le 1 items)) ∙ and_false coupled

pub first_into_none : (coupled : Bool) (items : ℕ) (f : ℕ → ℕ) (i : ℕ) → i ≤ 1 → into_previous coupled items f i ≡ 0
first_into_none coupled items f i h =
    let e : i - 1 ≡ 0 = omega (arith, h) in
    ap (λ k. one_if (has_next coupled items k) * f (i - 1)) e ∙ ap (λ b. one_if b * f (i - 1)) (none_before_first coupled items) ∙ zero_times (f (i - 1))

-- a sum over all items has the one before alone
pub sum_previous : (coupled : Bool) (items i : ℕ) (f : ℕ → ℕ) → i ≤ items → sum_to items (λ j. next_units coupled items j i * f j) ≡ into_previous coupled items f i
sum_previous coupled items i f high =
    ⊎_elim
    (λ first. none_first coupled items i f items (omega (arith, first)) ∙ sym (first_into_none coupled items f i (omega (arith, first))))
    (λ later. from_previous coupled items i f items (omega (arith, later)) (omega (arith, high)))
    (cases_lt i 2)

pub one_if_most : (b : Bool) (n : ℕ) → one_if b * n ≤ n
one_if_most false n = omega arith
one_if_most true n = omega arith

-- a number that adds at most b to that of the item before
pub chain : (coupled : Bool) (items b : ℕ) (f : ℕ → ℕ) → ((i : ℕ) → 1 ≤ i → i ≤ items → f i ≤ b + into_previous coupled items f i) → (i : ℕ) → 1 ≤ i → i ≤ items → f i ≤ i * b
chain coupled items b f step zero low high = absurd (omega (arith, low))
chain coupled items b f step (suc zero) low high = omega (arith, step 1 low high, first_into_none coupled items f 1 (omega arith))
chain coupled items b f step (suc (suc j)) low high =
    let e : suc (suc j) - 1 ≡ suc j = omega arith in
    let before = chain coupled items b f step (suc j) (omega arith) (omega (arith, high)) in
    let taken = one_if_most (has_next coupled items (suc (suc j) - 1)) (f (suc (suc j) - 1)) in
    omega (arith, step (suc (suc j)) low high, taken, ap f e, before)

-- Sets of items take one more.
use Rattle.std.proofs.Common.{◌≡◌, ◌≢◌, ◌≤◌, ◌<◌, ◌+◌, ◌-◌, ◌∙◌, ◌⊎◌, ⊎_elim, inl, inr, ℕ, zero, suc, sym, ap, arith, List, length, Bool, true, false, slice_index_or, slice_set}
use Rattle.std.specs.Prelude.{if◌then◌else◌}
use Rattle.std.proofs.lemmas.List.{get_or-set_same, get_or-set_other, length-set}
use Rattle.std.proofs.lemmas.Bool.{cases_eq}
use Rattle.lot_sizing.specs.Sums.{sum_to}
use Rattle.lot_sizing.proofs.Sums.{sum_to-same}
use Rattle.bill.specs.Sets.{has, missing}

pub has_here : (set : List Bool) (i : ℕ) → 1 ≤ i → i ≤ length set → has (slice_set set (i - 1) true) i ≡ true
has_here set i low high = get_or-set_same set (i - 1) true false (omega (arith, low, high))

pub has_other : (set : List Bool) (p i : ℕ) → (i - 1 ≡ p → ⊥) → has (slice_set set p true) i ≡ has set i
has_other set p i apart = get_or-set_other set p (i - 1) true false apart

pub has_kept : (set : List Bool) (p i : ℕ) → p < length set → has set i ≡ true → has (slice_set set p true) i ≡ true
has_kept set p i high h =
    ⊎_elim
    (λ same. ap (λ k. slice_index_or (slice_set set p true) k false) same ∙ get_or-set_same set p true false high)
    (λ apart. has_other set p i apart ∙ h)
    (cases_eq (i - 1) p)

pub has_only : (set : List Bool) (p i : ℕ) → has (slice_set set p true) i ≡ true → (i - 1 ≡ p) ⊎ (has set i ≡ true)
has_only set p i h =
    ⊎_elim
    (λ same. inl same)
    (λ apart. inr (sym (has_other set p i apart) ∙ h))
    (cases_eq (i - 1) p)

one_less : (n : ℕ) (f g : ℕ → ℕ) (at : ℕ) → 1 ≤ at → at ≤ n → f at + 1 ≡ g at → ((k : ℕ) → 1 ≤ k → k ≤ n → k ≢ at → f k ≡ g k) → sum_to n f + 1 ≡ sum_to n g
one_less zero f g at low high here others = absurd (omega (arith, low, high))
one_less (suc n) f g at low high here others =
    ⊎_elim
    (λ same. omega (arith, ap f same, ap g same, here, sum_to-same n f g (λ k k_low k_high. others k k_low (omega (arith, k_high)) (λ e. omega (arith, e, same, k_high)))))
    (λ apart. omega (arith, one_less n f g at low (omega (arith, high, apart)) here (λ k k_low k_high. others k k_low (omega (arith, k_high))), others (suc n) (omega arith) (omega arith) (λ e. apart (sym e))))
    (cases_eq at (suc n))

pub missing_set : (set : List Bool) (p : ℕ) → p < length set → has set (suc p) ≡ false → missing (slice_set set p true) < missing set
missing_set set p high none =
    let n = length set in
    let new = slice_set set p true in
    let size : length new ≡ n = length-set set p true in
    let e : suc p - 1 ≡ p = omega arith in
    let here : has new (suc p) ≡ true = ap (λ k. slice_index_or new k false) e ∙ get_or-set_same set p true false high in
    let f = λ (i : ℕ). if has new i then 0 else 1 in
    let g = λ (i : ℕ). if has set i then 0 else 1 in
    let less = one_less n f g (suc p) (omega arith) (omega (arith, high)) (ap (λ b. (if b then 0 else 1) + 1) here ∙ sym (ap (λ b. if b then 0 else 1) none)) (λ k low k_high apart. ap (λ b. if b then 0 else 1) (has_other set p k (λ same. apart (omega (arith, same, low))))) in
    omega (arith, less, ap (λ k. sum_to k f) size)

pub missing_item : (set : List Bool) (i : ℕ) (read : Bool) → 1 ≤ i → i ≤ length set → read ≡ slice_index_or set (i - 1) read → read ≡ false → missing (slice_set set (i - 1) true) < missing set
missing_item set i read low high is none =
    let e : suc (i - 1) - 1 ≡ i - 1 = omega arith in
    missing_set set (i - 1) (omega (arith, low, high)) (ap (λ k. slice_index_or set k false) e ∙ ap (slice_index_or set (i - 1)) (sym none) ∙ sym is ∙ none)

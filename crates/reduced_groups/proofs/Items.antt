-- What the items of groups cost is no more than what all items do.
use Rattle.std.proofs.Common.{◌≡◌, ◌≢◌, ◌≤◌, ◌<◌, ◌+◌, ◌*◌, ◌∙◌, ⊎_elim, ℕ, zero, suc, ap, arith, List, [], ◌∷◌}
use Rattle.std.specs.List.{All}
use Rattle.std.proofs.lemmas.Bool.{cases_eq}
use Rattle.std.proofs.lemmas.List.Elements.{All-head, All-tail}
use Rattle.std.proofs.Math.Nat.{mul-le-mul_right}
use Rattle.lot_sizing.specs.Sums.{sum_to}
use Rattle.lot_sizing.specs.Problem.{Problem, item_count}
use Rattle.lot_sizing.specs.Bill.{one_if_same}
use Rattle.lot_sizing.proofs.Sums.{sum_to-add, sum_to-le, sum_to-same, sum_to-zero}
use Rattle.reduced_groups.specs.Apart.{IsItem, times_of}

pub other_none : (i k : ℕ) → i ≢ k → one_if_same i k ≡ 0
other_none i k h = grind (arith, h)

same_one : (i k : ℕ) → i ≡ k → one_if_same i k ≡ 1
same_one i k h = grind (arith, h)

-- a sum with one term
later_none : (n i : ℕ) (f : ℕ → ℕ) → n < i → sum_to n (λ j. one_if_same i j * f j) ≡ 0
later_none n i f h = sum_to-same n (λ j. one_if_same i j * f j) (λ _. 0) (λ j low high. omega (arith, ap (λ x. x * f j) (other_none i j (λ same. omega (arith, same, h, high))))) ∙ sum_to-zero n

pub one_term : (n i : ℕ) (f : ℕ → ℕ) → 1 ≤ i → i ≤ n → sum_to n (λ j. one_if_same i j * f j) ≡ f i
one_term zero i f low high = absurd (omega (arith, low, high))
one_term (suc n) i f low high =
    ⊎_elim
    (λ same. omega (arith, later_none n i f (omega (arith, same)), ap (λ x. x * f (suc n)) (same_one i (suc n) same), ap f same))
    (λ apart. omega (arith, one_term n i f low (omega (arith, high, apart)), ap (λ x. x * f (suc n)) (other_none i (suc n) apart)))
    (cases_eq i (suc n))

-- a number of each item of a list, added
abbrev pub over : List ℕ → (ℕ → ℕ) → ℕ
over [] f = 0
over (k ∷ items) f = f k + over items f

-- each item counts as often as the list has it
pub over_times : (m : Problem) (items : List ℕ) (f : ℕ → ℕ) → All (IsItem m) items → over items f ≡ sum_to (item_count m) (λ i. times_of items i * f i)
over_times m [] f are = omega (arith, sum_to-same (item_count m) (λ i. 0 * f i) (λ _. 0) (λ i low high. omega arith), sum_to-zero (item_count m))
over_times m (k ∷ items) f are =
    let n = item_count m in
    let here = All-head (IsItem m) k items are in
    omega (
      arith,
      one_term n k f here.0 here.1,
      over_times m items f (All-tail (IsItem m) k items are),
      sum_to-same n (λ i. (one_if_same k i + times_of items i) * f i) (λ i. one_if_same k i * f i + times_of items i * f i) (λ i low high. omega arith),
      sum_to-add n (λ i. one_if_same k i * f i) (λ i. times_of items i * f i),
    )

-- items that count once at most
pub once_most : (n : ℕ) (times f : ℕ → ℕ) → ((i : ℕ) → times i ≤ 1) → sum_to n (λ i. times i * f i) ≤ sum_to n f
once_most n times f once = sum_to-le n (λ i. times i * f i) f (λ i low high. omega (arith, mul-le-mul_right (f i) (once i)))

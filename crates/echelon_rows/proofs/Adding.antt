-- What terms that are taken a whole number of times add to, and when a row of them holds.
use Rattle.std.proofs.Common.{◌≡◌, ◌≤◌, ◌+◌, ◌*◌, ◌∙◌, ℕ, zero, suc, refl, ap, arith, List, [], ◌∷◌}
use Rattle.std.specs.Prelude.{ℤ, pos, ◌+ℤ◌, ◌-ℤ◌, ◌*ℤ◌, ◌≤ℤ◌}
use Rattle.algebra.proofs.Integers.{mul_one}
use Rattle.algebra.proofs.Order.{linear}
use Rattle.lot_sizing.specs.Sums.{sum_to}
use Rattle.lot_sizing.proofs.Sums.{sum_to-same, sum_to-swap, sum_to-times}
use Rattle.lin_rows.specs.declared.column.Column.{Column}
use Rattle.lin_rows.specs.declared.row.Term.{Term}
use Rattle.lin_rows.specs.Base.{term}
use Rattle.lin_rows.specs.Rows.{HoldsAt, Values, sum_at, whole_point}
use Rattle.lin_rows.proofs.Terms.{sum_append, sum_some}
use Rattle.echelon_rows.specs.Rows.{cells_to, periods_to, row_with}

one_more : (a b : ℕ) → a + (b + 0) ≡ a + b
one_more a b = omega arith

pub periods_sum : (v : Values) (n : ℕ) (c : ℕ → Column) (k : ℕ → ℕ) → sum_at v (periods_to n (λ t. term (c t) (pos (k t)))) ≡ pos (sum_to n (λ t. k t * v (c t)))
periods_sum v zero c k = refl
periods_sum v (suc n) c k =
    let f = λ (t : ℕ). term (c t) (pos (k t)) in
    let x = k (suc n) * v (c (suc n)) in
    sum_append v (periods_to n f) (f (suc n) ∷ [])
    ∙ ap (λ z. z +ℤ (pos (k (suc n)) *ℤ pos (v (c (suc n))) +ℤ pos 0)) (periods_sum v n c k)
    ∙ ap pos (one_more (sum_to n (λ t. k t * v (c t))) x)

pub cells_sum : (v : Values) (n T : ℕ) (c : ℕ → ℕ → Column) (k : ℕ → ℕ → ℕ) → sum_at v (cells_to n T (λ j t. term (c j t) (pos (k j t)))) ≡ pos (sum_to n (λ j. sum_to T (λ t. k j t * v (c j t))))
cells_sum v zero T c k = refl
cells_sum v (suc n) T c k =
    let f = λ (j t : ℕ). term (c j t) (pos (k j t)) in
    sum_append v (cells_to n T f) (periods_to T (f (suc n)))
    ∙ ap (λ z. z +ℤ sum_at v (periods_to T (f (suc n)))) (cells_sum v n T c k)
    ∙ ap (λ z. pos (sum_to n (λ j. sum_to T (λ t. k j t * v (c j t)))) +ℤ z) (periods_sum v T (c (suc n)) (k (suc n)))

-- period by period what is weighed item by item
pub weighed : (n T : ℕ) (c : ℕ → ℕ) (k w : ℕ → ℕ → ℕ) → sum_to n (λ j. sum_to T (λ t. (c t * k j t) * w j t)) ≡ sum_to T (λ t. c t * sum_to n (λ j. k j t * w j t))
weighed n T c k w =
    sum_to-swap n T (λ j t. (c t * k j t) * w j t)
    ∙ sum_to-same T (λ t. sum_to n (λ j. (c t * k j t) * w j t)) (λ t. c t * sum_to n (λ j. k j t * w j t)) (λ t low high.
    sum_to-same n (λ j. (c t * k j t) * w j t) (λ j. c t * (k j t * w j t)) (λ j j_low j_high. omega arith) ∙ sum_to-times n (c t) (λ j. k j t * w j t))

holds_by : (more less total : ℕ) (sum : ℤ) → sum ≡ pos total → more ≤ less + total → ((pos more -ℤ pos less) *ℤ pos 1) ≤ℤ sum
holds_by more less total sum is h = omega (arith, linear, is, h, mul_one (pos more -ℤ pos less))

holds_at_least : (right total : ℕ) (sum : ℤ) → sum ≡ pos total → right ≤ total → (pos right *ℤ pos 1) ≤ℤ sum
holds_at_least right total sum is h = omega (arith, linear, is, h, mul_one (pos right))

-- a row holds whose terms add to a whole number that is at least its right side
pub row_holds : (v : Values) (terms : List Term) (right total : ℕ) → sum_at v terms ≡ pos total → right ≤ total → HoldsAt (whole_point v) (row_with terms (pos right))
row_holds v terms right total is h = holds_at_least right total _ (sum_some v terms ∙ is) h

-- and where something is taken from the right side
pub row_holds_less : (v : Values) (terms : List Term) (more less total : ℕ) → sum_at v terms ≡ pos total → more ≤ less + total → HoldsAt (whole_point v) (row_with terms (pos more -ℤ pos less))
row_holds_less v terms more less total is h = holds_by more less total _ (sum_some v terms ∙ is) h

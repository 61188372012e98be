-- What is owed, in fractions of 128 bits, item by item.
use Rattle.std.proofs.Common.{◌≡◌, ◌≤◌, ◌<◌, ◌+◌, ◌-◌, ◌∙◌, ⊎_elim, ℕ, suc, refl, sym, ap, subst, arith, false, length}
use Rattle.std.specs.Prelude.{if◌then◌else◌, pos, Option, Some, None}
use Rattle.std.specs.Option.{SomeIff}
use Rattle.std.proofs.lemmas.Bool.{cases_Bool, cases_eq, cases_lt}
use Rattle.algebra.proofs.Rings.{con, ◌⊕◌, ◌⊗◌, ◌⊜◌, ring1, ring2}
use Rattle.algebra.proofs.Sums.{sum-zero}
use Rattle.rational.specs.Rational.{ℚ, whole, ◌+ℚ◌, ◌*ℚ◌}
use Rattle.rational.proofs.Rationals.{rational_ring}
use Rattle.echelon.specs.declared.net.EchelonItem.{EchelonItem}
use Rattle.echelon.specs.Views.{IsEchelonWithinBounds}
use Rattle.lin_rows.specs.declared.column.Column.TheVariants.{R}
use Rattle.echelon_rows.specs.Rows.{Echelon, echelon_in, owed_times, owes}
use Rattle.echelon_rows.proofs.Ways.{owed_none, owes_back}
use Rattle.ls_cuts.specs.Points.{Fractions, owed_part, owed_term}
use Rattle.ls_cuts.specs.Steps.{AddFits, ItemFits, OwedFits, OwedFitsTo, owed_to}

-- ---- an item
pub nothing_added : (e : Echelon) (x : Fractions) (j t times : ℕ) (sum : ℚ) → times ≡ owed_times e j t → times ≡ 0 → ItemFits e x j t sum × (sum ≡ sum +ℚ owed_term e x j t)
nothing_added e x j t times sum is none =
    let zero_times : owed_times e j t ≡ 0 = sym is ∙ none in (
      (λ some. absurd (omega (arith, some, zero_times))),
      sym (ap (λ k. sum +ℚ whole (pos k) *ℚ x (R j t)) zero_times ∙ ring2 rational_ring (λ s y. s ⊕ con (pos 0) ⊗ y ⊜ s) refl sum (x (R j t))),
    )

some_iff_same : (r : Option ℚ) (P Q : Type 0) (v u : ℚ) → (P → Q) → (Q → P) → v ≡ u → SomeIff r P v → SomeIff r Q u
some_iff_same None P Q v u there back same h = λ q. h (back q)
some_iff_same (Some x) P Q v u there back same h = (there h.0, h.1 ∙ same)

pub some_added : (e : Echelon) (x : Fractions) (j t n : ℕ) (sum times value : ℚ) (r : Option ℚ) → n ≡ owed_times e j t → (n ≡ 0 → ⊥) → times ≡ whole (pos n) → value ≡ x (R j t) → SomeIff r (AddFits sum times value) (sum +ℚ times *ℚ value) → SomeIff r (ItemFits e x j t sum) (sum +ℚ owed_term e x j t)
some_added e x j t n sum times value r is some times_is value_is h =
    let all : times ≡ whole (pos (owed_times e j t)) = times_is ∙ ap (λ k. whole (pos k)) is in
    some_iff_same r (AddFits sum times value) (ItemFits e x j t sum) (sum +ℚ times *ℚ value) (sum +ℚ owed_term e x j t)
    (λ fits _. subst (λ a. AddFits sum (whole (pos (owed_times e j t))) a) value_is (subst (λ a. AddFits sum a value) all fits))
    (λ step. subst (λ a. AddFits sum times a) (sym value_is) (subst (λ a. AddFits sum a (x (R j t))) (sym all) (step (omega (arith, is, some)))))
    (ap (λ a. sum +ℚ a *ℚ value) all ∙ ap (λ a. sum +ℚ whole (pos (owed_times e j t)) *ℚ a) value_is)
    h

-- ---- all items
pub step_of : (e : Echelon) (x : Fractions) (t item : ℕ) (sum : ℚ) → 1 ≤ item → item ≤ e.items → sum ≡ owed_to e x t (item - 1) → OwedFits e x t → ItemFits e x item t sum
step_of e x t item sum low high is fits =
    let k = item - 1 in
    let same : suc k ≡ item = omega (arith, low) in
    subst (λ j. ItemFits e x j t sum) same (subst (λ s. ItemFits e x (suc k) t s) (sym is) (fits k (omega (arith, low, high))))

pub one_owed : (e : Echelon) (x : Fractions) (t item : ℕ) (sum next : ℚ) → 1 ≤ item → sum ≡ owed_to e x t (item - 1) → OwedFitsTo e x t (item - 1) → ItemFits e x item t sum → next ≡ sum +ℚ owed_term e x item t → (next ≡ owed_to e x t (item + 1 - 1)) × OwedFitsTo e x t (item + 1 - 1)
one_owed e x t item sum next low is fits step value =
    let k = item - 1 in
    let same : suc k ≡ item = omega (arith, low) in
    let count : suc k ≡ item + 1 - 1 = omega (arith, low) in
    let here : ItemFits e x (suc k) t (owed_to e x t k) = subst (λ j. ItemFits e x j t (owed_to e x t k)) (sym same) (subst (λ s. ItemFits e x item t s) is step) in
    let total : next ≡ owed_to e x t (suc k) = value ∙ ap (λ s. s +ℚ owed_term e x item t) is ∙ ap (λ j. owed_to e x t k +ℚ owed_term e x j t) (sym same) in (
      total ∙ ap (owed_to e x t) count,
      (λ j less. ⊎_elim
          (λ last. subst (λ i. ItemFits e x (suc i) t (owed_to e x t i)) (sym last) here)
          (λ before. fits j (omega (arith, less, before, count)))
          (cases_eq j k)),
    )

pub all_owed : (e : Echelon) (x : Fractions) (t n : ℕ) (sum : ℚ) → n ≡ e.items → sum ≡ owed_to e x t n → OwedFitsTo e x t n → OwedFits e x t × (sum ≡ owed_part e x t)
all_owed e x t n sum is value fits = (subst (OwedFitsTo e x t) is fits, value ∙ ap (owed_to e x t) is)

-- ---- an echelon that may not be owed
weightless : (e : EchelonItem) (j t : ℕ) → IsEchelonWithinBounds e → e.backlogged ≡ false → 1 ≤ j → j ≤ length e.weights.items → owed_times (echelon_in e) j t ≡ 0
weightless e j t within free low high =
    let E = echelon_in e in
    ⊎_elim
    (λ yes. ⊎_elim
    (λ some. cc (sym free ∙ within.agree.1 (j, low, high, some, owes_back t E.asked.periods (E.back j) yes)))
    (λ none. ap (λ b. if b then E.weight j else 0) yes ∙ below_one (E.weight j) none)
    (cases_lt 0 (E.weight j)))
    (λ no. owed_none E j t no)
    (cases_Bool (owes E j t))
  where
    below_one : (n : ℕ) → n ≤ 0 → n ≡ 0
    below_one n none = omega (arith, none)

pub nothing_owed : (e : EchelonItem) (x : Fractions) (t : ℕ) (sum : ℚ) → IsEchelonWithinBounds e → e.backlogged ≡ false → sum ≡ whole (pos 0) → OwedFits (echelon_in e) x t × (sum ≡ owed_part (echelon_in e) x t)
nothing_owed e x t sum within free is =
    let E = echelon_in e in
    let none : (j : ℕ) → j < E.items → owed_times E (suc j) t ≡ 0 = λ j less. weightless e (suc j) t within free (omega arith) (omega (arith, less)) in (
      (λ j less some. absurd (omega (arith, some, none j less))),
      is ∙ sym (sum-zero rational_ring E.items (λ j. owed_term E x (suc j) t) (λ j less. ap (λ k. whole (pos k) *ℚ x (R (suc j) t)) (none j less) ∙ ring1 rational_ring (λ v. con (pos 0) ⊗ v ⊜ con (pos 0)) refl (x (R (suc j) t)))),
    )

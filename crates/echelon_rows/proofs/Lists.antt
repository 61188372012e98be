-- Lists with a number for each period, as the terms of a row take them.
use Rattle.std.proofs.Common.{◌≡◌, ◌≤◌, ◌+◌, ◌-◌, ◌∙◌, ℕ, zero, suc, refl, ap, arith, List, [], ◌∷◌, ◌++◌, slice_index_or}
use Rattle.std.proofs.lemmas.List.{get_or_default}
use Rattle.lot_sizing.specs.Problem.{AllAtMost}
use Rattle.echelon.specs.Views.{HasEach}
use Rattle.lin_rows.specs.declared.row.Term.{Term}
use Rattle.echelon_rows.specs.Rows.{cells_to, periods_to}

pub each_at_most : (n most : ℕ) (f : ℕ → ℕ) (xs : List ℕ) → HasEach n f xs → ((t : ℕ) → 1 ≤ t → t ≤ n → f t ≤ most) → AllAtMost most xs
each_at_most n most f xs has small k d less =
    let e : k + 1 - 1 ≡ k = omega arith in
    let low : 1 ≤ k + 1 = omega arith in
    let high : k + 1 ≤ n = omega (arith, less, has.size) in
    omega (arith, get_or_default xs k d 0 less, ap (λ j. slice_index_or xs j 0) e, has.each (k + 1) low high, small (k + 1) low high)

-- terms with the same numbers
pub periods_same : (n : ℕ) (f g : ℕ → Term) → ((t : ℕ) → 1 ≤ t → t ≤ n → f t ≡ g t) → periods_to n f ≡ periods_to n g
periods_same zero f g same = refl
periods_same (suc n) f g same = ap (λ ts. ts ++ (f (suc n) ∷ [])) (periods_same n f g (λ t low high. same t low (omega (arith, high)))) ∙ ap (λ a. periods_to n g ++ (a ∷ [])) (same (suc n) (omega arith) (omega arith))

pub cells_same : (n T : ℕ) (f g : ℕ → ℕ → Term) → ((j t : ℕ) → 1 ≤ j → j ≤ n → 1 ≤ t → t ≤ T → f j t ≡ g j t) → cells_to n T f ≡ cells_to n T g
cells_same zero T f g same = refl
cells_same (suc n) T f g same = ap (λ ts. ts ++ periods_to T (f (suc n))) (cells_same n T f g (λ j t low high. same j t low (omega (arith, high)))) ∙ ap (λ ts. cells_to n T g ++ ts) (periods_same T (f (suc n)) (g (suc n)) (λ t low high. same (suc n) t (omega arith) (omega arith) low high))

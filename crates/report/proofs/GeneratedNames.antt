-- Names of generated items.
use Rattle.std.proofs.Common.{◌≡◌, ◌≢◌, ◌≤◌, ◌<◌, ◌∙◌, ⊎_elim, ℕ, zero, suc, List, [], ◌∷◌, Bool, true, false, refl, ap, arith}
use Rattle.std.specs.Prelude.{◌&&◌, decimal}
use Rattle.std.specs.Fmt.{digits}
use Rattle.std.proofs.lemmas.Bool.{cases_eq}
use Rattle.std.proofs.lemmas.Fmt.{decimal_injective}
use Rattle.lot_sizing.specs.Problem.{IsName, is_name}
use Rattle.report.specs.Generated.{item_name, resource_name}

abbrev all_to : ℕ → (ℕ → Bool) → Bool
all_to zero f = true
all_to (suc n) f = f n && all_to n f

pub both_are : (a b : Bool) → (a && b) ≡ true → (a ≡ true) × (b ≡ true)
both_are true true h = (refl, refl)
both_are true false h = absurd (cc h)
both_are false b h = absurd (cc h)

one_of : (n : ℕ) (f : ℕ → Bool) → all_to n f ≡ true → (i : ℕ) → i < n → f i ≡ true
one_of zero f h i less = absurd (omega (arith, less))
one_of (suc n) f h i less =
    let (this, rest) = both_are (f n) (all_to n f) h in
    ⊎_elim (λ e. ap f e ∙ this) (λ other. one_of n f rest i (omega (arith, less, other))) (cases_eq i n)

are_names : all_to 41 (λ i. is_name (item_name i)) ≡ true
unfolding digits
are_names = refl

pub item_named : (i : ℕ) → i ≤ 40 → IsName (item_name i)
item_named i h = one_of 41 (λ i. is_name (item_name i)) are_names i (omega (arith, h))

pub resource_named : IsName resource_name
resource_named = refl

abbrev rest_of : List ℕ → List ℕ
rest_of [] = []
rest_of (x ∷ xs) = xs

pub names_differ : (i j : ℕ) → i < j → j ≤ 40 → item_name i ≢ item_name j
names_differ i j less high same =
    let digits : decimal i ≡ decimal j = ap rest_of same in
    let e = decimal_injective i j (omega (arith, less, high)) (omega (arith, high)) digits in
    omega (arith, less, e)

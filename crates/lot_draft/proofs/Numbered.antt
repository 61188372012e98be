-- The number of a name among others.
use Rattle.std.proofs.Common.{◌≡◌, ◌≤◌, ◌<◌, ◌+◌, ◌∙◌, ℕ, zero, suc, refl, sym, ap, arith, List, [], ◌∷◌, length, take, slice_index_or}
use Rattle.std.specs.Prelude.{Bool, true, false, ◌||◌}
use Rattle.std.specs.Str.{bytes_eq}
use Rattle.std.proofs.lemmas.List.{take_all}
use Rattle.lot_draft.specs.Refusals.{is_among}
use Rattle.lot_draft.specs.Meaning.{number_named_from, number_named}

left_false : (a b : Bool) → (a || b) ≡ false → a ≡ false
left_false true b h = cc h
left_false false b h = refl

right_false : (a b : Bool) → (a || b) ≡ false → b ≡ false
right_false true b h = cc h
right_false false b h = h

met_from : (n : ℕ) (names : List (List ℕ)) (k : ℕ) (x one : List ℕ) → k < length names → slice_index_or names k [] ≡ one → bytes_eq one x ≡ true → is_among (take k names) x ≡ false → number_named_from n names x ≡ n + k
met_from n [] k x one less is same none = absurd (omega (arith, less))
met_from n (name ∷ names) zero x one less is same none =
    let here : bytes_eq name x ≡ true = ap (λ y. bytes_eq y x) is ∙ same in
    let e : n ≡ n + 0 = omega arith in
    rw here e
met_from n (name ∷ names) (suc k) x one less is same none =
    let other : bytes_eq name x ≡ false = left_false (bytes_eq name x) (is_among (take k names) x) none in
    let e : suc n + k ≡ n + suc k = omega arith in
    rw other (met_from (suc n) names k x one (omega (arith, less)) is same (right_false (bytes_eq name x) (is_among (take k names) x) none) ∙ e)

none_from : (n : ℕ) (names : List (List ℕ)) (x : List ℕ) → is_among names x ≡ false → number_named_from n names x ≡ 0
none_from n [] x none = refl
none_from n (name ∷ names) x none =
    let other : bytes_eq name x ≡ false = left_false (bytes_eq name x) (is_among names x) none in
    rw other (none_from (suc n) names x (right_false (bytes_eq name x) (is_among names x) none))

-- the first name that is this one has its number
pub number_met : (names : List (List ℕ)) (k : ℕ) (x one : List ℕ) → k < length names → slice_index_or names k [] ≡ one → bytes_eq one x ≡ true → is_among (take k names) x ≡ false → number_named names x ≡ k + 1
number_met names k x one less is same none = let e : 1 + k ≡ k + 1 = omega arith in met_from 1 names k x one less is same none ∙ e

pub number_none : (names : List (List ℕ)) (k : ℕ) (x : List ℕ) → length names ≤ k → is_among (take k names) x ≡ false → number_named names x ≡ 0
number_none names k x all none = none_from 1 names x (ap (λ ns. is_among ns x) (sym (take_all k names all)) ∙ none)

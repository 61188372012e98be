-- The first fault of a list, member by member.
use Rattle.std.proofs.Common.{◌≡◌, ◌≤◌, ◌<◌, ◌+◌, ◌∙◌, ℕ, zero, suc, refl, sym, ap, subst, arith, List, [], ◌∷◌, length, map, drop, slice_index_or, Option, Some, None}
use Rattle.std.proofs.lemmas.List.{length-map}
use Rattle.lot_draft.specs.declared.fault.ModelFault.{ModelFault}
use Rattle.lot_draft.specs.Refusals.{Fault, first_in, or_then}
use Rattle.lot_draft.proofs.Members.{member_read}

step : {A : Type 0} → (f : ℕ → A → Fault) (n k : ℕ) (d : A) (xs : List A) → k < length xs → first_in f n (drop k xs) ≡ or_then (f n (slice_index_or xs k d)) (first_in f (suc n) (drop (suc k) xs))
step f n zero d [] h = absurd (omega (arith, h))
step f n zero d (x ∷ xs) h = refl
step f n (suc k) d [] h = absurd (omega (arith, h))
step f n (suc k) d (x ∷ xs) h = step f n k d xs (omega (arith, h))

none_left : {A : Type 0} → (f : ℕ → A → Fault) (n k : ℕ) (xs : List A) → length xs ≤ k → first_in f n (drop k xs) ≡ None
none_left f n zero [] h = refl
none_left f n zero (x ∷ xs) h = absurd (omega (arith, h))
none_left f n (suc k) [] h = refl
none_left f n (suc k) (x ∷ xs) h = none_left f n k xs (omega (arith, h))

-- the members from k on decide
abbrev pub IsScan : {A : Type 0} → Fault → (ℕ → A → Fault) → List A → ℕ → Type 0
IsScan whole f xs k = whole ≡ first_in f (suc k) (drop k xs)

pub found : {A : Type 0} → (whole r : Fault) (f : ℕ → A → Fault) (k : ℕ) (d : A) (xs : List A) (x : ModelFault) → IsScan whole f xs k → k < length xs → r ≡ f (suc k) (slice_index_or xs k d) → r ≡ Some x → whole ≡ r
found whole r f k d xs x scan h same is = scan ∙ step f (suc k) k d xs h ∙ ap (λ y. or_then y (first_in f (suc (suc k)) (drop (suc k) xs))) (sym same ∙ is) ∙ sym is

pub passed : {A : Type 0} → (whole r : Fault) (f : ℕ → A → Fault) (k : ℕ) (d : A) (xs : List A) → IsScan whole f xs k → k < length xs → r ≡ f (suc k) (slice_index_or xs k d) → r ≡ None → IsScan whole f xs (suc k)
passed whole r f k d xs scan h same is = scan ∙ step f (suc k) k d xs h ∙ ap (λ y. or_then y (first_in f (suc (suc k)) (drop (suc k) xs))) (sym same ∙ is)

pub ended : {A : Type 0} → (whole : Fault) (f : ℕ → A → Fault) (k : ℕ) (xs : List A) → IsScan whole f xs k → length xs ≤ k → whole ≡ None
ended whole f k xs scan h = scan ∙ none_left f (suc k) k xs h

-- the same of a list of what other members stand for
pub found_in : {A B : Type 0} → (g : A → B) (f : ℕ → B → Fault) (whole r : Fault) (k : ℕ) (xs : List A) (x : A) (m : ModelFault) → IsScan whole f (map g xs) k → k < length xs → x ≡ slice_index_or xs k x → r ≡ f (k + 1) (g x) → r ≡ Some m → Some m ≡ whole
found_in g f whole r k xs x m scan h is same some =
    let e : k + 1 ≡ suc k = omega arith in
    sym (found whole r f k (g x) (map g xs) m scan (omega (arith, h, length-map xs g)) (same ∙ ap (λ n. f n (g x)) e ∙ ap (f (suc k)) (sym (member_read g xs k x (g x) h is))) some ∙ some)

pub passed_in : {A B : Type 0} → (g : A → B) (f : ℕ → B → Fault) (whole r : Fault) (k : ℕ) (xs : List A) (x : A) → IsScan whole f (map g xs) k → k < length xs → x ≡ slice_index_or xs k x → r ≡ f (k + 1) (g x) → r ≡ None → IsScan whole f (map g xs) (k + 1)
passed_in g f whole r k xs x scan h is same none =
    let e : k + 1 ≡ suc k = omega arith in
    subst (IsScan whole f (map g xs)) (sym e) (passed whole r f k (g x) (map g xs) scan (omega (arith, h, length-map xs g)) (same ∙ ap (λ n. f n (g x)) e ∙ ap (f (suc k)) (sym (member_read g xs k x (g x) h is))) none)

-- Lists as they are read, element by element.
use Rattle.std.proofs.Common.{◌≡◌, ◌∙◌, ◌+◌, ◌<◌, ◌≤◌, ℕ, zero, suc, List, [], ◌∷◌, ◌++◌, map, drop, length, slice_index_or, Ok, Err, refl, ap, sym, subst, arith, append_assoc}
use Rattle.std.proofs.lemmas.List.{append-nil, map-append}
use Rattle.toml.specs.Data.{Data}
use Rattle.toml.specs.View.{items_view, view}
use Rattle.toml.specs.declared.value.Value.{Value}
use Rattle.lot_draft.specs.declared.fault.ModelFault.{ModelFault}
use Rattle.instance_reader.specs.Reading.{IsWhyNot, Read, each_read, map_read, then_read}
use Rattle.instance_reader.specs.declared.fault.ReadModelFault.{ReadModelFault}
use Rattle.instance_reader.specs.declared.fault.ReadModelFault.TheVariants.{Refused, Memory}

-- the element at k, and those after it
each_at : {A : Type 0} (one : ℕ → Data → Read A) (n k : ℕ) (d : Value) (xs : List Value) → k < length xs → each_read one n (items_view (drop k xs)) ≡ then_read (one n (view (slice_index_or xs k d))) (λ x. map_read (λ rest. x ∷ rest) (each_read one (suc n) (items_view (drop (suc k) xs))))
each_at one n zero d [] h = absurd (omega (arith, h))
each_at one n zero d (v ∷ xs) h = refl
each_at one n (suc k) d [] h = absurd (omega (arith, h))
each_at one n (suc k) d (v ∷ xs) h = each_at one n k d xs (omega (arith, h))

none_left : {A : Type 0} (one : ℕ → Data → Read A) (n k : ℕ) (xs : List Value) → length xs ≤ k → each_read one n (items_view (drop k xs)) ≡ Ok []
none_left one n zero [] h = refl
none_left one n zero (v ∷ xs) h = absurd (omega (arith, h))
none_left one n (suc k) [] h = refl
none_left one n (suc k) (v ∷ xs) h = none_left one n k xs (omega (arith, h))

-- the first k elements are read as these, and the others are still to come
abbrev pub IsSoFar : {A : Type 0} → (ℕ → Data → Read A) → List A → ℕ → List Value → Type 0
IsSoFar one done k xs = map_read (λ rest. done ++ rest) (each_read one (suc k) (items_view (drop k xs))) ≡ each_read one 1 (items_view xs)

same_read : {A : Type 0} (r : Read (List A)) → map_read (λ rest. [] ++ rest) r ≡ r
same_read (Ok xs) = refl
same_read (Err f) = refl

pub none_so_far : {A : Type 0} (one : ℕ → Data → Read A) (xs : List Value) → IsSoFar one [] 0 xs
none_so_far one xs = same_read (each_read one 1 (items_view xs))

one_more : {A : Type 0} (xs : List A) (x : A) (r : Read (List A)) → map_read (λ rest. xs ++ rest) (map_read (λ rest. x ∷ rest) r) ≡ map_read (λ rest. (xs ++ (x ∷ [])) ++ rest) r
one_more xs x (Ok rest) = ap Ok (sym (append_assoc xs (x ∷ []) rest))
one_more xs x (Err f) = refl

at_k : {A : Type 0} (one : ℕ → Data → Read A) (done : List A) (k : ℕ) (xs : List Value) (v : Value) (r : Read A) → IsSoFar one done k xs → k < length xs → v ≡ slice_index_or xs k v → one (k + 1) (view v) ≡ r → map_read (λ rest. done ++ rest) (then_read r (λ x. map_read (λ rest. x ∷ rest) (each_read one (suc (suc k)) (items_view (drop (suc k) xs))))) ≡ each_read one 1 (items_view xs)
at_k one done k xs v r so_far h is read =
    let next : k + 1 ≡ suc k = omega arith in
    let split = each_at one (suc k) k v xs h in
    let value : one (suc k) (view (slice_index_or xs k v)) ≡ r = ap (λ w. one (suc k) (view w)) (sym is) ∙ (ap (λ n. one n (view v)) (sym next) ∙ read) in
    rw (split, value) at so_far

pub more_so_far : {A : Type 0} (one : ℕ → Data → Read A) (done : List A) (k : ℕ) (xs : List Value) (v : Value) (x : A) → IsSoFar one done k xs → k < length xs → v ≡ slice_index_or xs k v → one (k + 1) (view v) ≡ Ok x → IsSoFar one (done ++ (x ∷ [])) (k + 1) xs
more_so_far one done k xs v x so_far h is read =
    let next : k + 1 ≡ suc k = omega arith in
    subst (λ n. IsSoFar one (done ++ (x ∷ [])) n xs) (sym next) (sym (one_more done x (each_read one (suc (suc k)) (items_view (drop (suc k) xs)))) ∙ at_k one done k xs v (Ok x) so_far h is read)

pub stopped : {A : Type 0} (one : ℕ → Data → Read A) (done : List A) (k : ℕ) (xs : List Value) (v : Value) (f : ModelFault) → IsSoFar one done k xs → k < length xs → v ≡ slice_index_or xs k v → one (k + 1) (view v) ≡ Err f → each_read one 1 (items_view xs) ≡ Err f
stopped one done k xs v f so_far h is read = sym (at_k one done k xs v (Err f) so_far h is read)

pub all_read : {A : Type 0} (one : ℕ → Data → Read A) (done : List A) (k : ℕ) (xs : List Value) → IsSoFar one done k xs → length xs ≤ k → each_read one 1 (items_view xs) ≡ Ok done
all_read one done k xs so_far h = sym (rw (none_left one (suc k) k xs h, append-nil done) at so_far)

-- the same of what other elements stand for
pub more_mapped : {A B : Type 0} (g : B → A) (one : ℕ → Data → Read A) (done : List B) (k : ℕ) (xs : List Value) (v : Value) (y : B) → IsSoFar one (map g done) k xs → k < length xs → v ≡ slice_index_or xs k v → one (k + 1) (view v) ≡ Ok (g y) → IsSoFar one (map g (done ++ (y ∷ []))) (k + 1) xs
more_mapped g one done k xs v y so_far h is read = rw (map-append g done (y ∷ [])) (more_so_far one (map g done) k xs v (g y) so_far h is read)

-- an element that isn't read is why the list isn't
pub why_not : {A : Type 0} (one : ℕ → Data → Read A) (done : List A) (k n : ℕ) (xs : List Value) (v : Value) (e : ReadModelFault) → IsSoFar one done k xs → k < length xs → v ≡ slice_index_or xs k v → n ≡ k + 1 → IsWhyNot (one n (view v)) e → IsWhyNot (each_read one 1 (items_view xs)) e
why_not one done k n xs v (Refused f) so_far h is at why = stopped one done k xs v f so_far h is (ap (λ m. one m (view v)) (sym at) ∙ why)
why_not one done k n xs v Memory so_far h is at why = tt

-- A library of lists of lists: rows of lists that a `Vec` owns or lends, one appended, read or replaced.
use Rattle.std.proofs.Common.{◌≡◌, ◌≤◌, ◌<◌, ◌+◌, ◌-◌, ◌∙◌, ℕ, sym, ap, arith, List, [], ◌∷◌, ◌++◌, length, map, slice_index_or, slice_set, Vec, Global, Bor}
use Rattle.std.proofs.lemmas.List.{get_or_append_left, get_or_push, get_or_default, length-map, map-append, map-set, get_or-set_same, get_or-set_other}
use Rattle.std.proofs.Math.ListN.{get_or-map}

abbrev pub rows_of : {X : Type 0} → List (Vec X Global) → List (List X)
rows_of vs = map (λ v. v.items) vs

-- as many rows as lists
pub row_count : {X : Type 0} → (vs : List (Vec X Global)) → length (rows_of vs) ≡ length vs
row_count vs = length-map vs (λ v. v.items)

-- rows stay where one more is appended
pub row_kept : {X : Type 0} → (vs : List (Vec X Global)) (v : Vec X Global) (j : ℕ) → 1 ≤ j → j ≤ length vs → slice_index_or (rows_of (vs ++ v ∷ [])) (j - 1) [] ≡ slice_index_or (rows_of vs) (j - 1) []
row_kept vs v j low high = ap (λ xs. slice_index_or xs (j - 1) []) (map-append (λ w. w.items) vs (v ∷ [])) ∙ get_or_append_left (rows_of vs) (v.items ∷ []) [] (j - 1) (omega (arith, row_count vs, low, high))

-- the row that was appended
pub row_new : {X : Type 0} → (vs : List (Vec X Global)) (v : Vec X Global) (j : ℕ) → j ≡ length vs + 1 → slice_index_or (rows_of (vs ++ v ∷ [])) (j - 1) [] ≡ v.items
row_new vs v j at = ap (λ xs. slice_index_or xs (j - 1) []) (map-append (λ w. w.items) vs (v ∷ [])) ∙ get_or_push (rows_of vs) v.items [] (j - 1) (omega (arith, row_count vs, at))

-- a row as it is read
pub row_read : {X : Type 0} → (vs : List (Vec X Global)) (j : ℕ) (v : Vec X Global) (read : List X) → 1 ≤ j → j ≤ length vs → v ≡ slice_index_or vs (j - 1) v → read ≡ v.items → read ≡ slice_index_or (rows_of vs) (j - 1) []
row_read vs j v read low high is same = same ∙ ap (λ w. w.items) is ∙ sym (get_or-map (λ w. w.items) vs (j - 1) v) ∙ get_or_default (rows_of vs) (j - 1) v.items [] (omega (arith, row_count vs, low, high))

-- the row that was replaced
pub row_set_here : {X : Type 0} → (vs : List (Vec X Global)) (j : ℕ) (v : Vec X Global) → 1 ≤ j → j ≤ length vs → slice_index_or (rows_of (slice_set vs (j - 1) v)) (j - 1) [] ≡ v.items
row_set_here vs j v low high = ap (λ xs. slice_index_or xs (j - 1) []) (map-set (λ w. w.items) vs (j - 1) v) ∙ get_or-set_same (rows_of vs) (j - 1) v.items [] (omega (arith, row_count vs, low, high))

-- rows stay where another one is replaced
pub row_set_other : {X : Type 0} → (vs : List (Vec X Global)) (j k : ℕ) (v : Vec X Global) → 1 ≤ j → 1 ≤ k → (k ≡ j → ⊥) → slice_index_or (rows_of (slice_set vs (j - 1) v)) (k - 1) [] ≡ slice_index_or (rows_of vs) (k - 1) []
row_set_other vs j k v low k_low apart = ap (λ xs. slice_index_or xs (k - 1) []) (map-set (λ w. w.items) vs (j - 1) v) ∙ get_or-set_other (rows_of vs) (j - 1) (k - 1) v.items [] (λ same. apart (omega (arith, same, low, k_low)))

-- a row, whatever is read past the end
pub row_at_any : {X : Type 0} → (vs : List (Vec X Global)) (j : ℕ) (d : Vec X Global) → 1 ≤ j → j ≤ length vs → (slice_index_or vs (j - 1) d).items ≡ slice_index_or (rows_of vs) (j - 1) []
row_at_any vs j d low high = sym (get_or-map (λ w. w.items) vs (j - 1) d) ∙ get_or_default (rows_of vs) (j - 1) d.items [] (omega (arith, row_count vs, low, high))

-- a row of lists that are lent
pub lent_read : {X : Type 0} → (vs : List (Bor (List X))) (k : ℕ) (d : Bor (List X)) → k < length vs → (slice_index_or vs k d).now ≡ slice_index_or (map (λ r. r.now) vs) (k + 1 - 1) []
lent_read vs k d less =
    let e : k ≡ k + 1 - 1 = omega arith in
    sym (get_or-map (λ r. r.now) vs k d) ∙ get_or_default (map (λ r. r.now) vs) k d.now [] (omega (arith, less, length-map vs (λ r. r.now))) ∙ ap (λ n. slice_index_or (map (λ r. r.now) vs) n []) e

-- Distinct names that are all known are no more than the known ones.
use Rattle.std.proofs.Common.{◌≡◌, ◌≤◌, ◌<◌, ◌+◌, ◌∙◌, ⊎_elim, ℕ, zero, suc, refl, sym, ap, arith, List, [], ◌∷◌, length, take, slice_index_or}
use Rattle.std.specs.Prelude.{Bool, true, false, ◌||◌, if◌then◌else◌}
use Rattle.std.specs.Str.{bytes_eq}
use Rattle.std.specs.List.{sum_by}
use Rattle.std.proofs.lemmas.Bool.{cases_Bool}
use Rattle.std.proofs.lemmas.Slice.Eq.{bytes_eq-Decides}
use Rattle.lot_draft.specs.Refusals.{is_among}
use Rattle.lot_draft.proofs.Members.{among_more}

abbrev pub one_if : Bool → ℕ
one_if true = 1
one_if false = 0

-- how many of the names stand among these
abbrev pub known_in : List (List ℕ) → List (List ℕ) → ℕ
known_in lines [] = 0
known_in lines (name ∷ names) = one_if (is_among lines name) + known_in lines names

one_if_le : (b : Bool) → one_if b ≤ 1
one_if_le true = omega arith
one_if_le false = omega arith

one_if_or : (a b : Bool) → one_if a ≤ one_if (a || b)
one_if_or true b = omega arith
one_if_or false b = omega arith

one_if_new : (a b : Bool) → a ≡ false → b ≡ true → one_if a + 1 ≤ one_if (a || b)
one_if_new true b e h = cc e
one_if_new false true e h = omega arith
one_if_new false false e h = cc h

pub known_few : (lines names : List (List ℕ)) → known_in lines names ≤ length names
known_few lines [] = let e : known_in lines [] ≡ 0 = refl in omega (arith, e)
known_few lines (name ∷ names) = omega (arith, known_few lines names, one_if_le (is_among lines name))

-- these are the lines and one more
abbrev IsMore : List (List ℕ) → List (List ℕ) → List ℕ → Type 0
IsMore lines more x = (name : List ℕ) → is_among more name ≡ (is_among lines name || bytes_eq x name)

known_rises : (lines more : List (List ℕ)) (x : List ℕ) → IsMore lines more x → (names : List (List ℕ)) → known_in lines names ≤ known_in more names
known_rises lines more x is [] = let e : known_in lines [] ≡ 0 = refl in omega (arith, e)
known_rises lines more x is (name ∷ names) = omega (arith, known_rises lines more x is names, one_if_or (is_among lines name) (bytes_eq x name), ap one_if (is name))

same_name : (name x : List ℕ) → bytes_eq name x ≡ true → bytes_eq x name ≡ true
same_name name x h = (bytes_eq-Decides x name).1 (sym ((bytes_eq-Decides name x).0 h))

among_rest : (a b : Bool) → a ≡ false → (a || b) ≡ true → b ≡ true
among_rest true b e h = cc e
among_rest false b e h = h

known_grows : (lines more : List (List ℕ)) (x : List ℕ) → IsMore lines more x → is_among lines x ≡ false → (names : List (List ℕ)) → is_among names x ≡ true → known_in lines names + 1 ≤ known_in more names
known_grows lines more x is new [] h = cc h
known_grows lines more x is new (name ∷ names) h =
    ⊎_elim
    (λ same. let eq = (bytes_eq-Decides name x).0 same in omega (arith, known_rises lines more x is names, one_if_new (is_among lines name) (bytes_eq x name) (ap (is_among lines) eq ∙ new) (same_name name x same), ap one_if (is name)))
    (λ other. omega (arith, known_grows lines more x is new names (among_rest (bytes_eq name x) (is_among names x) other h), one_if_or (is_among lines name) (bytes_eq x name), ap one_if (is name)))
    (cases_Bool (bytes_eq name x))

-- one more line of a known name that is new
pub known_next : (lines names : List (List ℕ)) (k : ℕ) (x : List ℕ) → k < length lines → slice_index_or lines k [] ≡ x → is_among (take k lines) x ≡ false → is_among names x ≡ true → k ≤ known_in (take k lines) names → k + 1 ≤ known_in (take (k + 1) lines) names
known_next lines names k x h is new known so_far =
    omega (arith, so_far, known_grows (take k lines) (take (k + 1) lines) x (λ name. among_more lines k name h ∙ ap (λ y. is_among (take k lines) name || bytes_eq y name) is) new names known)

-- What is needed next, and what is left after it.
use Rattle.std.proofs.Common.{◌≡◌, ◌≤◌, ◌<◌, ◌∙◌, ℕ, zero, suc, refl, sym, ap, arith, length, true, false, List, [], ◌∷◌, ◌++◌, append_assoc, Bool, set, slice_index_or, take}
use Rattle.std.specs.Prelude.{IsTrue, not, replicate}
use Rattle.certificate.specs.Dues.{Due, a_cut, a_group, a_list, a_part, a_tree, row_dues}
use Rattle.certificate.specs.Stacks.{last_dues, trees_before}

-- by its numbers
abbrev pub dues_of : ℕ → ℕ → ℕ → ℕ → List ℕ → Bool → List Due
dues_of parts lists groups cuts trees end = replicate parts a_part ++ (replicate lists a_list ++ (replicate groups a_group ++ (replicate cuts a_cut ++ trees_before trees (last_dues end))))

-- trees and the end alone
abbrev pub trees_of : List ℕ → Bool → List Due
trees_of trees end = trees_before trees (last_dues end)

-- nothing but the trees and the end
pub none_before : (p l g c : ℕ) (t : List ℕ) (e : Bool) → p ≡ 0 → l ≡ 0 → g ≡ 0 → c ≡ 0 → dues_of p l g c t e ≡ trees_of t e
none_before p l g c t e parts lists groups cuts = rw (parts, lists, groups, cuts) refl

trees_push : (trees : List ℕ) (above : ℕ) (rest : List Due) → trees_before (trees ++ above ∷ []) rest ≡ a_tree above ∷ trees_before trees rest
trees_push [] above rest = refl
trees_push (b ∷ trees) above rest = trees_push trees above (a_tree b ∷ rest)

-- the first need, and the rest
pub tree_first : (p l g c : ℕ) (t u : List ℕ) (above : ℕ) (e : Bool) → p ≡ 0 → l ≡ 0 → g ≡ 0 → c ≡ 0 → u ≡ t ++ above ∷ [] → dues_of p l g c u e ≡ a_tree above ∷ dues_of p l g c t e
tree_first p l g c t u above e parts lists groups cuts is =
    none_before p l g c u e parts lists groups cuts ∙ ap (λ x. trees_of x e) is ∙ trees_push t above (last_dues e) ∙ ap (λ ns. a_tree above ∷ ns) (sym (none_before p l g c t e parts lists groups cuts))

-- the last element of a list and those before it
pub last_is : (xs : List ℕ) (k : ℕ) (d : ℕ) → length xs ≡ suc k → xs ≡ take k xs ++ slice_index_or xs k d ∷ []
last_is [] k d is = cc is
last_is (x ∷ []) zero d is = refl
last_is (x ∷ y ∷ xs) zero d is = absurd (omega (arith, is))
last_is (x ∷ xs) (suc k) d is = ap (λ l. x ∷ l) (last_is xs k d (omega (arith, is)))

-- one is put at the end, and the one before it is changed
pub last_set : (xs : List ℕ) (k a b : ℕ) → length xs ≡ suc k → set (xs ++ b ∷ []) k a ≡ (take k xs ++ a ∷ []) ++ b ∷ []
last_set [] k a b is = cc is
last_set (x ∷ []) zero a b is = refl
last_set (x ∷ y ∷ xs) zero a b is = absurd (omega (arith, is))
last_set (x ∷ xs) (suc k) a b is = ap (λ l. x ∷ l) (last_set xs k a b (omega (arith, is)))

-- the last tree is needed first
pub last_first : (p l g c : ℕ) (t : List ℕ) (k d : ℕ) (e : Bool) → p ≡ 0 → l ≡ 0 → g ≡ 0 → c ≡ 0 → length t ≡ suc k → dues_of p l g c t e ≡ a_tree (slice_index_or t k d) ∷ dues_of p l g c (take k t) e
last_first p l g c t k d e parts lists groups cuts is = tree_first p l g c (take k t) t (slice_index_or t k d) e parts lists groups cuts (last_is t k d is)

-- what a leaf over reduced costs needs comes first
pub rows_first : (p l g : ℕ) (a b c d : ℕ) (t : List ℕ) (e : Bool) → a ≡ 0 → b ≡ 0 → c ≡ 0 → d ≡ 0 → row_dues p l g ++ dues_of a b c d t e ≡ dues_of p l g d t e
rows_first p l g a b c d t e parts lists groups cuts =
    ap (λ ns. row_dues p l g ++ ns) (none_before a b c d t e parts lists groups cuts) ∙ append_assoc (replicate p a_part) (replicate l a_list ++ replicate g a_group) (trees_of t e)
    ∙ ap (λ ns. replicate p a_part ++ ns) (append_assoc (replicate l a_list) (replicate g a_group) (trees_of t e)) ∙ ap (λ x. replicate p a_part ++ (replicate l a_list ++ (replicate g a_group ++ (replicate x a_cut ++ trees_of t e)))) (sym cuts)

-- nothing is needed
some_first : (n : ℕ) (due : Due) (rest : List Due) → 0 < n → replicate n due ++ rest ≡ [] → ⊥
some_first zero due rest some none = omega (arith, some)
some_first (suc n) due rest some none = cc none

pub some_part : (p l g c : ℕ) (t : List ℕ) (e : Bool) → 0 < p → dues_of p l g c t e ≡ [] → ⊥
some_part p l g c t e some none = some_first p a_part _ some none

pub some_list : (p l g c : ℕ) (t : List ℕ) (e : Bool) → p ≡ 0 → 0 < l → dues_of p l g c t e ≡ [] → ⊥
some_list p l g c t e parts some none = some_first l a_list _ some (sym (ap (λ x. dues_of x l g c t e) parts) ∙ none)

pub some_group : (p l g c : ℕ) (t : List ℕ) (e : Bool) → p ≡ 0 → l ≡ 0 → 0 < g → dues_of p l g c t e ≡ [] → ⊥
some_group p l g c t e parts lists some none = some_first g a_group _ some (sym (ap (λ x. dues_of x l g c t e) parts ∙ ap (λ x. dues_of 0 x g c t e) lists) ∙ none)

pub some_cut : (p l g c : ℕ) (t : List ℕ) (e : Bool) → p ≡ 0 → l ≡ 0 → g ≡ 0 → 0 < c → dues_of p l g c t e ≡ [] → ⊥
some_cut p l g c t e parts lists groups some none = some_first c a_cut _ some (sym (ap (λ x. dues_of x l g c t e) parts ∙ ap (λ x. dues_of 0 x g c t e) lists ∙ ap (λ x. dues_of 0 0 x c t e) groups) ∙ none)

before_some : (trees : List ℕ) (due : Due) (rest : List Due) → trees_before trees (due ∷ rest) ≡ [] → ⊥
before_some [] due rest none = cc none
before_some (above ∷ trees) due rest none = before_some trees (a_tree above) (due ∷ rest) none

pub some_tree : (p l g c : ℕ) (t : List ℕ) (e : Bool) → p ≡ 0 → l ≡ 0 → g ≡ 0 → c ≡ 0 → 0 < length t → dues_of p l g c t e ≡ [] → ⊥
some_tree p l g c [] e parts lists groups cuts some none = omega (arith, some)
some_tree p l g c (above ∷ t) e parts lists groups cuts some none = before_some t (a_tree above) (last_dues e) (sym (none_before p l g c (above ∷ t) e parts lists groups cuts) ∙ none)

pub all_met : (p l g c : ℕ) (t : List ℕ) (e : Bool) → p ≡ 0 → l ≡ 0 → g ≡ 0 → c ≡ 0 → length t ≤ 0 → (IsTrue (not e) → dues_of p l g c t e ≡ []) × (dues_of p l g c t e ≡ [] → IsTrue (not e))
all_met p l g c (above ∷ t) e parts lists groups cuts none = absurd (omega (arith, none))
all_met p l g c [] true parts lists groups cuts none = (λ no. cc no, λ met. cc (sym (none_before p l g c [] true parts lists groups cuts) ∙ met))
all_met p l g c [] false parts lists groups cuts none = (λ _. none_before p l g c [] false parts lists groups cuts, λ _. refl)

-- Lists of a leaf: the parts that they stand for, and the first that may not be taken.
use Rattle.std.proofs.Common.{◌≡◌, ◌∙◌, ◌<◌, ◌≤◌, ◌+◌, ◌-◌, ⊎_elim, ℕ, zero, suc, inl, inr, sym, ap, subst, arith, List, [], ◌∷◌, ◌++◌, append_assoc, append-nil, length, map, slice_index_or, take}
use Rattle.std.specs.Prelude.{ℤ}
use Rattle.std.specs.List.{All, flat_map}
use Rattle.std.proofs.lemmas.Bool.{cases_order}
use Rattle.std.proofs.lemmas.Grind.{flat_map-append}
use Rattle.std.proofs.lemmas.List.{get_or-map, get_or-take, length-take-le, take_more}
use Rattle.std.proofs.lemmas.List.Elements.{All-cons, All-get_or, All-head, All-more, All-nil, All-tail, All-append}
use Rattle.cert_lines.specs.declared.parts.ListKind.{ListKind}
use Rattle.cert_lines.specs.declared.parts.Part.{Part}
use Rattle.cert_lines.specs.declared.parts.PartList.{PartList}
use Rattle.cert_lines.specs.Shapes.{ListShape, list_shape}
use Rattle.cert_meaning.specs.Named.{Named}
use Rattle.cert_meaning.specs.Parts.{AreParts, IsPart}
use Rattle.cert_meaning.specs.Lists.{AreListed, HasEach, all_parts, list_row, parts_from, parts_of_list}
use Rattle.cert_checker.specs.declared.fault.Why.{Why}
use Rattle.cert_checker.specs.Laws.{IsSameFault}
use Rattle.cert_checker.specs.Leaves.{IsFirstWrongList, IsList, IsWrongList, no_list}
use Rattle.cert_checker.proofs.SumNever.{no_first_wrong}
use Rattle.cert_checker.proofs.SumOnce.{one_first}

-- ---- the parts of the first periods of a list
abbrev part_at : ListKind → (index t : ℕ) → ℤ → Part
part_at kind index t z = record { row = list_row kind index t; times = z }

from_more : (kind : ListKind) (index t : ℕ) (times : List ℤ) (k : ℕ) (d : ℤ) → k < length times → parts_from kind index t (take (suc k) times) ≡ parts_from kind index t (take k times) ++ (part_at kind index (t + k) (slice_index_or times k d) ∷ [])
from_more kind index t [] k d less = absurd (omega (arith, less))
from_more kind index t (z ∷ times) zero d less =
    let same : t ≡ t + 0 = omega arith in
    ap (λ u. part_at kind index u z ∷ []) same
from_more kind index t (z ∷ times) (suc k) d less =
    let same : t + 1 + k ≡ t + suc k = omega arith in
    ap (λ ps. part_at kind index t z ∷ ps)
    (from_more kind index (t + 1) times k d (omega (arith, less)) ∙ ap (λ u. parts_from kind index (t + 1) (take k times) ++ (part_at kind index u (slice_index_or times k d) ∷ [])) same)

-- those of the periods before one are there, and its own part is added
pub parts_more : (kind : ListKind) (index t : ℕ) (times : List ℤ) (new old : List Part) (part : Part) (d : ℤ) → 1 ≤ t → t ≤ length times → old ≡ parts_from kind index 1 (take (t - 1) times) → part ≡ record { row = list_row kind index t; times = slice_index_or times (t - 1) d } → new ≡ old ++ (part ∷ []) → new ≡ parts_from kind index 1 (take t times)
parts_more kind index t times new old part d low high were is added =
    let k = t - 1 in
    let here : 1 + k ≡ t = omega (arith, low) in
    let next : suc k ≡ t = omega (arith, low) in
    added
    ∙ ap (λ ps. ps ++ (part ∷ [])) were
    ∙ ap (λ p. parts_from kind index 1 (take k times) ++ (p ∷ [])) (is ∙ ap (λ u. part_at kind index u (slice_index_or times k d)) (sym here))
    ∙ sym (from_more kind index 1 times k d (omega (arith, low, high)))
    ∙ ap (λ u. parts_from kind index 1 (take u times)) next

-- ---- parts and lists together
all_left : {X : Type 0} (P : X → Type 0) (xs ys : List X) → All P (xs ++ ys) → All P xs
all_left P [] ys are = All-nil P
all_left P (x ∷ xs) ys are = All-cons P x xs (All-head P x (xs ++ ys) are) (all_left P xs ys (All-tail P x (xs ++ ys) are))

all_right : {X : Type 0} (P : X → Type 0) (xs ys : List X) → All P (xs ++ ys) → All P ys
all_right P [] ys are = are
all_right P (x ∷ xs) ys are = all_right P xs ys (All-tail P x (xs ++ ys) are)

lists_of : (n : Named) (lists : List ListShape) → AreParts n (flat_map parts_of_list lists) → All (HasEach n) lists → All (IsList n) lists
lists_of n [] are each = All-nil (IsList n)
lists_of n (a ∷ lists) are each =
    All-cons (IsList n) a lists
    (record { each = All-head (HasEach n) a lists each; parts_exist = all_left (IsPart n) (parts_of_list a) (flat_map parts_of_list lists) are })
    (lists_of n lists (all_right (IsPart n) (parts_of_list a) (flat_map parts_of_list lists) are) (All-tail (HasEach n) a lists each))

pub listed_parts : (n : Named) (parts : List Part) (lists : List ListShape) → AreListed n parts lists → AreParts n parts
listed_parts n parts lists are = all_left (IsPart n) parts (flat_map parts_of_list lists) are.parts_exist

pub listed_lists : (n : Named) (parts : List Part) (lists : List ListShape) → AreListed n parts lists → All (IsList n) lists
listed_lists n parts lists are = lists_of n lists (all_right (IsPart n) parts (flat_map parts_of_list lists) are.parts_exist) are.each

each_of : (n : Named) (lists : List ListShape) → All (IsList n) lists → All (HasEach n) lists
each_of n [] are = All-nil (HasEach n)
each_of n (a ∷ lists) are = All-cons (HasEach n) a lists (All-head (IsList n) a lists are).each (each_of n lists (All-tail (IsList n) a lists are))

parts_in : (n : Named) (lists : List ListShape) → All (IsList n) lists → AreParts n (flat_map parts_of_list lists)
parts_in n [] are = All-nil (IsPart n)
parts_in n (a ∷ lists) are =
    All-append (IsPart n) (parts_of_list a) (flat_map parts_of_list lists) (All-head (IsList n) a lists are).parts_exist (parts_in n lists (All-tail (IsList n) a lists are))

pub listed : (n : Named) (parts : List Part) (lists : List ListShape) → AreParts n parts → All (IsList n) lists → AreListed n parts lists
listed n parts lists are also = record {
  parts_exist = All-append (IsPart n) parts (flat_map parts_of_list lists) are (parts_in n lists also);
  each = each_of n lists also;
}

-- one list more
pub all_more : (parts : List Part) (lists : List ListShape) (k : ℕ) (a : ListShape) (new old more : List Part) → k < length lists → slice_index_or lists k no_list ≡ a → old ≡ all_parts parts (take k lists) → more ≡ parts_of_list a → new ≡ old ++ more → new ≡ all_parts parts (take (k + 1) lists)
all_more parts lists k a new old more less here were is added =
    let b = slice_index_or lists k no_list in
    added
    ∙ ap (λ ps. ps ++ more) were
    ∙ ap (λ ps. (parts ++ flat_map parts_of_list (take k lists)) ++ ps) (is ∙ ap parts_of_list (sym here))
    ∙ append_assoc parts (flat_map parts_of_list (take k lists)) (parts_of_list b)
    ∙ ap (λ ps. parts ++ ps)
    (ap (λ ps. flat_map parts_of_list (take k lists) ++ ps) (sym (append-nil (parts_of_list b)))
    ∙ sym (flat_map-append parts_of_list (take k lists) (b ∷ []))
    ∙ ap (flat_map parts_of_list) (sym (take_more lists k no_list less)))

pub lists_more : (n : Named) (lists : List ListShape) (k : ℕ) (a : ListShape) → k < length lists → slice_index_or lists k no_list ≡ a → All (IsList n) (take k lists) → IsList n a → All (IsList n) (take (k + 1) lists)
lists_more n lists k a less here are is = All-more (IsList n) lists k no_list less are (subst (IsList n) (sym here) is)

-- ---- the shapes of the lists that a program has
pub shape_of_list : (lists : List PartList) (k : ℕ) (a : PartList) → k < length lists → a ≡ slice_index_or lists k a → slice_index_or (map list_shape lists) k no_list ≡ list_shape a
shape_of_list lists k a less is = get_or-map list_shape lists k a no_list less ∙ ap list_shape (sym is)

-- ---- lists that may not be taken
no_wrong_list : (n : Named) (a : ListShape) (w : Why) → IsList n a → IsWrongList n a w → ⊥
no_wrong_list n a w is (inl wrong) = wrong.1 is.each
no_wrong_list n a w is (inr wrong) = no_first_wrong n (parts_of_list a) 0 wrong.1 w is.parts_exist wrong.2

pub no_first_wrong_list : (n : Named) (lists : List ListShape) (line at : ℕ) (w : Why) → All (IsList n) lists → IsFirstWrongList n lists line at w → ⊥
no_first_wrong_list n lists line at w are first =
    no_wrong_list n (slice_index_or lists first.place no_list) w (All-get_or (IsList n) lists first.place no_list first.exists are) first.wrong

-- the list at a place is the first that may not be taken
pub wrong_at : (n : Named) (lists : List ListShape) (line at : ℕ) (w : Why) (k : ℕ) (a : ListShape) → k < length lists → slice_index_or lists k no_list ≡ a → All (IsList n) (take k lists) → at ≡ line + 1 + k → IsWrongList n a w → IsFirstWrongList n lists line at w
wrong_at n lists line at w k a less here are number wrong = record {
  place = k;
  exists = less;
  before = are;
  wrong = subst (λ b. IsWrongList n b w) (sym here) wrong;
  number = number;
}

-- a list is refused for one cause
one_wrong_list : (n : Named) (a : ListShape) (w v : Why) → IsWrongList n a w → IsWrongList n a v → w ≡ v
one_wrong_list n a w v (inl x) (inl y) = x.0 ∙ sym y.0
one_wrong_list n a w v (inl x) (inr y) = absurd (x.1 y.0)
one_wrong_list n a w v (inr x) (inl y) = absurd (y.1 x.0)
one_wrong_list n a w v (inr x) (inr y) = (one_first n (parts_of_list a) 0 x.1 y.1 w v x.2 y.2).1

none_before : (n : Named) (lists : List ListShape) (k j : ℕ) (w : Why) → All (IsList n) (take k lists) → j < k → k < length lists → IsWrongList n (slice_index_or lists j no_list) w → ⊥
none_before n lists k j w are less within wrong =
    let few : k ≤ length lists = omega (arith, within) in
    let in_front : j < length (take k lists) = omega (arith, less, length-take-le k lists few) in
    let is : IsList n (slice_index_or lists j no_list) = subst (IsList n) (get_or-take k lists j no_list less) (All-get_or (IsList n) (take k lists) j no_list in_front are) in
    no_wrong_list n (slice_index_or lists j no_list) w is wrong

pub one_first_list : (n : Named) (lists : List ListShape) (line at other : ℕ) (w v : Why) → IsFirstWrongList n lists line at w → IsFirstWrongList n lists line other v → IsSameFault at w other v
one_first_list n lists line at other w v a b =
    ⊎_elim
    (λ same. (
      a.number ∙ ap (λ k. line + 1 + k) same ∙ sym b.number,
      one_wrong_list n (slice_index_or lists b.place no_list) w v (subst (λ k. IsWrongList n (slice_index_or lists k no_list) w) same a.wrong) b.wrong,
    ))
    (⊎_elim
    (λ sooner. absurd (none_before n lists b.place a.place w b.before sooner b.exists a.wrong))
    (λ later. absurd (none_before n lists a.place b.place v a.before later a.exists b.wrong)))
    (cases_order a.place b.place)

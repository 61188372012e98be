-- Lists of groups of which no item is in two places.
use Rattle.std.proofs.Common.{◌≡◌, ◌≤◌, ◌<◌, ◌+◌, ◌∙◌, ⊎_elim, ℕ, zero, suc, refl, sym, ap, subst, arith, List, [], ◌∷◌, ◌++◌, length, slice_index_or, take}
use Rattle.std.specs.Prelude.{map}
use Rattle.std.specs.List.{All}
use Rattle.std.proofs.lemmas.Bool.{cases_lt}
use Rattle.std.proofs.lemmas.List.{get_or_default, take_more}
use Rattle.std.proofs.lemmas.List.Elements.{All-append, All-cons, All-head, All-nil, All-tail}
use Rattle.lot_sizing.specs.Problem.{Problem, item_count}
use Rattle.item_groups.specs.declared.group.Group.{Group}
use Rattle.reduced_groups.specs.Groups.{GroupShape}
use Rattle.reduced_groups.specs.Apart.{IsGroupOf, IsItem, LieApart, items_in, times_in, times_of}
use Rattle.reduced_groups.specs.Floors.{AreGroupsOf, AreOnceTo, no_group, shape_of}
use Rattle.reduced_groups.proofs.Items.{other_none}

-- an item that the problem hasn't is in no place
none_of : (m : Problem) (items : List ℕ) (i : ℕ) → All (IsItem m) items → (IsItem m i → ⊥) → times_of items i ≡ 0
none_of m [] i are lacks = refl
none_of m (k ∷ items) i are lacks =
    omega (arith, other_none k i (λ e. lacks (subst (IsItem m) e (All-head (IsItem m) k items are))), none_of m items i (All-tail (IsItem m) k items are) lacks)

none_in : (m : Problem) (shapes : List GroupShape) (i : ℕ) → All (IsGroupOf m) shapes → (IsItem m i → ⊥) → times_in shapes i ≡ 0
none_in m [] i are lacks = refl
none_in m (s ∷ shapes) i are lacks =
    omega (arith, none_of m (items_in s) i (All-head (IsGroupOf m) s shapes are).items lacks, none_in m shapes i (All-tail (IsGroupOf m) s shapes are) lacks)

pub lie_apart : (m : Problem) (shapes : List GroupShape) → All (IsGroupOf m) shapes → AreOnceTo (item_count m) shapes → LieApart m shapes
lie_apart m shapes are once = record {
  groups = are;
  once = λ i. ⊎_elim
      (λ some. ⊎_elim
      (λ past. omega (arith, none_in m shapes i are (λ item. omega (arith, item.1, past))))
      (λ within. once i (omega (arith, some)) (omega (arith, within)))
      (cases_lt (item_count m) i))
      (λ none. omega (arith, none_in m shapes i are (λ item. omega (arith, item.0, none))))
      (cases_lt 0 i);
}

pub first_item : (m : Problem) (i : ℕ) (rest : List ℕ) → All (IsItem m) (i ∷ rest) → IsItem m i
first_item m i rest are = All-head (IsItem m) i rest are

pub second_item : (m : Problem) (i j : ℕ) (rest : List ℕ) → All (IsItem m) (i ∷ (j ∷ rest)) → IsItem m j
second_item m i j rest are = All-head (IsItem m) j rest (All-tail (IsItem m) i (j ∷ rest) are)

pub third_item : (m : Problem) (i j k : ℕ) (rest : List ℕ) → All (IsItem m) (i ∷ (j ∷ (k ∷ rest))) → IsItem m k
third_item m i j k rest are = All-head (IsItem m) k rest (All-tail (IsItem m) j (k ∷ rest) (All-tail (IsItem m) i (j ∷ (k ∷ rest)) are))

-- one group more
pub all_next : (m : Problem) (groups : List Group) (k : ℕ) (g : Group) → k < length groups → g ≡ slice_index_or groups k g → AreGroupsOf m (take k groups) → IsGroupOf m (shape_of g) → AreGroupsOf m (take (k + 1) groups)
all_next m groups k g less is before here =
    let P = λ (h : Group). IsGroupOf m (shape_of h) in
    subst (All P) (sym (take_more groups k g less ∙ ap (λ x. take k groups ++ x ∷ []) (sym is))) (All-append P (take k groups) (g ∷ []) before (All-cons P g [] here (All-nil P)))

pub first_other : (m : Problem) (groups : List Group) (k : ℕ) (g : Group) → k < length groups → g ≡ slice_index_or groups k g → (IsGroupOf m (shape_of g) → ⊥) → IsGroupOf m (shape_of (slice_index_or groups k no_group)) → ⊥
first_other m groups k g less is other here =
    let e : slice_index_or groups k no_group ≡ g = get_or_default groups k no_group g less ∙ sym is in
    other (subst (λ h. IsGroupOf m (shape_of h)) e here)

pub all_shapes : (m : Problem) (groups : List Group) → AreGroupsOf m groups → All (IsGroupOf m) (map shape_of groups)
all_shapes m [] are = All-nil (IsGroupOf m)
all_shapes m (g ∷ groups) are =
    let P = λ (h : Group). IsGroupOf m (shape_of h) in
    All-cons (IsGroupOf m) (shape_of g) (map shape_of groups) (All-head P g groups are) (all_shapes m groups (All-tail P g groups are))

-- one more counts its own places
map_times : (groups : List Group) (g : Group) (i : ℕ) → times_in (map shape_of (groups ++ (g ∷ []))) i ≡ times_in (map shape_of groups) i + times_of (items_in (shape_of g)) i
map_times [] g i = omega arith
map_times (h ∷ groups) g i = omega (arith, map_times groups g i)

pub times_next : (groups : List Group) (k : ℕ) (g : Group) (i : ℕ) → k < length groups → g ≡ slice_index_or groups k g → times_in (map shape_of (take (k + 1) groups)) i ≡ times_in (map shape_of (take k groups)) i + times_of (items_in (shape_of g)) i
times_next groups k g i less is = ap (λ xs. times_in (map shape_of xs) i) (take_more groups k g less ∙ ap (λ x. take k groups ++ x ∷ []) (sym is)) ∙ map_times (take k groups) g i

take_all : (k : ℕ) (groups : List Group) → length groups ≤ k → take k groups ≡ groups
take_all zero [] h = refl
take_all (suc k) [] h = refl
take_all zero (g ∷ groups) h = absurd (omega (arith, h))
take_all (suc k) (g ∷ groups) h = ap (λ xs. g ∷ xs) (take_all k groups (omega (arith, h)))

pub all_taken : (m : Problem) (groups : List Group) (k : ℕ) → length groups ≤ k → AreGroupsOf m (take k groups) → AreGroupsOf m groups
all_taken m groups k h are = subst (AreGroupsOf m) (take_all k groups h) are

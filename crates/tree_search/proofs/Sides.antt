-- Going to a side of a branch and back.
use Rattle.std.proofs.Common.{◌≡◌, ◌-◌, ◌∙◌, ℕ, Bool, true, false, sym, ap, subst, arith, List, [], ◌∷◌, ◌++◌, length, take, set, get_or, length-append}
use Rattle.std.proofs.lemmas.List.{set-set, set-get_or, take_at, get_or_default}
use Rattle.lin_rows.specs.declared.column.Column.{Column}
use Rattle.tree_search.specs.declared.node.Range.{Range}
use Rattle.lin_rows.specs.declared.bound.Bound.{Bound}
use Rattle.tree_search.specs.Ranges.{AreOrdered, IsSplitAt, no_range, range_at}
use Rattle.tree_search.specs.Sides.{side_path, side_ranges, side_part}
use Rattle.tree_search.proofs.Ranges.{ordered_high, ordered_low}

set_back : (rs : List Range) (k : ℕ) (a : Range) → set (set rs k a) k (range_at rs k) ≡ rs
set_back rs k a = set-set rs k a (range_at rs k) ∙ set-get_or rs k no_range

pub back_ranges : (most : Bool) (rs xs : List Range) (k at : ℕ) → xs ≡ side_ranges most rs k at → set xs k (range_at rs k) ≡ rs
back_ranges true rs xs k at e = ap (λ ys. set ys k (range_at rs k)) e ∙ set_back rs k (side_part true (range_at rs k) at)
back_ranges false rs xs k at e = ap (λ ys. set ys k (range_at rs k)) e ∙ set_back rs k (side_part false (range_at rs k) at)

front_back : (path : List Bound) (b : Bound) → take (length (path ++ (b ∷ [])) - 1) (path ++ (b ∷ [])) ≡ path
front_back path b =
    let e : length path ≡ length (path ++ (b ∷ [])) - 1 = omega (arith, length-append path (b ∷ [])) in
    take_at path (b ∷ []) (length (path ++ (b ∷ [])) - 1) e

pub back_path : (most : Bool) (path ys : List Bound) (c : Column) (at : ℕ) → ys ≡ side_path most path c at → take (length ys - 1) ys ≡ path
back_path true path ys c at e = ap (λ zs. take (length zs - 1) zs) e ∙ front_back path _
back_path false path ys c at e = ap (λ zs. take (length zs - 1) zs) e ∙ front_back path _

part_ordered : (most : Bool) (rs : List Range) (k at : ℕ) → AreOrdered rs → IsSplitAt rs k at → AreOrdered (set rs k (side_part most (range_at rs k) at))
part_ordered true rs k at o h = ordered_low rs k at o h
part_ordered false rs k at o h = ordered_high rs k at o h

pub entered_ordered : (most : Bool) (rs : List Range) (k at : ℕ) (r a : Range) → IsSplitAt rs k at → r ≡ get_or rs k r → a ≡ side_part most r at → AreOrdered rs → AreOrdered (set rs k a)
entered_ordered most rs k at r a h e is o =
    let same : r ≡ range_at rs k = e ∙ get_or_default rs k r no_range h.0 in
    let part : side_part most (range_at rs k) at ≡ a = ap (λ x. side_part most x at) (sym same) ∙ sym is in
    subst (λ x. AreOrdered (set rs k x)) part (part_ordered most rs k at o h)

-- what holds of the sides of nodes holds of a side of this node
pub side_holds : (P : List Range → List Bound → Type 0) (place : Column → ℕ) (law : (most : Bool) (rs : List Range) (path : List Bound) (c : Column) (at : ℕ) → P rs path → IsSplitAt rs (place c) at → P (side_ranges most rs (place c) at) (side_path most path c at)) (most : Bool) (rs xs : List Range) (path ys : List Bound) (c : Column) (k at : ℕ) → place c ≡ k → P rs path → IsSplitAt rs k at → xs ≡ side_ranges most rs k at → ys ≡ side_path most path c at → P xs ys
side_holds P place law most rs xs path ys c k at e h split ex ey =
    subst (λ z. P z ys) (sym ex)
    (subst (P (side_ranges most rs k at)) (sym ey)
    (subst (λ z. P (side_ranges most rs z at) (side_path most path c at)) e
    (law most rs path c at h (subst (λ z. IsSplitAt rs z at) (sym e) split))))

-- The sides of a branch have what their paths leave.
use Rattle.std.proofs.Common.{◌≡◌, ◌≢◌, ◌≤◌, ◌<◌, ◌+◌, ◌∙◌, ⊎_elim, ℕ, zero, suc, refl, sym, ap, subst, arith, Bool, true, false, List, [], ◌∷◌, ◌++◌, length, set}
use Rattle.std.specs.Prelude.{if◌then◌else◌, min, max}
use Rattle.std.proofs.lemmas.Bool.{cases_Bool}
use Rattle.std.proofs.lemmas.List.{get_or-set_other, get_or-set_same, length-set}
use Rattle.std.proofs.lemmas.List.Elements.{All-push}
use Rattle.lot_sizing.specs.Problem.{Problem}
use Rattle.lin_rows.specs.declared.bound.Bound.{Bound}
use Rattle.lin_rows.specs.declared.column.Column.{Column}
use Rattle.lin_rows.specs.Sums.{same_column}
use Rattle.lin_rows.proofs.Below.{one_by_parts}
use Rattle.lin_rows.proofs.Cells.{same_self}
use Rattle.cert_trees.specs.Paths.{cut_span, left_by, narrowed}
use Rattle.cert_trees.specs.Ranges.{IsChoice, Ranges}
use Rattle.cert_trees.specs.Spans.{Span}
use Rattle.cert_trees.proofs.Left.{left_more}
use Rattle.tree_search.specs.declared.node.Range.{Range}
use Rattle.tree_search.specs.Ranges.{IsPoint, IsSplitAt, no_range, range_at}
use Rattle.tree_search.specs.Sides.{side_bound, side_part, side_path, side_ranges}
use Rattle.node_domains.specs.Nodes.{IsLeftAt, IsNodeOf, choice_place, span_in}
use Rattle.node_domains.specs.Numbering.{choice_from, places_one}

side_of : (most : Bool) (rs : List Range) (k at : ℕ) → side_ranges most rs k at ≡ set rs k (side_part most (range_at rs k) at)
side_of true rs k at = refl
side_of false rs k at = refl

pub path_of : (most : Bool) (path : List Bound) (c : Column) (at : ℕ) → side_path most path c at ≡ path ++ (side_bound most c at ∷ [])
path_of true path c at = refl
path_of false path c at = refl

bound_column : (most : Bool) (c : Column) (at : ℕ) → (side_bound most c at).column ≡ c
bound_column true c at = refl
bound_column false c at = refl

span_of_two : (low high a b : ℕ) → low ≡ a → high ≡ b → (let s : Span = record { low = low; high = high } in s) ≡ record { low = a; high = b }
span_of_two low high a b p q = ap (λ n. let s : Span = record { low = n; high = high } in s) p ∙ ap (λ n. let s : Span = record { low = a; high = n } in s) q

-- the part of a range on a side is what the bound leaves of it
part_left : (most : Bool) (r : Range) (c : Column) (at : ℕ) → r.low ≤ at → at < r.high → span_in (side_part most r at) ≡ cut_span (side_bound most c at).most (side_bound most c at).number (span_in r)
part_left true r c at low high = span_of_two r.low at r.low (min r.high at) refl (omega (arith, high))
part_left false r c at low high = span_of_two (at + 1) r.high (max r.low (at + 1)) r.high (omega (arith, low)) refl

narrowed_own : (s : Span) (b : Bound) (c : Column) → same_column b.column c ≡ true → narrowed s b c ≡ cut_span b.most b.number s
narrowed_own s b c is = ap (λ t. if t then cut_span b.most b.number s else s) is

narrowed_other : (s : Span) (b : Bound) (c : Column) → same_column b.column c ≡ false → narrowed s b c ≡ s
narrowed_other s b c is = ap (λ t. if t then cut_span b.most b.number s else s) is

module _ (m : Problem) (ranges : Ranges) (most : Bool) (rs : List Range) (path : List Bound) (c : Column) (at : ℕ) (node : IsNodeOf m ranges rs path) (split : IsSplitAt rs (choice_place m c) at) where
  split_choice : IsChoice m c
  split_choice = choice_from m c (omega (arith, split.0, node.size))

  left_own : IsLeftAt m ranges rs path c → IsLeftAt m ranges (set rs (choice_place m c) (side_part most (range_at rs (choice_place m c)) at)) (path ++ (side_bound most c at ∷ [])) c
  left_own left =
      let k = choice_place m c in
      let r = range_at rs k in
      let b = side_bound most c at in
      ap span_in (get_or-set_same rs k (side_part most r at) no_range split.0)
      ∙ part_left most r c at split.1 split.2
      ∙ ap (cut_span b.most b.number) left
      ∙ sym (narrowed_own (left_by ranges path c) b c (ap (λ d. same_column d c) (bound_column most c at) ∙ same_self c))
      ∙ sym (left_more (ranges c) path b c)

  left_other : (d : Column) → IsChoice m d → same_column c d ≡ false → IsLeftAt m ranges rs path d → IsLeftAt m ranges (set rs (choice_place m c) (side_part most (range_at rs (choice_place m c)) at)) (path ++ (side_bound most c at ∷ [])) d
  left_other d is apart left =
      let k = choice_place m c in
      let b = side_bound most c at in
      let ne : choice_place m d ≢ k = λ same. let e = places_one m c d split_choice is (sym same) in let t : same_column c d ≡ true = subst (λ x. same_column c x ≡ true) e (same_self c) in cc in
      ap span_in (get_or-set_other rs k (choice_place m d) (side_part most (range_at rs k) at) no_range ne)
      ∙ left
      ∙ sym (narrowed_other (left_by ranges path d) b d (ap (λ x. same_column x d) (bound_column most c at) ∙ apart))
      ∙ sym (left_more (ranges d) path b d)

  node_set : IsNodeOf m ranges (set rs (choice_place m c) (side_part most (range_at rs (choice_place m c)) at)) (path ++ (side_bound most c at ∷ []))
  node_set =
      let k = choice_place m c in record {
        choices = All-push (λ b. IsChoice m b.column) path (side_bound most c at) node.choices (subst (IsChoice m) (sym (bound_column most c at)) split_choice);
        size = length-set rs k (side_part most (range_at rs k) at) ∙ node.size;
        left = λ d is.
            ⊎_elim
            (λ own. subst (IsLeftAt m ranges (set rs k (side_part most (range_at rs k) at)) (path ++ (side_bound most c at ∷ []))) (one_by_parts c d own) (left_own (node.left c split_choice)))
            (λ other. left_other d is other (node.left d is))
            (cases_Bool (same_column c d));
      }

pub node_side : (m : Problem) (ranges : Ranges) (most : Bool) (rs : List Range) (path : List Bound) (c : Column) (at : ℕ) → IsNodeOf m ranges rs path → IsSplitAt rs (choice_place m c) at → IsNodeOf m ranges (side_ranges most rs (choice_place m c) at) (side_path most path c at)
node_side m ranges true rs path c at node split = node_set m ranges true rs path c at node split
node_side m ranges false rs path c at node split = node_set m ranges false rs path c at node split

-- ---- one choice
pub point_at : (rs : List Range) (k : ℕ) → k < length rs → IsPoint rs → (range_at rs k).low ≡ (range_at rs k).high
point_at [] k less is = absurd (omega (arith, less))
point_at (r ∷ rs) zero less is = is.0
point_at (r ∷ rs) (suc k) less is = point_at rs k (omega (arith, less)) is.1

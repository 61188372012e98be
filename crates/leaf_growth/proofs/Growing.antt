-- The rows of names stay what they are when more cuts and bounds follow, and so do sums of parts.
use Rattle.std.proofs.Common.{◌≡◌, ◌≤◌, ◌<◌, ◌+◌, ◌-◌, ◌*◌, ◌^◌, ◌∙◌, ⊎_elim, inl, inr, ℕ, zero, suc, refl, sym, ap, subst, arith, List, [], ◌∷◌, ◌++◌, length, false}
use Rattle.std.specs.Prelude.{ℤ, pos, ◌*ℤ◌, ◌≤ℤ◌, ◌<ℤ◌, map, slice_index_or}
use Rattle.std.proofs.lemmas.List.{append-nil, length-append}
use Rattle.std.proofs.lemmas.List.Elements.{All-cons, All-head, All-nil, All-tail}
use Rattle.lot_sizing.specs.Problem.{Problem}
use Rattle.lin_rows.specs.declared.bound.Bound.{Bound}
use Rattle.lin_rows.specs.declared.base.RowName.{RowName}
use Rattle.lin_rows.specs.declared.base.RowName.TheVariants.{Balance, Link, Capacity, EndMin, EndMax, Top, Least, Late, Path, Cut}
use Rattle.lin_rows.specs.Bounds.{bound_row}
use Rattle.lin_rows.specs.Columns.{column_cost}
use Rattle.lin_rows.specs.Combining.{column_sum, right_sum}
use Rattle.lin_rows.specs.Rows.{LinRow}
use Rattle.round_cuts.specs.Rounding.{column_amount, right_amount}
use Rattle.item_groups.specs.declared.group.Group.{Group}
use Rattle.reduced_groups.specs.Floors.{shape_of}
use Rattle.reduced_leaf.specs.Leaf.{IsReducedSum, IsSmallSum, LacksOneChoice}
use Rattle.cert_lines.specs.declared.parts.Part.{Part}
use Rattle.cert_lines.specs.Shapes.{FarkasLeaf, LeafShape, LinearLeaf, ListShape, PointLeaf, ReducedLeaf}
use Rattle.cert_trees.specs.Paths.{no_bound}
use Rattle.cert_trees.specs.Ranges.{Ranges, whole_ranges}
use Rattle.cert_meaning.specs.declared.says.LeafSays.{LeafSays}
use Rattle.cert_meaning.specs.declared.says.LeafSays.TheVariants.{NoPlan, AtLeast}
use Rattle.cert_meaning.specs.Named.{IsNamed, names, no_row, row_named}
use Rattle.cert_meaning.specs.Parts.{AreParts, AreSmall, IsPart, rows_of, times_of}
use Rattle.cert_meaning.specs.Lists.{AreListed, all_parts}
use Rattle.cert_meaning.specs.Says.{GroupLacksChoice, IsFarkas, IsLinear, IsReducedBound, IsReducedRefuted, IsSumOf}
use Rattle.cert_meaning.specs.Accepts.{IsSmallWith}
use Rattle.leaf_growth.specs.Growth.{IsOfRows, LeafSaysSmall, SaysAt}

-- what stands at a place is there when more follows
at_front : {X : Type 0} (d : X) (xs ys : List X) (k : ℕ) → k < length xs → slice_index_or (xs ++ ys) k d ≡ slice_index_or xs k d
at_front d [] ys k less = absurd (omega (arith, less))
at_front d (x ∷ xs) ys zero less = refl
at_front d (x ∷ xs) ys (suc k) less = at_front d xs ys k (omega (arith, less))

module _ (m : Problem) (total : ℕ → ℕ) (cuts more : List LinRow) (path further : List Bound) where
  named_on : (name : RowName) → IsNamed (names m total cuts path) name → IsNamed (names m total (cuts ++ more) (path ++ further)) name
  named_on (Balance i t) has = has
  named_on (Link i t) has = has
  named_on (Capacity k t) has = has
  named_on (EndMin i) has = has
  named_on (EndMax i) has = has
  named_on (Top i t) has = has
  named_on (Least i t) has = has
  named_on (Late i t) has = has
  named_on (Path k) has = (has.0, omega (arith, has.1, length-append path further))
  named_on (Cut k) has = (has.0, omega (arith, has.1, length-append cuts more))

  row_on : (name : RowName) → IsNamed (names m total cuts path) name → row_named (names m total cuts path) name ≡ row_named (names m total (cuts ++ more) (path ++ further)) name
  row_on (Balance i t) has = refl
  row_on (Link i t) has = refl
  row_on (Capacity k t) has = refl
  row_on (EndMin i) has = refl
  row_on (EndMax i) has = refl
  row_on (Top i t) has = refl
  row_on (Least i t) has = refl
  row_on (Late i t) has = refl
  row_on (Path k) has = ap bound_row (sym (at_front no_bound path further (k - 1) (omega (arith, has.0, has.1))))
  row_on (Cut k) has = sym (at_front no_row cuts more (k - 1) (omega (arith, has.0, has.1)))

  rows_on : (parts : List Part) → AreParts (names m total cuts path) parts → rows_of (names m total cuts path) parts ≡ rows_of (names m total (cuts ++ more) (path ++ further)) parts
  rows_on [] are = refl
  rows_on (p ∷ parts) are =
      let n = names m total cuts path in
      ap (λ r. r ∷ rows_of n parts) (row_on p.row (All-head (IsPart n) p parts are).named)
      ∙ ap (λ rs. row_named (names m total (cuts ++ more) (path ++ further)) p.row ∷ rs) (rows_on parts (All-tail (IsPart n) p parts are))

  part_on : (p : Part) → IsPart (names m total cuts path) p → IsPart (names m total (cuts ++ more) (path ++ further)) p
  part_on p is = record {
    named = named_on p.row is.named;
    signed = subst (λ r. r.equal ≡ false → pos 0 ≤ℤ p.times) (row_on p.row is.named) is.signed;
  }

  parts_on : (parts : List Part) → AreParts (names m total cuts path) parts → AreParts (names m total (cuts ++ more) (path ++ further)) parts
  parts_on [] are = All-nil (IsPart (names m total (cuts ++ more) (path ++ further)))
  parts_on (p ∷ parts) are =
      let P = IsPart (names m total cuts path) in
      All-cons (IsPart (names m total (cuts ++ more) (path ++ further))) p parts (part_on p (All-head P p parts are)) (parts_on parts (All-tail P p parts are))

  linear_on : (den : ℤ) (parts : List Part) (bound : ℕ) → IsLinear (names m total cuts path) den parts bound → IsLinear (names m total (cuts ++ more) (path ++ further)) den parts bound
  linear_on den parts bound is =
      let e = rows_on parts is.parts_exist in
      record {
        positive = is.positive;
        parts_exist = parts_on parts is.parts_exist;
        columns = λ c has. subst (λ rows. column_sum rows (times_of parts) c ≤ℤ (den *ℤ pos (column_cost m c))) e (is.columns c has);
        right = record {
          above = subst (λ rows. right_sum rows (times_of parts) ≤ℤ (den *ℤ pos bound)) e is.right.above;
          least = λ k h. is.right.least k (subst (λ rows. right_sum rows (times_of parts) ≤ℤ (den *ℤ pos k)) (sym e) h);
        };
      }

  farkas_on : (parts : List Part) → IsFarkas (names m total cuts path) parts → IsFarkas (names m total (cuts ++ more) (path ++ further)) parts
  farkas_on parts is =
      let e = rows_on parts is.parts_exist in
      record {
        parts_exist = parts_on parts is.parts_exist;
        columns = λ c has. subst (λ rows. column_sum rows (times_of parts) c ≤ℤ pos 0) e (is.columns c has);
        right = subst (λ rows. pos 0 <ℤ right_sum rows (times_of parts)) e is.right;
      }

  small_on : (parts : List Part) → AreParts (names m total cuts path) parts → AreSmall (names m total cuts path) parts → AreSmall (names m total (cuts ++ more) (path ++ further)) parts
  small_on parts are is =
      let e = rows_on parts are in
      record {
        columns = λ c. subst (λ rows. column_amount rows (times_of parts) c < 2 ^ 127) e (is.columns c);
        right = subst (λ rows. right_amount rows (times_of parts) < 2 ^ 127) e is.right;
      }

  -- ---- by reduced costs
  listed_on : (parts : List Part) (lists : List ListShape) → AreListed (names m total cuts path) parts lists → AreListed (names m total (cuts ++ more) (path ++ further)) parts lists
  listed_on parts lists is = record { parts_exist = parts_on (all_parts parts lists) is.parts_exist; each = is.each }

  sum_on : (den : ℕ) (parts : List Part) (groups : List Group) (sum : ℤ) → AreParts (names m total cuts path) parts → IsSumOf (names m total cuts path) den parts groups sum → IsSumOf (names m total (cuts ++ more) (path ++ further)) den parts groups sum
  sum_on den parts groups sum are is = subst (λ rows. IsReducedSum m total rows (times_of parts) den (map shape_of groups) sum) (rows_on parts are) is

  sum_back : (den : ℕ) (parts : List Part) (groups : List Group) (sum : ℤ) → AreParts (names m total cuts path) parts → IsSumOf (names m total (cuts ++ more) (path ++ further)) den parts groups sum → IsSumOf (names m total cuts path) den parts groups sum
  sum_back den parts groups sum are is = subst (λ rows. IsReducedSum m total rows (times_of parts) den (map shape_of groups) sum) (sym (rows_on parts are)) is

  lacks_on : (den : ℕ) (parts : List Part) (groups : List Group) → AreParts (names m total cuts path) parts → GroupLacksChoice (names m total cuts path) den parts groups → GroupLacksChoice (names m total (cuts ++ more) (path ++ further)) den parts groups
  lacks_on den parts groups are is = subst (λ rows. LacksOneChoice m total rows (times_of parts) den (map shape_of groups)) (rows_on parts are) is

  bound_on : (den : ℕ) (parts : List Part) (lists : List ListShape) (groups : List Group) (bound : ℕ) → IsReducedBound (names m total cuts path) den parts lists groups bound → IsReducedBound (names m total (cuts ++ more) (path ++ further)) den parts lists groups bound
  bound_on den parts lists groups bound is = record {
    ranked = is.ranked;
    listed = listed_on parts lists is.listed;
    positive = is.positive;
    sum = is.sum;
    adds = sum_on den (all_parts parts lists) groups is.sum is.listed.parts_exist is.adds;
    right = is.right;
  }

  refuted_on : (den : ℕ) (parts : List Part) (lists : List ListShape) (groups : List Group) → IsReducedRefuted (names m total cuts path) den parts lists groups → IsReducedRefuted (names m total (cuts ++ more) (path ++ further)) den parts lists groups
  refuted_on den parts lists groups is =
      let all = all_parts parts lists in
      record {
        ranked = is.ranked;
        listed = listed_on parts lists is.listed;
        refuted = ⊎_elim
            (λ lacks. inl (lacks_on den all groups is.listed.parts_exist lacks))
            (λ has. let (none, sum, adds, some) = has in inr (none, sum, sum_on den all groups sum is.listed.parts_exist adds, some))
            is.refuted;
      }

  with_on : (den : ℕ) (parts : List Part) (groups : List Group) → AreParts (names m total cuts path) parts → IsSmallWith (names m total cuts path) den parts groups → IsSmallWith (names m total (cuts ++ more) (path ++ further)) den parts groups
  with_on den parts groups are is = (
    small_on parts are is.0,
    λ sum adds. subst (λ rows. IsSmallSum rows (times_of parts) sum) (rows_on parts are) (is.1 sum (sum_back den parts groups sum are adds)),
  )

  pub says_on : (ranges : Ranges) (leaf : LeafShape) (says : LeafSays) → IsOfRows leaf → SaysAt (names m total cuts path) ranges leaf says → SaysAt (names m total (cuts ++ more) (path ++ further)) ranges leaf says
  says_on ranges (LinearLeaf den parts) NoPlan of is = absurd is.said
  says_on ranges (LinearLeaf den parts) (AtLeast bound) of is = record { said = linear_on den parts bound is.said; small = small_on parts is.said.parts_exist is.small }
  says_on ranges (FarkasLeaf parts) NoPlan of is = record { said = farkas_on parts is.said; small = small_on parts is.said.parts_exist is.small }
  says_on ranges (FarkasLeaf parts) (AtLeast bound) of is = absurd is.said
  says_on ranges PointLeaf says of is = absurd of
  says_on ranges (ReducedLeaf den parts lists groups) NoPlan of is = record { said = refuted_on den parts lists groups is.said; small = with_on den (all_parts parts lists) groups is.said.listed.parts_exist is.small }
  says_on ranges (ReducedLeaf den parts lists groups) (AtLeast bound) of is = record { said = bound_on den parts lists groups bound is.said; small = with_on den (all_parts parts lists) groups is.said.listed.parts_exist is.small }

-- at the same node
pub says_stay : (m : Problem) (total : ℕ → ℕ) (ranges : Ranges) (cuts more : List LinRow) (path : List Bound) (leaf : LeafShape) (says : LeafSays) → SaysAt (names m total cuts path) ranges leaf says → SaysAt (names m total (cuts ++ more) path) ranges leaf says
says_stay m total ranges cuts more path (LinearLeaf den parts) says is =
    subst (λ way. SaysAt (names m total (cuts ++ more) way) ranges (LinearLeaf den parts) says) (append-nil path) (says_on m total cuts more path [] ranges (LinearLeaf den parts) says tt is)
says_stay m total ranges cuts more path (FarkasLeaf parts) says is =
    subst (λ way. SaysAt (names m total (cuts ++ more) way) ranges (FarkasLeaf parts) says) (append-nil path) (says_on m total cuts more path [] ranges (FarkasLeaf parts) says tt is)
says_stay m total ranges cuts more path (ReducedLeaf den parts lists groups) says is =
    subst (λ way. SaysAt (names m total (cuts ++ more) way) ranges (ReducedLeaf den parts lists groups) says) (append-nil path) (says_on m total cuts more path [] ranges (ReducedLeaf den parts lists groups) says tt is)
says_stay m total ranges cuts more path PointLeaf NoPlan is = record { said = is.said; small = tt }
says_stay m total ranges cuts more path PointLeaf (AtLeast bound) is = record { said = is.said; small = tt }

-- ---- whatever the largest totals are
pub said_on : (m : Problem) (cuts more : List LinRow) (path further : List Bound) (leaf : LeafShape) (says : LeafSays) → IsOfRows leaf → LeafSaysSmall m cuts path leaf says → LeafSaysSmall m (cuts ++ more) (path ++ further) leaf says
said_on m cuts more path further leaf says of is = record {
  said = λ total totals. (says_on m total cuts more path further (whole_ranges total) leaf says of (record { said = is.said total totals; small = is.small total totals })).said;
  small = λ total totals. (says_on m total cuts more path further (whole_ranges total) leaf says of (record { said = is.said total totals; small = is.small total totals })).small;
}

pub said_stay : (m : Problem) (cuts more : List LinRow) (path : List Bound) (leaf : LeafShape) (says : LeafSays) → LeafSaysSmall m cuts path leaf says → LeafSaysSmall m (cuts ++ more) path leaf says
said_stay m cuts more path leaf says is = record {
  said = λ total totals. (says_stay m total (whole_ranges total) cuts more path leaf says (record { said = is.said total totals; small = is.small total totals })).said;
  small = λ total totals. (says_stay m total (whole_ranges total) cuts more path leaf says (record { said = is.said total totals; small = is.small total totals })).small;
}

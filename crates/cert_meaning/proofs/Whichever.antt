-- Acceptance is the same, whichever largest totals and weights of a problem are taken.
use Rattle.std.proofs.Common.{◌≡◌, ◌≤◌, ◌<◌, ◌*◌, ◌^◌, ◌∙◌, ⊎_elim, inl, inr, ℕ, refl, sym, ap, subst, arith, List, [], ◌∷◌, ◌++◌, false}
use Rattle.std.specs.Prelude.{if◌then◌else◌, is_some, nat_lt, ℤ, pos, negsuc, ◌*ℤ◌, ◌≤ℤ◌, ◌<ℤ◌, map, Option}
use Rattle.std.proofs.lemmas.List.Elements.{All-cons, All-head, All-nil, All-tail}
use Rattle.lot_sizing.specs.Problem.{EachItem, Problem, demand, item_at, item_count}
use Rattle.lot_sizing.specs.Plan.{Plan}
use Rattle.lot_sizing.specs.Least.{HasChoice}
use Rattle.lot_sizing.specs.Echelon.{in_echelon}
use Rattle.lot_sizing.specs.Single.{ArePotentials}
use Rattle.lot_sizing.proofs.Sums.{sum_to-same}
use Rattle.echelon.specs.Views.{marked}
use Rattle.lin_rows.specs.declared.bound.Bound.{Bound}
use Rattle.lin_rows.specs.declared.column.Column.{Column}
use Rattle.lin_rows.specs.declared.column.Column.TheVariants.{X, Y, S, R}
use Rattle.lin_rows.specs.declared.base.RowName.{RowName}
use Rattle.lin_rows.specs.declared.base.RowName.TheVariants.{Balance, Link, Capacity, EndMin, EndMax, Top, Least, Late, Path, Cut}
use Rattle.lin_rows.specs.Base.{some_terms, term, within_bound}
use Rattle.lin_rows.specs.Columns.{IsCell, column_cost}
use Rattle.lin_rows.specs.Combining.{column_sum, right_sum}
use Rattle.lin_rows.specs.Rows.{LinRow}
use Rattle.round_cuts.specs.Rounding.{IsRounded, column_amount, right_amount}
use Rattle.item_groups.specs.declared.group.Group.{Group}
use Rattle.reduced_groups.specs.Groups.{GroupShape}
use Rattle.reduced_groups.specs.Floors.{shape_of}
use Rattle.reduced_leaf.specs.Leaf.{IsReducedSum, IsSmallSum, LacksOneChoice}
use Rattle.reduced_leaf.specs.Laws.{LacksByBoth, SumByBoth}
use Rattle.cert_lines.specs.declared.parts.Claim.{Claim}
use Rattle.cert_lines.specs.declared.parts.Claim.TheVariants.{Optimal, Infeasible, Bound as BoundOf}
use Rattle.cert_lines.specs.declared.parts.Part.{Part}
use Rattle.cert_lines.specs.Shapes.{BlockCut, CutShape, FarkasLeaf, LeafShape, LinearLeaf, ListShape, LsCut, PointLeaf, PriceCut, ReducedLeaf, RoundCut}
use Rattle.certificate.specs.Shapes.{End, Shape, Split, TreeShape}
use Rattle.cert_trees.specs.Spans.{IsIn, Span}
use Rattle.cert_trees.specs.Ranges.{IsChoice, Ranges, whole_ranges}
use Rattle.cert_trees.specs.Paths.{left_by, left_to}
use Rattle.cert_trees.specs.Trees.{EachLeaf, IsSplitTree, high_path, low_path}
use Rattle.cert_meaning.specs.declared.says.LeafSays.{LeafSays}
use Rattle.cert_meaning.specs.declared.says.LeafSays.TheVariants.{NoPlan, AtLeast}
use Rattle.cert_meaning.specs.Named.{IsNamed, names, row_named}
use Rattle.cert_meaning.specs.Parts.{AreParts, AreSmall, IsPart, rows_of, times_of}
use Rattle.cert_meaning.specs.Lists.{AreListed, all_parts}
use Rattle.cert_meaning.specs.Says.{GroupLacksChoice, IsFarkas, IsLinear, IsPoint, IsRanked, IsReducedBound, IsReducedRefuted, IsSumOf, Says, point_make, point_setup}
use Rattle.cert_meaning.specs.CutRows.{AreCutRows, HasEchelon, IsCutRow, backs_in, echelon_at}
use Rattle.cert_meaning.specs.Accepts.{AreSmallCuts, Fits, GoesWith, IsAccepted, IsSmallCut, IsSmallLeaf, IsSmallWith, SaysEnough}
use Rattle.cert_meaning.specs.Laws.{AreBoth, AreSameRanges}
use Rattle.cert_meaning.proofs.Agreeing.{AreAlike, block_row_same, ls_row_same, price_row_same, priced_same}

-- what rows and groups say by one of two largest totals they say by the other
pub record AreSameSums (m : Problem) (a b : ℕ → ℕ) : Type 0 where
  pub ranked : IsRanked m b
  pub sums : (rows : List LinRow) (times : List ℤ) (den : ℕ) (shapes : List GroupShape) (sum : ℤ) → IsReducedSum m a rows times den shapes sum → IsReducedSum m b rows times den shapes sum
  pub back : (rows : List LinRow) (times : List ℤ) (den : ℕ) (shapes : List GroupShape) (sum : ℤ) → IsReducedSum m b rows times den shapes sum → IsReducedSum m a rows times den shapes sum
  pub lacks : (rows : List LinRow) (times : List ℤ) (den : ℕ) (shapes : List GroupShape) → LacksOneChoice m a rows times den shapes → LacksOneChoice m b rows times den shapes

pub sums_same : SumByBoth → LacksByBoth → (m : Problem) (a b : ℕ → ℕ) (v w : ℕ → ℕ → ℕ) → AreBoth m a b v w → AreSameSums m a b
sums_same sums lacks m a b v w by = record {
  ranked = record { rank = by.rank; ranks = by.ranks; totals = by.totals.1 };
  sums = λ rows times den shapes. sums m by.rank a b rows times den shapes by.ranks by.totals.0 by.totals.1;
  back = λ rows times den shapes. sums m by.rank b a rows times den shapes by.ranks by.totals.1 by.totals.0;
  lacks = λ rows times den shapes. lacks m by.rank a b rows times den shapes by.ranks by.totals.0 by.totals.1;
}

-- ---- named rows
link_row : ℕ → ℕ → Option ℕ → ℕ → LinRow
link_row i t most u = record { terms = some_terms (term (X i t) (negsuc 0) ∷ (term (Y i t) (pos (within_bound u most)) ∷ [])); right = pos 0; equal = false }

module _ (m : Problem) (a b : ℕ → ℕ) (same : EachItem m (λ i. a i ≡ b i)) where
  -- only a link has a largest total
  row_same : (cuts : List LinRow) (path : List Bound) (name : RowName) → IsNamed (names m a cuts path) name → row_named (names m a cuts path) name ≡ row_named (names m b cuts path) name
  unfolding link_row
  row_same cuts path (Balance i t) has = refl
  row_same cuts path (Link i t) has = ap (link_row i t (item_at m i).max_lot) (same i has.0 has.1)
  row_same cuts path (Capacity k t) has = refl
  row_same cuts path (EndMin i) has = refl
  row_same cuts path (EndMax i) has = refl
  row_same cuts path (Top i t) has = refl
  row_same cuts path (Least i t) has = refl
  row_same cuts path (Late i t) has = refl
  row_same cuts path (Path k) has = refl
  row_same cuts path (Cut k) has = refl

  rows_same : (cuts : List LinRow) (path : List Bound) (parts : List Part) → AreParts (names m a cuts path) parts → rows_of (names m a cuts path) parts ≡ rows_of (names m b cuts path) parts
  rows_same cuts path [] are = refl
  rows_same cuts path (p ∷ parts) are =
      let n = names m a cuts path in
      ap (λ r. r ∷ rows_of n parts) (row_same cuts path p.row (All-head (IsPart n) p parts are).named)
      ∙ ap (λ rs. row_named (names m b cuts path) p.row ∷ rs) (rows_same cuts path parts (All-tail (IsPart n) p parts are))

  part_same : (cuts : List LinRow) (path : List Bound) (p : Part) → IsPart (names m a cuts path) p → IsPart (names m b cuts path) p
  part_same cuts path p is = record {
    named = is.named;
    signed = subst (λ r. r.equal ≡ false → pos 0 ≤ℤ p.times) (row_same cuts path p.row is.named) is.signed;
  }

  parts_same : (cuts : List LinRow) (path : List Bound) (parts : List Part) → AreParts (names m a cuts path) parts → AreParts (names m b cuts path) parts
  parts_same cuts path [] are = All-nil (IsPart (names m b cuts path))
  parts_same cuts path (p ∷ parts) are =
      let P = IsPart (names m a cuts path) in
      All-cons (IsPart (names m b cuts path)) p parts (part_same cuts path p (All-head P p parts are)) (parts_same cuts path parts (All-tail P p parts are))

  -- ---- leaves
  linear_same : (cuts : List LinRow) (path : List Bound) (den : ℤ) (parts : List Part) (bound : ℕ) → IsLinear (names m a cuts path) den parts bound → IsLinear (names m b cuts path) den parts bound
  linear_same cuts path den parts bound is =
      let e = rows_same cuts path parts is.parts_exist in
      record {
        positive = is.positive;
        parts_exist = parts_same cuts path parts is.parts_exist;
        columns = λ c has. subst (λ rows. column_sum rows (times_of parts) c ≤ℤ (den *ℤ pos (column_cost m c))) e (is.columns c has);
        right = record {
          above = subst (λ rows. right_sum rows (times_of parts) ≤ℤ (den *ℤ pos bound)) e is.right.above;
          least = λ k h. is.right.least k (subst (λ rows. right_sum rows (times_of parts) ≤ℤ (den *ℤ pos k)) (sym e) h);
        };
      }

  farkas_same : (cuts : List LinRow) (path : List Bound) (parts : List Part) → IsFarkas (names m a cuts path) parts → IsFarkas (names m b cuts path) parts
  farkas_same cuts path parts is =
      let e = rows_same cuts path parts is.parts_exist in
      record {
        parts_exist = parts_same cuts path parts is.parts_exist;
        columns = λ c has. subst (λ rows. column_sum rows (times_of parts) c ≤ℤ pos 0) e (is.columns c has);
        right = subst (λ rows. pos 0 <ℤ right_sum rows (times_of parts)) e is.right;
      }

  listed_same : (cuts : List LinRow) (path : List Bound) (parts : List Part) (lists : List ListShape) → AreListed (names m a cuts path) parts lists → AreListed (names m b cuts path) parts lists
  listed_same cuts path parts lists are = record { parts_exist = parts_same cuts path (all_parts parts lists) are.parts_exist; each = are.each }

  module _ (by : AreSameSums m a b) (cuts : List LinRow) (path : List Bound) (den : ℕ) where
    sum_same : (parts : List Part) (groups : List Group) (sum : ℤ) → AreParts (names m a cuts path) parts → IsSumOf (names m a cuts path) den parts groups sum → IsSumOf (names m b cuts path) den parts groups sum
    sum_same parts groups sum are is =
        subst (λ rows. IsReducedSum m b rows (times_of parts) den (map shape_of groups) sum) (rows_same cuts path parts are) (by.sums (rows_of (names m a cuts path) parts) (times_of parts) den (map shape_of groups) sum is)

    lacks_same : (parts : List Part) (groups : List Group) → AreParts (names m a cuts path) parts → GroupLacksChoice (names m a cuts path) den parts groups → GroupLacksChoice (names m b cuts path) den parts groups
    lacks_same parts groups are is =
        subst (λ rows. LacksOneChoice m b rows (times_of parts) den (map shape_of groups)) (rows_same cuts path parts are) (by.lacks (rows_of (names m a cuts path) parts) (times_of parts) den (map shape_of groups) is)

    bound_same : (parts : List Part) (lists : List ListShape) (groups : List Group) (bound : ℕ) → IsReducedBound (names m a cuts path) den parts lists groups bound → IsReducedBound (names m b cuts path) den parts lists groups bound
    bound_same parts lists groups bound is = record {
      ranked = by.ranked;
      listed = listed_same cuts path parts lists is.listed;
      positive = is.positive;
      sum = is.sum;
      adds = sum_same (all_parts parts lists) groups is.sum is.listed.parts_exist is.adds;
      right = is.right;
    }

    refuted_same : (parts : List Part) (lists : List ListShape) (groups : List Group) → IsReducedRefuted (names m a cuts path) den parts lists groups → IsReducedRefuted (names m b cuts path) den parts lists groups
    refuted_same parts lists groups is =
        let all = all_parts parts lists in
        let are = is.listed.parts_exist in
        record {
          ranked = by.ranked;
          listed = listed_same cuts path parts lists is.listed;
          refuted = ⊎_elim
              (λ lacks. inl (lacks_same all groups are lacks))
              (λ has. let (none, sum, adds, more) = has in inr (none, sum, sum_same all groups sum are adds, more))
              is.refuted;
        }

  module _ (by : AreSameSums m a b) (r s : Ranges) (agree : AreSameRanges m r s) where
    left_same : (path : List Bound) (c : Column) → IsChoice m c → left_by r path c ≡ left_by s path c
    left_same path c is = ap (λ span. left_to span path c) (agree c is)

    point_same : (cuts : List LinRow) (path : List Bound) → IsPoint (names m a cuts path) r → IsPoint (names m b cuts path) s
    point_same cuts path is i t low high t_low t_high =
        let cell : IsCell m i t = (low, high, t_low, t_high) in
        let here = is i t low high t_low t_high in
        (subst (λ span. span.low ≡ span.high) (left_same path (X i t) cell) here.0, subst (λ span. span.low ≡ span.high) (left_same path (Y i t) cell) here.1)

    -- a plan with the values that are left has them by either
    choice_same : (cuts : List LinRow) (path : List Bound) (p : Plan) → HasChoice m (point_make (names m b cuts path) s) (point_setup (names m b cuts path) s) p → HasChoice m (point_make (names m a cuts path) r) (point_setup (names m a cuts path) r) p
    choice_same cuts path p has = record {
      make = λ i t low high t_low t_high. has.make i t low high t_low t_high ∙ sym (ap (λ span. span.low) (left_same path (X i t) (low, high, t_low, t_high)));
      setup = λ i t low high t_low t_high. has.setup i t low high t_low t_high ∙ sym (ap (λ span. span.low) (left_same path (Y i t) (low, high, t_low, t_high)));
    }

    choice_back : (cuts : List LinRow) (path : List Bound) (p : Plan) → HasChoice m (point_make (names m a cuts path) r) (point_setup (names m a cuts path) r) p → HasChoice m (point_make (names m b cuts path) s) (point_setup (names m b cuts path) s) p
    choice_back cuts path p has = record {
      make = λ i t low high t_low t_high. has.make i t low high t_low t_high ∙ ap (λ span. span.low) (left_same path (X i t) (low, high, t_low, t_high));
      setup = λ i t low high t_low t_high. has.setup i t low high t_low t_high ∙ ap (λ span. span.low) (left_same path (Y i t) (low, high, t_low, t_high));
    }

    says_same : (cuts : List LinRow) (path : List Bound) (leaf : LeafShape) (says : LeafSays) → Says (names m a cuts path) r leaf says → Says (names m b cuts path) s leaf says
    says_same cuts path (LinearLeaf den parts) NoPlan is = is
    says_same cuts path (LinearLeaf den parts) (AtLeast bound) is = linear_same cuts path den parts bound is
    says_same cuts path (FarkasLeaf parts) NoPlan is = farkas_same cuts path parts is
    says_same cuts path (FarkasLeaf parts) (AtLeast bound) is = is
    says_same cuts path PointLeaf NoPlan is = (point_same cuts path is.0, λ p f has. is.1 p f (choice_same cuts path p has))
    says_same cuts path PointLeaf (AtLeast bound) is =
        let least = is.1 in (
          point_same cuts path is.0,
          record {
            plan = least.plan;
            feasible = least.feasible;
            chosen = choice_back cuts path least.plan least.chosen;
            costs = least.costs;
            least = λ p f has. least.least p f (choice_same cuts path p has);
          },
        )
    says_same cuts path (ReducedLeaf den parts lists groups) NoPlan is = refuted_same by cuts path den parts lists groups is
    says_same cuts path (ReducedLeaf den parts lists groups) (AtLeast bound) is = bound_same by cuts path den parts lists groups bound is

    leaves_same : (rows : List LinRow) (claim : Claim) (path : List Bound) (t : TreeShape) → EachLeaf (SaysEnough m a rows r claim) path t → EachLeaf (SaysEnough m b rows s claim) path t
    leaves_same rows claim path (End leaf) (says, is, enough) = (says, says_same rows path leaf says is, enough)
    leaves_same rows claim path (Split c at low high) each = (leaves_same rows claim (low_path path c at) low each.0, leaves_same rows claim (high_path path c at) high each.1)

    tree_same : (path : List Bound) (t : TreeShape) → IsSplitTree m r path t → IsSplitTree m s path t
    tree_same path (End leaf) is = is
    tree_same path (Split c at low high) is =
        let e = left_same path c is.0.column in (
          record {
            column = is.0.column;
            low = subst (λ span. span.low ≤ at) e is.0.low;
            high = subst (λ span. at < span.high) e is.0.high;
          },
          tree_same (low_path path c at) low is.1,
          tree_same (high_path path c at) high is.2,
        )

    goes_same : (claim : Claim) (given : Option Plan) → GoesWith m r claim given → GoesWith m s claim given
    goes_same (Optimal c) given (p, e, f, within, costs) = (
      p,
      e,
      f,
      λ i t low high t_low t_high.
          let here = within i t low high t_low t_high in
          (subst (λ span. IsIn span (p.make i t)) (agree (X i t) (low, high, t_low, t_high)) here.0, subst (λ span. IsIn span (p.setup i t)) (agree (Y i t) (low, high, t_low, t_high)) here.1),
      costs,
    )
    goes_same Infeasible given goes = goes
    goes_same (BoundOf c) given goes = goes

  -- ---- sums
  small_same : (cuts : List LinRow) (path : List Bound) (parts : List Part) → AreParts (names m a cuts path) parts → AreSmall (names m a cuts path) parts → AreSmall (names m b cuts path) parts
  small_same cuts path parts are is =
      let e = rows_same cuts path parts are in
      record {
        columns = λ c. subst (λ rows. column_amount rows (times_of parts) c < 2 ^ 127) e (is.columns c);
        right = subst (λ rows. right_amount rows (times_of parts) < 2 ^ 127) e is.right;
      }

-- ---- cuts
module _ (m : Problem) (v w : ℕ → ℕ → ℕ) (i : ℕ) (same : EachItem m (λ j. v i j ≡ w i j)) where
  -- what items have, by either weights
  weighed_same : (f : ℕ → ℕ) → in_echelon m v i f ≡ in_echelon m w i f
  weighed_same f = sum_to-same (item_count m) (λ j. v i j * f j) (λ j. w i j * f j) (λ j low high. ap (λ k. k * f j) (same j low high))

  backs_same : backs_in m v i ≡ backs_in m w i
  backs_same = sum_to-same (item_count m) (λ j. if is_some (item_at m j).backlog_cost then v i j else 0) (λ j. if is_some (item_at m j).backlog_cost then w i j else 0) (λ j low high. ap (λ k. if is_some (item_at m j).backlog_cost then k else 0) (same j low high))

  alike : AreAlike (echelon_at m v i) (echelon_at m w i)
  alike = record {
    item = refl;
    items = refl;
    periods = refl;
    demand = λ t low high. weighed_same (λ j. demand m j t);
    opening = weighed_same (λ j. (item_at m j).opening);
    end_min = weighed_same (λ j. (item_at m j).end_min);
    weight = same;
    back = λ j low high. refl;
    owing = ap (nat_lt 0) backs_same;
  }

  echelon_same : HasEchelon m v i → HasEchelon m w i
  echelon_same has = record { low = has.low; high = has.high; lead_free = λ j low high goes. has.lead_free j low high (omega (arith, goes, same j low high)) }

module _ (m : Problem) (a b : ℕ → ℕ) (v w : ℕ → ℕ → ℕ) (totals : EachItem m (λ i. a i ≡ b i)) (weights : EachItem m (λ i. EachItem m (λ k. v i k ≡ w i k))) (by : AreSameSums m a b) where
  cut_same : (earlier : List LinRow) (c : CutShape) (r : LinRow) → IsCutRow m a v earlier c r → IsCutRow m b w earlier c r
  cut_same earlier (LsCut item last chosen) r is =
      let h = is.0.echelon in
      let same = weights item h.low h.high in (
        record { echelon = echelon_same m v w item same h; low = is.0.low; high = is.0.high; size = is.0.size },
        is.1 ∙ ls_row_same (echelon_at m v item) (echelon_at m w item) (alike m v w item same) last (marked chosen) is.0.high,
      )
  cut_same earlier (PriceCut item l) r is =
      let h = is.0.echelon in
      let same = weights item h.low h.high in (
        record { echelon = echelon_same m v w item same h; price = is.0.price; prices = is.0.prices },
        is.1 ∙ price_row_same (echelon_at m v item) (echelon_at m w item) (alike m v w item same) l.price l.unit l.hold l.back,
      )
  cut_same earlier (BlockCut item l) r is =
      let h = is.0.echelon in
      let same = weights item h.low h.high in
      let both = alike m v w item same in (
        record {
          echelon = echelon_same m v w item same h;
          setup = is.0.setup;
          prices = is.0.prices;
          steps = is.0.steps;
          potentials = subst (λ s. ArePotentials s l.steps) (priced_same (echelon_at m v item) (echelon_at m w item) both l.setup l.unit l.hold l.back) is.0.potentials;
        },
        is.1 ∙ block_row_same (echelon_at m v item) (echelon_at m w item) both l.setup l.unit l.hold l.back l.steps,
      )
  cut_same earlier (RoundCut divisor parts) r is =
      let are = is.0.parts_exist in (
        record { low = is.0.low; high = is.0.high; parts_exist = parts_same m a b totals earlier [] parts are },
        subst (λ rows. IsRounded rows (times_of parts) divisor r) (rows_same m a b totals earlier [] parts are) is.1,
      )

  cuts_same : (earlier : List LinRow) (cuts : List CutShape) (rows : List LinRow) → AreCutRows m a v earlier cuts rows → AreCutRows m b w earlier cuts rows
  cuts_same earlier [] [] is = is
  cuts_same earlier [] (r ∷ rows) is = is
  cuts_same earlier (c ∷ cuts) [] is = is
  cuts_same earlier (c ∷ cuts) (r ∷ rows) is = (cut_same earlier c r is.0, cuts_same (earlier ++ (r ∷ [])) cuts rows is.1)

  pub accepted_same : (r s : Ranges) → AreSameRanges m r s → (c : Shape) (given : Option Plan) → IsAccepted m a v r c given → IsAccepted m b w s c given
  accepted_same r s agree c given is = record {
    rows = is.rows;
    cuts = cuts_same [] c.cuts is.rows is.cuts;
    tree = tree_same m a b totals by r s agree [] c.tree is.tree;
    leaves = leaves_same m a b totals by r s agree is.rows c.claim [] c.tree is.leaves;
    plan = goes_same m a b totals by r s agree c.claim given is.plan;
  }

  small_cuts_same : (earlier : List LinRow) (cuts : List CutShape) (rows : List LinRow) → AreCutRows m a v earlier cuts rows → AreSmallCuts m a earlier cuts rows → AreSmallCuts m b earlier cuts rows
  small_cuts_same earlier [] [] is small = small
  small_cuts_same earlier [] (r ∷ rows) is small = small
  small_cuts_same earlier (c ∷ cuts) [] is small = small
  small_cuts_same earlier (c ∷ cuts) (r ∷ rows) is small = (cut_small earlier c r is.0 small.0, small_cuts_same (earlier ++ (r ∷ [])) cuts rows is.1 small.1)
    where
      cut_small : (earlier : List LinRow) (c : CutShape) (r : LinRow) → IsCutRow m a v earlier c r → IsSmallCut m a earlier c → IsSmallCut m b earlier c
      cut_small earlier (LsCut item last chosen) r is small = small
      cut_small earlier (PriceCut item l) r is small = small
      cut_small earlier (BlockCut item l) r is small = small
      cut_small earlier (RoundCut divisor parts) r is small = small_same m a b totals earlier [] parts is.0.parts_exist small

  -- a sum by the other totals is one by these
  reduced_small : (cuts : List LinRow) (path : List Bound) (den : ℕ) (parts : List Part) (groups : List Group) → AreParts (names m a cuts path) parts → IsSmallWith (names m a cuts path) den parts groups → IsSmallWith (names m b cuts path) den parts groups
  reduced_small cuts path den parts groups are small =
      let e = rows_same m a b totals cuts path parts are in
      let rows = rows_of (names m a cuts path) parts in
      let times = times_of parts in
      let shapes = map shape_of groups in (
        small_same m a b totals cuts path parts are small.0,
        λ sum is.
            let back = by.back rows times den shapes sum (subst (λ rs. IsReducedSum m b rs times den shapes sum) (sym e) is) in
            subst (λ rs. IsSmallSum rs times sum) e (small.1 sum back),
      )

  leaf_small : (r : Ranges) (cuts : List LinRow) (path : List Bound) (leaf : LeafShape) (says : LeafSays) → Says (names m a cuts path) r leaf says → IsSmallLeaf (names m a cuts path) leaf → IsSmallLeaf (names m b cuts path) leaf
  leaf_small r cuts path (LinearLeaf den parts) NoPlan is small = absurd is
  leaf_small r cuts path (LinearLeaf den parts) (AtLeast bound) is small = small_same m a b totals cuts path parts is.parts_exist small
  leaf_small r cuts path (FarkasLeaf parts) NoPlan is small = small_same m a b totals cuts path parts is.parts_exist small
  leaf_small r cuts path (FarkasLeaf parts) (AtLeast bound) is small = absurd is
  leaf_small r cuts path PointLeaf says is small = small
  leaf_small r cuts path (ReducedLeaf den parts lists groups) NoPlan is small = reduced_small cuts path den (all_parts parts lists) groups is.listed.parts_exist small
  leaf_small r cuts path (ReducedLeaf den parts lists groups) (AtLeast bound) is small = reduced_small cuts path den (all_parts parts lists) groups is.listed.parts_exist small

  small_leaves_same : (r : Ranges) (rows : List LinRow) (claim : Claim) (path : List Bound) (t : TreeShape) → EachLeaf (SaysEnough m a rows r claim) path t → EachLeaf (λ q leaf. IsSmallLeaf (names m a rows q) leaf) path t → EachLeaf (λ q leaf. IsSmallLeaf (names m b rows q) leaf) path t
  small_leaves_same r rows claim path (End leaf) (says, is, enough) small = leaf_small r rows path leaf says is small
  small_leaves_same r rows claim path (Split c at low high) each small = (small_leaves_same r rows claim (low_path path c at) low each.0 small.0, small_leaves_same r rows claim (high_path path c at) high each.1 small.1)

  pub fits_same : (r : Ranges) (c : Shape) (given : Option Plan) → (is : IsAccepted m a v r c given) → Fits m a is.rows c → Fits m b is.rows c
  fits_same r c given is fits = record {
    cuts = small_cuts_same [] c.cuts is.rows is.cuts fits.cuts;
    leaves = small_leaves_same r is.rows c.claim [] c.tree is.leaves fits.leaves;
  }

-- the whole ranges of quantities and setups
pub whole_same : (m : Problem) (a b : ℕ → ℕ) → EachItem m (λ i. a i ≡ b i) → AreSameRanges m (whole_ranges a) (whole_ranges b)
whole_same m a b same (X i t) is = ap from_0 (same i is.0 is.1)
  where
    from_0 : ℕ → Span
    from_0 n = record { low = 0; high = n }
whole_same m a b same (Y i t) is = refl
whole_same m a b same (S i t) is = absurd is
whole_same m a b same (R i t) is = absurd is

-- What holds of a leaf goes on to hold on the sides of a branch, and later.
use Rattle.std.proofs.Common.{◌∙◌, ⊎_elim, ℕ, refl, sym, ap, subst, arith, Bool, List, [], ◌∷◌, ◌++◌, append_assoc}
use Rattle.std.proofs.lemmas.List.{append-nil}
use Rattle.lot_sizing.specs.Problem.{Problem}
use Rattle.lin_rows.specs.declared.bound.Bound.{Bound}
use Rattle.lin_rows.specs.declared.column.Column.{Column}
use Rattle.lin_rows.specs.Rows.{LinRow}
use Rattle.cert_lines.specs.Shapes.{FarkasLeaf, LeafShape, LinearLeaf, PointLeaf, ReducedLeaf, leaf_shape}
use Rattle.cert_trees.specs.Ranges.{Ranges, whole_ranges}
use Rattle.cert_meaning.specs.declared.says.LeafSays.{LeafSays}
use Rattle.cert_meaning.specs.declared.says.LeafSays.TheVariants.{NoPlan, AtLeast}
use Rattle.cert_meaning.specs.Named.{Named, names}
use Rattle.cert_meaning.specs.Says.{Says}
use Rattle.leaf_growth.specs.Growth.{IsOfRows, LeafSaysSmall}
use Rattle.leaf_growth.proofs.Growing.{said_on, said_stay, says_stay}
use Rattle.tree_search.specs.declared.node.Range.{Range}
use Rattle.tree_search.specs.declared.proposal.Proposal.{Proposal}
use Rattle.tree_search.specs.Ranges.{IsSplitAt}
use Rattle.tree_search.specs.Sides.{side_bound, side_path}
use Rattle.node_domains.specs.Sides.{path_of, point_at}
use Rattle.branching.specs.declared.knowing.Known.{Known}
use Rattle.branching.specs.Knowing.{IsAfter, IsAfterWith}
use Rattle.branching.specs.Leaves.{IsGoodLeaf, IsGoodLeafWithin, IsKept, IsLasting, LeafSaysWithin, said}

-- ---- leaves
-- below a node its leaf says the same
good_on : (m : Problem) (version least : ℕ) (rows : List LinRow) (path further : List Bound) (p : Proposal) → IsOfRows (leaf_shape p.leaf) → IsGoodLeaf m version least rows path p → IsGoodLeaf m version least rows (path ++ further) p
good_on m version least rows path further p of good = record {
  says = subst (λ (list : List LinRow). LeafSaysSmall m list (path ++ further) (leaf_shape p.leaf) (said p.says)) (append-nil rows) (said_on m rows [] path further (leaf_shape p.leaf) (said p.says) of good.says);
  lines = good.lines;
  no_less = good.no_less;
  small = good.small;
}

pub lasting_on : (m : Problem) (version least : ℕ) (rows : List LinRow) (path further : List Bound) (p : Proposal) → IsLasting m version least rows path p → IsLasting m version least rows (path ++ further) p
lasting_on m version least rows path further p is = record {
  good = good_on m version least rows path further p is.of_rows is.good;
  of_rows = is.of_rows;
}

-- a leaf of rows says over any ranges what it says over others
pub says_anyway : (n : Named) (a b : Ranges) (leaf : LeafShape) (says : LeafSays) → IsOfRows leaf → Says n a leaf says → Says n b leaf says
says_anyway n a b (LinearLeaf den parts) NoPlan of is = absurd is
says_anyway n a b (LinearLeaf den parts) (AtLeast bound) of is = is
says_anyway n a b (FarkasLeaf parts) NoPlan of is = is
says_anyway n a b (FarkasLeaf parts) (AtLeast bound) of is = absurd is
says_anyway n a b PointLeaf says of is = absurd of
says_anyway n a b (ReducedLeaf den parts lists groups) NoPlan of is = is
says_anyway n a b (ReducedLeaf den parts lists groups) (AtLeast bound) of is = is

pub within_any : (m : Problem) (ranges : Ranges) (rows : List LinRow) (path : List Bound) (leaf : LeafShape) (says : LeafSays) → IsOfRows leaf → LeafSaysSmall m rows path leaf says → LeafSaysWithin m ranges rows path leaf says
within_any m ranges rows path leaf says of is = record {
  said = λ total totals. says_anyway (names m total rows path) (whole_ranges total) ranges leaf says of (is.said total totals);
  small = is.small;
}

pub says_small : (m : Problem) (ranges : Ranges) (rows : List LinRow) (path : List Bound) (leaf : LeafShape) (says : LeafSays) → IsOfRows leaf → LeafSaysWithin m ranges rows path leaf says → LeafSaysSmall m rows path leaf says
says_small m ranges rows path leaf says of is = record {
  said = λ total totals. says_anyway (names m total rows path) ranges (whole_ranges total) leaf says of (is.said total totals);
  small = is.small;
}

pub good_lasts : (m : Problem) (ranges : Ranges) (version least : ℕ) (rows : List LinRow) (path : List Bound) (p : Proposal) → IsOfRows (leaf_shape p.leaf) → IsGoodLeafWithin m ranges version least rows path p → IsGoodLeaf m version least rows path p
good_lasts m ranges version least rows path p of good = record {
  says = says_small m ranges rows path (leaf_shape p.leaf) (said p.says) of good.says;
  lines = good.lines;
  no_less = good.no_less;
  small = good.small;
}

pub good_within : (m : Problem) (ranges : Ranges) (version least : ℕ) (rows : List LinRow) (path : List Bound) (p : Proposal) → IsOfRows (leaf_shape p.leaf) → IsGoodLeaf m version least rows path p → IsGoodLeafWithin m ranges version least rows path p
good_within m ranges version least rows path p of good = record {
  says = within_any m ranges rows path (leaf_shape p.leaf) (said p.says) of good.says;
  lines = good.lines;
  no_less = good.no_less;
  small = good.small;
}

pub kept_lasts : (m : Problem) (ranges : Ranges) (version least : ℕ) (rows : List LinRow) (most : Bool) (rs : List Range) (path : List Bound) (c : Column) (k at : ℕ) (p : Proposal) → IsKept m ranges version least rows rs path p → IsSplitAt rs k at → IsLasting m version least rows (side_path most path c at) p
kept_lasts m ranges version least rows most rs path c k at p is split =
    ⊎_elim
    (λ of. subst (λ way. IsLasting m version least rows way p) (sym (path_of most path c at)) (lasting_on m version least rows path (side_bound most c at ∷ []) p (record { good = good_lasts m ranges version least rows path p of is.good; of_rows = of })))
    (λ point. absurd (omega (arith, split.1, split.2, point_at rs k split.0 point)))
    is.kind

-- with more rows a leaf says the same
pub good_stays : (m : Problem) (version least : ℕ) (rows more : List LinRow) (path : List Bound) (p : Proposal) → IsGoodLeaf m version least rows path p → IsGoodLeaf m version least (rows ++ more) path p
good_stays m version least rows more path p good = record {
  says = said_stay m rows more path (leaf_shape p.leaf) (said p.says) good.says;
  lines = good.lines;
  no_less = good.no_less;
  small = good.small;
}

within_stays : (m : Problem) (ranges : Ranges) (rows more : List LinRow) (path : List Bound) (leaf : LeafShape) (says : LeafSays) → LeafSaysWithin m ranges rows path leaf says → LeafSaysWithin m ranges (rows ++ more) path leaf says
within_stays m ranges rows more path leaf says is = record {
  said = λ total totals. (says_stay m total ranges rows more path leaf says (record { said = is.said total totals; small = is.small total totals })).said;
  small = λ total totals. (says_stay m total ranges rows more path leaf says (record { said = is.said total totals; small = is.small total totals })).small;
}

good_stays_within : (m : Problem) (ranges : Ranges) (version least : ℕ) (rows more : List LinRow) (path : List Bound) (p : Proposal) → IsGoodLeafWithin m ranges version least rows path p → IsGoodLeafWithin m ranges version least (rows ++ more) path p
good_stays_within m ranges version least rows more path p good = record {
  says = within_stays m ranges rows more path (leaf_shape p.leaf) (said p.says) good.says;
  lines = good.lines;
  no_less = good.no_less;
  small = good.small;
}

pub kept_stays : (m : Problem) (ranges : Ranges) (version least : ℕ) (a b : Known) (rs : List Range) (path : List Bound) (p : Proposal) → IsAfter a b → IsKept m ranges version least a.rows.items rs path p → IsKept m ranges version least b.rows.items rs path p
kept_stays m ranges version least a b rs path p after is = record {
  good = subst (λ (list : List LinRow). IsGoodLeafWithin m ranges version least list path p) (sym after.rows) (good_stays_within m ranges version least a.rows.items after.more path p is.good);
  kind = is.kind;
}

pub lasting_stays : (m : Problem) (version least : ℕ) (a b : Known) (path : List Bound) (p : Proposal) → IsAfter a b → IsLasting m version least a.rows.items path p → IsLasting m version least b.rows.items path p
lasting_stays m version least a b path p after is = record {
  good = subst (λ (list : List LinRow). IsGoodLeaf m version least list path p) (sym after.rows) (good_stays m version least a.rows.items after.more path p is.good);
  of_rows = is.of_rows;
}

-- ---- states
pub after_same : (a : Known) → IsAfter a a
after_same a = record { more = []; rows = sym (append-nil a.rows.items) }

pub after_on : (a b c : Known) → IsAfter a b → IsAfter b c → IsAfter a c
after_on a b c first next = record {
  more = first.more ++ next.more;
  rows = next.rows ∙ ap (λ (list : List LinRow). list ++ next.more) first.rows ∙ append_assoc a.rows.items first.more next.more;
}

pub after_same_with : (a : Known) (may : Bool) → IsAfterWith a a may may
after_same_with a may = record { after = after_same a; may = refl }

pub after_on_with : (a b c : Known) (one two three : Bool) → IsAfterWith a b one two → IsAfterWith b c two three → IsAfterWith a c one three
after_on_with a b c one two three first next = record { after = after_on a b c first.after next.after; may = first.may ∙ next.may }

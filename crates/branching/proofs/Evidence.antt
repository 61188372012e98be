-- What the relaxation on a path says of a node, over any rows of cuts.
use Rattle.std.proofs.Common.{◌≡◌, ◌≤◌, ◌<◌, ◌^◌, ⊎_elim, inl, ℕ, sym, ap, subst, arith, true, List, [], Option, Some, None, Ok, Err}
use Rattle.std.specs.Prelude.{IfOk, IfSome, OnOk, Result}
use Rattle.std.proofs.lemmas.Nat.{mul-le}
use Rattle.lot_sizing.specs.Problem.{Problem}
use Rattle.lot_sizing.specs.Totals.{AreLargestTotals}
use Rattle.lin_rows.specs.declared.bound.Bound.{Bound}
use Rattle.lin_rows.specs.Rows.{LinRow}
use Rattle.cert_lines.specs.declared.parts.Leaf.{Leaf}
use Rattle.cert_lines.specs.Shapes.{FarkasLeaf, LeafShape, LinearLeaf, PointLeaf, ReducedLeaf, leaf_shape}
use Rattle.cert_trees.specs.Ranges.{Ranges, whole_ranges}
use Rattle.cert_meaning.specs.declared.says.LeafSays.{LeafSays}
use Rattle.cert_meaning.specs.declared.says.LeafSays.TheVariants.{NoPlan, AtLeast}
use Rattle.cert_meaning.specs.Named.{names}
use Rattle.leaf_growth.specs.Growth.{IsOfRows, LeafSaysSmall}
use Rattle.leaf_growth.specs.Written.{HasVersion, LeafHasLines}
use Rattle.leaf_growth.proofs.Amounts.{amount_small}
use Rattle.leaf_growth.proofs.Growing.{said_stay}
use Rattle.lp_bounds.specs.Path.{IsGoodLeaf as IsPathLeaf, IsMetAt, SaysAtLeast, SaysNone}
use Rattle.search_result.specs.declared.found.RootSays.{RootSays}
use Rattle.tree_search.specs.declared.node.Range.{Range}
use Rattle.tree_search.specs.declared.proposal.Proposal.{Proposal}
use Rattle.tree_search.specs.Costs.{IsAtMost}
use Rattle.tree_search.proofs.Endless.{at_most-trans as at_most_on, at_most-refl as at_most_same}
use Rattle.branching.specs.Branching.{within_any}
use Rattle.branching.specs.Leaves.{IsKept, IsRaised, IsEvidentAt, LeafSaysWithin, marked_examined, said}
use Rattle.branching.specs.Search.{IsEvidence}

-- a leaf of the path without cuts is one over any rows
over_rows : (m : Problem) (version : ℕ) (rows : List LinRow) (path : List Bound) (leaf : LeafShape) (says : LeafSays) → IsPathLeaf m path leaf says → LeafSaysSmall m rows path leaf says
over_rows m version rows path leaf says is = said_stay m [] rows path leaf says (record { said = is.said; small = is.small })

lines_of : (m : Problem) (version : ℕ) (path : List Bound) (leaf : LeafShape) (says : LeafSays) → HasVersion m version → IsPathLeaf m path leaf says → LeafHasLines version leaf
lines_of m version path leaf says known is = is.writable version known.exists known.plain

-- ---- a number
-- the leaf by linear duality
record IsNumber (m : Problem) (version : ℕ) (rows : List LinRow) (path : List Bound) (leaf : LeafShape) (bound : ℕ) : Type 0 where
  says : LeafSaysSmall m rows path leaf (AtLeast bound)
  lines : LeafHasLines version leaf
  of_rows : IsOfRows leaf

number : (m : Problem) (version : ℕ) (rows : List LinRow) (path : List Bound) (leaf : LeafShape) (bound : ℕ) → HasVersion m version → SaysAtLeast m path leaf bound → IsNumber m version rows path leaf bound
number m version rows path (LinearLeaf den parts) bound known is = record {
  says = over_rows m version rows path (LinearLeaf den parts) (AtLeast bound) is;
  lines = lines_of m version path (LinearLeaf den parts) (AtLeast bound) known is;
  of_rows = tt;
}
number m version rows path (FarkasLeaf parts) bound known is = absurd is
number m version rows path PointLeaf bound known is = absurd is
number m version rows path (ReducedLeaf den parts lists groups) bound known is = absurd is

-- a proposal of this leaf that says this is kept
pub kept_of : (m : Problem) (ranges : Ranges) (version least : ℕ) (rows : List LinRow) (rs : List Range) (path : List Bound) (p : Proposal) (leaf : LeafShape) (says : Option ℕ) → leaf_shape p.leaf ≡ leaf → p.says ≡ says → LeafSaysSmall m rows path leaf (said says) → LeafHasLines version leaf → IsAtMost (Some least) says → IfSome says (λ amount. amount < 2 ^ 127) → IsOfRows leaf → IsKept m ranges version least rows rs path p
kept_of m ranges version least rows rs path p leaf says same amount is lines no_less small of = record {
  good = record {
    says = subst (λ s. LeafSaysWithin m ranges rows path (leaf_shape p.leaf) (said s)) (sym amount) (subst (λ l. LeafSaysWithin m ranges rows path l (said says)) (sym same) (within_any m ranges rows path leaf (said says) of is));
    lines = subst (LeafHasLines version) (sym same) lines;
    no_less = subst (IsAtMost (Some least)) (sym amount) no_less;
    small = subst (λ s. IfSome s (λ n. n < 2 ^ 127)) (sym amount) small;
  };
  kind = inl (subst IsOfRows (sym same) of);
}

pub examined_kept : (m : Problem) (ranges : Ranges) (version least : ℕ) (rows : List LinRow) (rs : List Range) (path : List Bound) (p new : Proposal) → new ≡ marked_examined p → IsKept m ranges version least rows rs path p → IsKept m ranges version least rows rs path new
examined_kept m ranges version least rows rs path p new same is =
    let here : IsKept m ranges version least rows rs path (marked_examined p) = record {
      good = record { says = is.good.says; lines = is.good.lines; no_less = is.good.no_less; small = is.good.small };
      kind = is.kind;
    } in
    subst (IsKept m ranges version least rows rs path) (sym same) here

pub raised_kept : (m : Problem) (ranges : Ranges) (version least : ℕ) (total : ℕ → ℕ) (rows : List LinRow) (rs : List Range) (path : List Bound) (old new : Proposal) (leaf : Leaf) (bound : ℕ) → AreLargestTotals m total → HasVersion m version → SaysAtLeast m path (leaf_shape leaf) bound → IsRaised old leaf bound new → IsKept m ranges version least rows rs path old → IsKept m ranges version least rows rs path new
raised_kept m ranges version least total rows rs path old new leaf bound totals known says raised is =
    ⊎_elim
    (λ same. examined_kept m ranges version least rows rs path old new same.0 is)
    (λ more.
    let n = number m version rows path (leaf_shape leaf) bound known says in
    kept_of m ranges version least rows rs path new (leaf_shape leaf) (Some bound) (ap leaf_shape more.0) more.1 n.says n.lines (at_most_on (Some least) old.says (Some bound) is.good.no_less more.3)
    (amount_small (names m total rows path) (whole_ranges total) (leaf_shape leaf) bound n.of_rows (record { said = n.says.said total totals; small = n.says.small total totals }))
    n.of_rows)
    raised

-- ---- no point
record LeavesNone (m : Problem) (version : ℕ) (rows : List LinRow) (path : List Bound) (leaf : LeafShape) : Type 0 where
  says : LeafSaysSmall m rows path leaf NoPlan
  lines : LeafHasLines version leaf
  of_rows : IsOfRows leaf

none : (m : Problem) (version : ℕ) (rows : List LinRow) (path : List Bound) (leaf : LeafShape) → HasVersion m version → SaysNone m path leaf → LeavesNone m version rows path leaf
none m version rows path (LinearLeaf den parts) known is = absurd is
none m version rows path (FarkasLeaf parts) known is = record {
  says = over_rows m version rows path (FarkasLeaf parts) NoPlan is;
  lines = lines_of m version path (FarkasLeaf parts) NoPlan known is;
  of_rows = tt;
}
none m version rows path PointLeaf known is = absurd is
none m version rows path (ReducedLeaf den parts lists groups) known is = absurd is

pub none_kept : (m : Problem) (ranges : Ranges) (version least : ℕ) (rows : List LinRow) (rs : List Range) (path : List Bound) (new : Proposal) (leaf : Leaf) → HasVersion m version → SaysNone m path (leaf_shape leaf) → new.leaf ≡ leaf → new.says ≡ None → IsKept m ranges version least rows rs path new
none_kept m ranges version least rows rs path new leaf known says same amount =
    let n = none m version rows path (leaf_shape leaf) known says in
    kept_of m ranges version least rows rs path new (leaf_shape leaf) None (ap leaf_shape same) amount n.says n.lines tt tt n.of_rows

-- ---- evidence
met_more : (m : Problem) (path : List Bound) (a b : ℕ) → a ≤ b → IsMetAt m path a → IsMetAt m path b
met_more m path a b less met = λ total totals.
    let is = met total totals in
    record {
      point = is.point;
      base = is.base;
      bounds = is.bounds;
      cost = omega (arith, is.cost, mul-le a is.point.den b is.point.den less (omega arith));
    }

met_at_most : (m : Problem) (root : RootSays) (path : List Bound) (bound : ℕ) (says : Option ℕ) → IsAtMost (Some bound) says → IsMetAt m path bound → IfSome says (IsEvidence m root path)
met_at_most m root path bound None less met = tt
met_at_most m root path bound (Some amount) less met = inl (met_more m path bound amount less met)

pub raised_evident : (m : Problem) (root : RootSays) (path : List Bound) (old new : Proposal) (leaf : Leaf) (bound : ℕ) → IsMetAt m path bound → IsRaised old leaf bound new → IsEvidentAt m root path new
raised_evident m root path old new leaf bound met raised short =
    ⊎_elim
    (λ same. subst (λ (p : Proposal). IfSome p.says (IsEvidence m root path)) (sym same.0) (met_at_most m root path bound old.says same.1 met))
    (λ more. subst (λ s. IfSome s (IsEvidence m root path)) (sym more.1) (inl met))
    raised

pub raised_more : (old new : Proposal) (leaf : Leaf) (bound : ℕ) → IsRaised old leaf bound new → IsAtMost old.says new.says
raised_more old new leaf bound raised =
    ⊎_elim
    (λ same. subst (λ (p : Proposal). IsAtMost old.says p.says) (sym same.0) (at_most_same old.says))
    (λ more. subst (IsAtMost old.says) (sym more.1) more.3)
    raised

-- with another kind of evidence
some_evidence : (m : Problem) (root : RootSays) (path : List Bound) (says : Option ℕ) → ((amount : ℕ) → IsEvidence m root path amount) → IfSome says (IsEvidence m root path)
some_evidence m root path None all = tt
some_evidence m root path (Some amount) all = all amount

pub examined_evident : (m : Problem) (root : RootSays) (path : List Bound) (old new : Proposal) → new ≡ marked_examined old → ((amount : ℕ) → IsEvidence m root path amount) → IsEvidentAt m root path new
examined_evident m root path old new same all short = some_evidence m root path new.says all

pub examined_more : (old new : Proposal) → new ≡ marked_examined old → IsAtMost old.says new.says
examined_more old new same = subst (λ (p : Proposal). IsAtMost old.says p.says) (sym same) (at_most_same old.says)

-- what follows of what came back
pub ok_on : {A E : Type 0} (r : Result A E) (P Q : A → Type 0) → ((a : A) → P a → Q a) → IfOk r P → IfOk r Q
ok_on (Ok a) P Q f is = f a is
ok_on (Err e) P Q f is = tt

pub raised_examined : (old new : Proposal) (leaf : Leaf) (bound : ℕ) → IsRaised old leaf bound new → new.examined ≡ true
raised_examined old new leaf bound raised = ⊎_elim (λ same. ap (λ (p : Proposal). p.examined) same.0) (λ more. more.2) raised

pub marked_is_examined : (old new : Proposal) → new ≡ marked_examined old → new.examined ≡ true
marked_is_examined old new same = ap (λ (p : Proposal). p.examined) same

-- what holds anyway holds on success
pub anyway : {A E : Type 0} (r : Result A E) (P : Type 0) → P → OnOk r P
anyway (Ok a) P is = is
anyway (Err e) P is = tt

-- and so does what follows of it
pub then_on : {A E : Type 0} (r : Result A E) (P Q : Type 0) → (P → Q) → OnOk r P → OnOk r Q
then_on (Ok a) P Q f is = f is
then_on (Err e) P Q f is = tt

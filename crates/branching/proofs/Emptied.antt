-- The certificate that the root's relaxation has no point.
use Rattle.std.proofs.Common.{◌≡◌, ◌<◌, ◌^◌, ◌∙◌, ℕ, sym, ap, subst, arith, List, [], ◌∷◌, ◌++◌, Option, Some, None}
use Rattle.std.specs.Prelude.{IfSome, IsSomeAnd}
use Rattle.std.specs.List.{All}
use Rattle.std.proofs.lemmas.List.Elements.{All-head, All-tail}
use Rattle.lot_sizing.specs.Problem.{Problem}
use Rattle.lin_rows.specs.Rows.{LinRow}
use Rattle.cert_lines.specs.declared.parts.Claim.TheVariants.{Infeasible}
use Rattle.cert_lines.specs.declared.parts.Leaf.{Leaf}
use Rattle.cert_lines.specs.Shapes.{BlockCut, CutShape, FarkasLeaf, LeafShape, LinearLeaf, LsCut, PointLeaf, PriceCut, ReducedLeaf, RoundCut, leaf_shape}
use Rattle.certificate.specs.declared.tree.Tree.{Tree}
use Rattle.certificate.specs.declared.tree.Tree.TheVariants as tree
use Rattle.certificate.specs.Limits.{IsWritable}
use Rattle.certificate.specs.Counts.{node_count}
use Rattle.certificate.specs.Shapes.{Shape, shape_of, tree_shape}
use Rattle.cert_meaning.specs.declared.says.LeafSays.TheVariants.{NoPlan}
use Rattle.cert_trees.specs.Ranges.{Ranges}
use Rattle.cert_meaning.specs.Accepts.{AreSmallCuts, IsTrueWithin}
use Rattle.cert_meaning.specs.CutRows.{AreCutRows}
use Rattle.cert_checker.specs.Checks.{line_count, plan_given}
use Rattle.cert_checker.specs.Cuts.{OfProblem}
use Rattle.leaf_growth.specs.Written.{HasVersion}
use Rattle.search_result.specs.declared.found.Found.{Found}
use Rattle.search_result.specs.declared.found.RootSays.{RootSays}
use Rattle.search_result.specs.declared.found.RootSays.TheVariants as root
use Rattle.lp_relaxation.specs.Rounds.{IsLs}
use Rattle.lp_root.specs.declared.round_leaf.Root.{Root}
use Rattle.lp_root.specs.Root.{HasLeafLines, HaveRootRows, SaysNone, SaysOf, root_cuts}
use Rattle.branching.specs.Answer.{IsRootOf}
use Rattle.branching.specs.Leaves.{LeafSaysWithin}
use Rattle.branching.specs.SearchWithin.{IsCertifiedWithin, IsProvedWithin}
use Rattle.node_domains.specs.Within.{AreInside}
use Rattle.branching.proofs.Proved.{Grounds, IsEnoughAt, IsShownBy, proved_shape}

small_ls : (m : Problem) (total : ℕ → ℕ) (weight : ℕ → ℕ → ℕ) (earlier : List LinRow) (cuts : List CutShape) (rows : List LinRow) → All IsLs cuts → AreCutRows m total weight earlier cuts rows → AreSmallCuts m total earlier cuts rows
small_ls m total weight earlier [] [] ls are = tt
small_ls m total weight earlier [] (r ∷ rows) ls are = absurd are
small_ls m total weight earlier (c ∷ cuts) [] ls are = absurd are
small_ls m total weight earlier (LsCut item last chosen ∷ cuts) (r ∷ rows) ls are = (tt, small_ls m total weight (earlier ++ (r ∷ [])) cuts rows (All-tail IsLs (LsCut item last chosen) cuts ls) are.1)
small_ls m total weight earlier (PriceCut item a ∷ cuts) (r ∷ rows) ls are = absurd (All-head IsLs (PriceCut item a) cuts ls)
small_ls m total weight earlier (BlockCut item a ∷ cuts) (r ∷ rows) ls are = absurd (All-head IsLs (BlockCut item a) cuts ls)
small_ls m total weight earlier (RoundCut divisor parts ∷ cuts) (r ∷ rows) ls are = absurd (All-head IsLs (RoundCut divisor parts) cuts ls)

none_said : (m : Problem) (ranges : Ranges) (rows : List LinRow) (leaf : LeafShape) → SaysNone m rows leaf → LeafSaysWithin m ranges rows [] leaf NoPlan
none_said m ranges rows (LinearLeaf den parts) is = absurd is
none_said m ranges rows (FarkasLeaf parts) is = record { said = is.said; small = is.small }
none_said m ranges rows PointLeaf is = absurd is
none_said m ranges rows (ReducedLeaf den parts lists groups) is = absurd is

abbrev pub none_shape : ℕ → Root → Tree → Shape
none_shape version r t = record { version = version; claim = Infeasible; cuts = root_cuts r; tree = tree_shape t }

-- the root's leaf alone says enough
pub record IsOneLeaf (m : Problem) (ranges : Ranges) (version : ℕ) (rows : List LinRow) (t : Tree) : Type 0 where
  pub leaf : Leaf
  pub only : t ≡ tree.Leaf leaf
  pub enough : IsEnoughAt m ranges version rows Infeasible [] (leaf_shape leaf)

leaf_enough : (m : Problem) (ranges : Ranges) (version : ℕ) (rows : List LinRow) (leaf : Option Leaf) (t : Tree) → HasVersion m version → HasLeafLines m leaf → IsSomeAnd leaf (λ a. SaysNone m rows (leaf_shape a)) → IfSome leaf (λ a. t ≡ tree.Leaf a) → IsOneLeaf m ranges version rows t
leaf_enough m ranges version rows None t known lines says is = absurd says
leaf_enough m ranges version rows (Some a) t known lines says is = record {
  leaf = a;
  only = is;
  enough = record { amount = NoPlan; says = none_said m ranges rows (leaf_shape a) says; enough = tt; lines = lines version known.plain };
}

none_shown : (m : Problem) (ranges : Ranges) (version : ℕ) (r : Root) (leaf : Leaf) → AreInside m ranges → IsRootOf m r → HasVersion m version → (rows : List LinRow) → HaveRootRows m (root_cuts r) rows → IsEnoughAt m ranges version rows Infeasible [] (leaf_shape leaf) → IsShownBy m ranges (none_shape version r (tree.Leaf leaf)) rows None
none_shown m ranges version r leaf inside is known rows have enough = record {
  version = known;
  amount = tt;
  good = λ total weight totals weights. record {
    are = have.rows_are total weight totals weights;
    small = small_ls m total weight [] (root_cuts r) rows have.are_ls (have.rows_are total weight totals weights);
  };
  few = have.few;
  lines = is.writable.cut_lines version;
  inside = inside;
  split = tt;
  paths = omega arith;
  leaves = enough;
  comes = tt;
  within = tt;
  nodes = omega arith;
}

pub none_proved : (m : Problem) (ranges : Ranges) (version : ℕ) (r : Root) (t : Tree) (found : Found) → Grounds m → AreInside m ranges → IsRootOf m r → r.says ≡ root.Empty → HasVersion m version → IfSome r.leaf (λ a. t ≡ tree.Leaf a) → shape_of found.certificate ≡ none_shape version r t → found.plan ≡ None → found.nodes ≡ 1 → IsProvedWithin m ranges found
none_proved m ranges version r t found by inside is says known given shape without alone =
    let means = is.means in
    let P : RootSays → Type 0 = λ said. SaysOf m said (root_cuts r) means.rows r.leaf in
    let said = subst P says means.says in
    let one = leaf_enough m ranges version means.rows r.leaf t known is.writable.leaf_lines said.1.1 given in
    let whole : shape_of found.certificate ≡ none_shape version r (tree.Leaf one.leaf) = shape ∙ ap (λ x. none_shape version r x) one.only in
    let p = proved_shape m by ranges (none_shape version r (tree.Leaf one.leaf)) means.rows None (none_shown m ranges version r one.leaf inside is known means.rows means.cuts one.enough) in
    record {
      writable = subst IsWritable (sym whole) p.writable;
      lines = subst (λ (c : Shape). line_count c < 2 ^ 63) (sym whole) p.lines;
      certified = subst (λ (c : Shape). OfProblem m (λ total weight. IsCertifiedWithin m total weight ranges c found.plan)) (sym whole) (subst (λ q. OfProblem m (λ total weight. IsCertifiedWithin m total weight ranges (none_shape version r (tree.Leaf one.leaf)) q)) (sym without) p.certified);
      claim = subst (λ (c : Shape). IsTrueWithin m ranges c.claim (plan_given found.plan)) (sym whole) (subst (λ q. IsTrueWithin m ranges Infeasible (plan_given q)) (sym without) p.claim);
      nodes = alone ∙ sym (ap (λ (c : Shape). node_count c.tree) whole);
    }

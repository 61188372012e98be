-- Plans lie at one leaf.
use Rattle.std.proofs.Common.{◌≤◌, ◌+◌, ⊎_elim, ℕ, zero, suc, ap, arith, [], slice_index_or}
use Rattle.std.proofs.lemmas.Bool.{cases_eq}
use Rattle.std.proofs.lemmas.List.Elements.{All-nil}
use Rattle.lot_sizing.specs.Sums.{sum_to}
use Rattle.lot_sizing.specs.Problem.{Problem}
use Rattle.lot_sizing.specs.Plan.{Plan, IsFeasible}
use Rattle.lot_sizing.specs.Totals.{AreLargestTotals, IsRanking}
use Rattle.lot_sizing.proofs.Totals.{made_at_most}
use Rattle.lin_rows.specs.Columns.{value_in}
use Rattle.certificate.specs.Shapes.{TreeShape}
use Rattle.cert_trees.specs.Ranges.{IsChoice, IsWithin, Ranges, whole_ranges}
use Rattle.cert_trees.specs.Paths.{AreChoices}
use Rattle.cert_trees.specs.Trees.{IsSplitTree, LiesAtOne, leaf_paths, lies_at}
use Rattle.cert_trees.proofs.Counting.{one_leaf}
use Rattle.cert_trees.proofs.Left.{ranges_left}
use Rattle.cert_trees.proofs.Places.{lies_met, only_place}
use Rattle.cert_trees.proofs.Walk.{choice_leaves, each_path}

one_of : (n : ℕ) (f : ℕ → ℕ) (j : ℕ) → 1 ≤ j → j ≤ n → f j ≤ sum_to n f
one_of zero f j low high = absurd (omega (arith, low, high))
one_of (suc n) f j low high =
    ⊎_elim
    (λ last. omega (arith, ap f last))
    (λ before. omega (arith, one_of n f j low (omega (arith, high, before))))
    (cases_eq j (suc n))

-- each feasible plan is within the whole ranges
pub within_whole : (m : Problem) (rank total : ℕ → ℕ) → 1 ≤ m.periods → IsRanking m rank → AreLargestTotals m total → (p : Plan) → IsFeasible m p → IsWithin m (whole_ranges total) p
within_whole m rank total some ranks totals p f i t low high t_low t_high =
    let made = made_at_most m p rank total some f ranks totals (rank i + 1) i low high (omega arith) in
    ((omega arith, omega (arith, made, one_of m.periods (p.make i) t t_low t_high)), (omega arith, f.setup i t low high t_low t_high))

-- each plan within the ranges lies at one leaf
pub lies_at_one : (m : Problem) (ranges : Ranges) (t : TreeShape) → IsSplitTree m ranges [] t → (p : Plan) → IsWithin m ranges p → LiesAtOne m ranges (leaf_paths [] t) p
lies_at_one m ranges t split p within =
    let v = value_in p in
    let paths = leaf_paths [] t in
    let none : AreChoices m [] = All-nil (λ b. IsChoice m b.column) in
    let choices = each_path (AreChoices m) [] t (choice_leaves m ranges [] t split none) in
    let one = only_place (lies_at v) [] paths (one_leaf v t) in
    let at = slice_index_or paths one.place [] in
    record {
      place = one.place;
      exists = one.exists;
      within = (ranges_left m ranges at (choices one.place [] one.exists) p).1 (within, (lies_met v at).0 one.holds);
      only = λ k less is. let q = slice_index_or paths k [] in one.only k less ((lies_met v q).1 ((ranges_left m ranges q (choices k [] less) p).0 is).1);
    }

-- How many leaves a tree has, and that values lie at one of them.
use Rattle.std.proofs.Common.{◌≡◌, ◌+◌, ◌*◌, ◌∙◌, ℕ, refl, ap, arith, Bool, true, false, List, [], ◌∷◌, ◌++◌, length, length-append}
use Rattle.std.specs.Prelude.{◌&&◌, nat_le, cond, count_by}
use Rattle.std.proofs.lemmas.List.Sums.{sum_by-append}
use Rattle.lin_rows.specs.declared.bound.Bound.{Bound}
use Rattle.lin_rows.specs.Rows.{Values}
use Rattle.certificate.specs.Counts.{node_count}
use Rattle.certificate.specs.Shapes.{End, Split, TreeShape}
use Rattle.cert_trees.specs.Paths.{at_least, at_most}
use Rattle.cert_trees.specs.Trees.{high_path, is_met, leaf_count, leaf_paths, lies_at, low_path}

pub odd_nodes : (t : TreeShape) → node_count t + 1 ≡ 2 * leaf_count t
odd_nodes (Split c at low high) = omega (arith, odd_nodes low, odd_nodes high)
odd_nodes (End leaf) = refl

pub all_paths : (path : List Bound) (t : TreeShape) → length (leaf_paths path t) ≡ leaf_count t
all_paths path (Split c at low high) =
    let a = leaf_paths (low_path path c at) low in
    let b = leaf_paths (high_path path c at) high in
    omega (arith, length-append a b, all_paths (low_path path c at) low, all_paths (high_path path c at) high)
all_paths path (End leaf) = refl

and_true : (b : Bool) → (b && true) ≡ b
and_true true = refl
and_true false = refl

and_assoc : (a b c : Bool) → (a && (b && c)) ≡ ((a && b) && c)
and_assoc true b c = refl
and_assoc false b c = refl

-- one bound more
lies_more : (v : Values) (path : List Bound) (b : Bound) → lies_at v (path ++ (b ∷ [])) ≡ (lies_at v path && is_met v b)
lies_more v [] b = and_true (is_met v b)
lies_more v (a ∷ path) b = ap (λ k. is_met v a && k) (lies_more v path b) ∙ and_assoc (is_met v a) (lies_at v path) (is_met v b)

one_if : Bool → ℕ
one_if b = cond b 1 0

-- one of the two sides
one_side : (b : Bool) (at x : ℕ) → cond (b && nat_le x at) 1 0 + cond (b && nat_le (at + 1) x) 1 0 ≡ cond b 1 0
one_side true at x = grind arith
one_side false at x = refl

leaves_met : (v : Values) (path : List Bound) (t : TreeShape) → count_by (lies_at v) (leaf_paths path t) ≡ cond (lies_at v path) 1 0
unfolding one_if
leaves_met v path (End leaf) = omega arith
leaves_met v path (Split c at low high) =
    let a = low_path path c at in
    let b = high_path path c at in
    omega (arith, sum_by-append (λ q. cond (lies_at v q) 1 0) (leaf_paths a low) (leaf_paths b high), leaves_met v a low, leaves_met v b high, ap one_if (lies_more v path (at_most c at)), ap one_if (lies_more v path (at_least c (at + 1))), one_side (lies_at v path) at (v c))

pub one_leaf : (v : Values) (t : TreeShape) → count_by (lies_at v) (leaf_paths [] t) ≡ 1
one_leaf v t = leaves_met v [] t

-- What a search gives in the end.
use Rattle.std.proofs.Common.{◌≡◌, ◌≤◌, ◌<◌, ◌+◌, ◌*◌, ◌-◌, ◌/◌, ◌∙◌, ℕ, sym, refl, subst, arith, rules, List, [], length, Option, Some, None, true}
use Rattle.cert_lines.specs.declared.limits.TheConstants.{MAX_BRANCHES}
use Rattle.lin_rows.specs.declared.bound.Bound.{Bound as BoundOf}
use Rattle.tree_search.specs.declared.sought.Sought.{Sought as Tree}
use Rattle.tree_search.specs.declared.sought.Sought.TheVariants.{Branch', Leaf as LeafOf}
use Rattle.tree_search.specs.declared.node.Range.{Range}
use Rattle.cert_lines.specs.declared.parts.Claim.{Claim}
use Rattle.cert_lines.specs.declared.parts.Claim.TheVariants.{Optimal, Infeasible, Bound}
use Rattle.tree_search.specs.Counts.{branches, longest, nodes}
use Rattle.tree_search.specs.Ranges.{IsAllowed, IsSplitAt, high_side, low_side}
use Rattle.tree_search.specs.Costs.{IsBelow}
use Rattle.tree_search.specs.Trees.{AtLeaf, EachLeaf, IsAllowedTree, IsSplitTree, Rules, high_path, least_said, low_path}
use Rattle.tree_search.specs.Growing.{AreBranches, EachEnd, IsMarkedDeep, IsSettled, IsSound, wanted, wanted_of}
use Rattle.tree_search.specs.Claims.{IsLeastClaim, IsOpenDeep, IsEvidenced}
use Rattle.tree_search.proofs.Endless.{below_endless}
use Rattle.tree_search.proofs.Trees.{IsGrown, IsOpenApart, each_both, each_map, high_path-length, low_path-length}

-- ranges that are found by the places in a tree are those of its columns
pub each_of_ends : (rules : Rules) (P : AtLeaf) (rs : List Range) (path : List BoundOf) (tree : Tree) → AreBranches rules rs path tree → EachEnd P rs path tree → EachLeaf rules.place P rs path tree
each_of_ends rules P rs path (Branch' c spot at p low q high) b h =
    let e : rules.place c ≡ spot = b.0.place in (
      subst (λ x. EachLeaf rules.place P (low_side rs x at) (low_path path c at) low) (sym e) (each_of_ends rules P (low_side rs spot at) (low_path path c at) low b.1 h.0),
      subst (λ x. EachLeaf rules.place P (high_side rs x at) (high_path path c at) high) (sym e) (each_of_ends rules P (high_side rs spot at) (high_path path c at) high b.2 h.1),
    )
each_of_ends rules P rs path (LeafOf leaf) b h = h

pub split_of_branches : (rules : Rules) (rs : List Range) (path : List BoundOf) (tree : Tree) → AreBranches rules rs path tree → IsSplitTree rules.place rs tree
split_of_branches rules rs path (Branch' c spot at p low q high) b =
    let e : rules.place c ≡ spot = b.0.place in (
      subst (λ x. IsSplitAt rs x at) (sym e) b.0.split,
      subst (λ x. IsSplitTree rules.place (low_side rs x at) low) (sym e) (split_of_branches rules (low_side rs spot at) (low_path path c at) low b.1),
      subst (λ x. IsSplitTree rules.place (high_side rs x at) high) (sym e) (split_of_branches rules (high_side rs spot at) (high_path path c at) high b.2),
    )
split_of_branches rules rs path (LeafOf leaf) b = tt

allowed_of_branches : (rules : Rules) (rs : List Range) (path : List BoundOf) (tree : Tree) → AreBranches rules rs path tree → IsAllowedTree rules.place rs path tree
allowed_of_branches rules rs path (Branch' c spot at p low q high) b =
    let e : rules.place c ≡ spot = b.0.place in (
      subst (λ x. IsAllowed (length path) rs x at) (sym e) b.0.allowed,
      subst (λ x. IsAllowedTree rules.place (low_side rs x at) (low_path path c at) low) (sym e) (allowed_of_branches rules (low_side rs spot at) (low_path path c at) low b.1),
      subst (λ x. IsAllowedTree rules.place (high_side rs x at) (high_path path c at) high) (sym e) (allowed_of_branches rules (high_side rs spot at) (high_path path c at) high b.2),
    )
allowed_of_branches rules rs path (LeafOf leaf) b = tt

pub short_of_branches : (rules : Rules) (rs : List Range) (path : List BoundOf) (tree : Tree) → length path ≤ MAX_BRANCHES → AreBranches rules rs path tree → length path + longest tree ≤ MAX_BRANCHES
short_of_branches rules rs path (Branch' c spot at p low q high) h b =
    let s : length path < MAX_BRANCHES = b.0.short in
    let one = short_of_branches rules (low_side rs spot at) (low_path path c at) low (omega (arith, s, low_path-length path c at)) b.1 in
    let two = short_of_branches rules (high_side rs spot at) (high_path path c at) high (omega (arith, s, high_path-length path c at)) b.2 in
    omega (arith, one, two, low_path-length path c at, high_path-length path c at)
short_of_branches rules rs path (LeafOf leaf) h b = omega (arith, h)

pub nodes_of_branches : (tree : Tree) → nodes tree ≡ 2 * branches tree + 1
nodes_of_branches (Branch' c spot at p low q high) = omega (arith, nodes_of_branches low, nodes_of_branches high)
nodes_of_branches (LeafOf leaf) = refl

-- what is left open is left open for want of nodes or depth
pub grown : (rules : Rules) (H T : AtLeaf) (best : Option ℕ) (budget room : ℕ) (rs : List Range) (tree : Tree) → 1 ≤ budget → branches tree + room ≡ (budget - 1) / 2 → AreBranches rules rs [] tree → EachEnd (IsSound H T best) rs [] tree → (1 ≤ room → EachEnd (IsMarkedDeep None best) rs [] tree) → IsGrown rules best budget rs [] tree
grown rules H T best budget room rs tree some count b s deep =
    record {
      within = omega (arith, some, count, nodes_of_branches tree);
      short = short_of_branches rules rs [] tree (omega arith) b;
      split = split_of_branches rules rs [] tree b;
      allowed = allowed_of_branches rules rs [] tree b;
      apart = each_map rules.place (IsSound H T best) (IsOpenApart rules best) (λ x y leaf h. h.apart) rs [] tree (each_of_ends rules (IsSound H T best) rs [] tree b s);
      deep = λ more.
          each_map rules.place (IsMarkedDeep None best) (IsOpenDeep rules best) (λ x y leaf h below. h (below_endless leaf.says best below) below) rs [] tree
          (each_of_ends rules (IsMarkedDeep None best) rs [] tree b (deep (omega (arith, more, some, count, nodes_of_branches tree))));
    }

pub held : (rules : Rules) (H T : AtLeaf) (best : Option ℕ) (rs : List Range) (tree : Tree) → AreBranches rules rs [] tree → EachEnd (IsSound H T best) rs [] tree → EachLeaf rules.place H rs [] tree
held rules H T best rs tree b s = each_map rules.place (IsSound H T best) H (λ x y leaf h. h.holds) rs [] tree (each_of_ends rules (IsSound H T best) rs [] tree b s)

-- where no leaf that says just this is to be asked, all of them were
all_examined : (bound : ℕ) (rs : List Range) (path : List BoundOf) (tree : Tree) → wanted bound tree ≡ 0 → EachEnd (λ rs path leaf. leaf.says ≡ Some bound → leaf.examined ≡ true) rs path tree
all_examined bound rs path (Branch' c spot at p low q high) h =
    (all_examined bound (low_side rs spot at) (low_path path c at) low (omega (arith, h)), all_examined bound (high_side rs spot at) (high_path path c at) high (omega (arith, h)))
all_examined bound rs path (LeafOf leaf) h = grind arith

pub evident : (rules : Rules) (H T : AtLeaf) (best least : Option ℕ) (rs : List Range) (tree : Tree) (claim : Claim) → AreBranches rules rs [] tree → EachEnd (IsSound H T best) rs [] tree → IsSettled best tree → least_said tree ≡ least → IsLeastClaim best least claim → IsEvidenced rules T rs tree claim
evident rules H T best least rs tree (Optimal cost) b s settled e h = tt
evident rules H T best least rs tree Infeasible b s settled e h = tt
evident rules H T best least rs tree (Bound bound) b s settled e h =
    let is : least_said tree ≡ Some bound = e ∙ h.0 in
    let below : IsBelow (least_said tree) best = subst (λ x. IsBelow x best) (sym e) h.1 in
    let none : wanted bound tree ≡ 0 = subst (λ x. wanted_of x tree ≡ 0) is (settled below) in
    each_map rules.place
    (λ x y leaf. IsSound H T best x y leaf × (leaf.says ≡ Some bound → leaf.examined ≡ true))
    (λ x y leaf. leaf.says ≡ Some bound → T x y leaf)
    (λ x y leaf h says. h.0.evident (h.1 says))
    rs [] tree
    (each_both rules.place (IsSound H T best) (λ x y leaf. leaf.says ≡ Some bound → leaf.examined ≡ true) rs [] tree
    (each_of_ends rules (IsSound H T best) rs [] tree b s)
    (each_of_ends rules (λ x y leaf. leaf.says ≡ Some bound → leaf.examined ≡ true) rs [] tree b (all_examined bound rs [] tree none)))

-- the claim of what is known
pub claimed : (best cost least : Option ℕ) (tree : Tree) (claim : Claim) → cost ≡ best → least ≡ least_said tree → IsLeastClaim cost least claim → IsLeastClaim best (least_said tree) claim
claimed best cost least tree claim ec el h = subst (λ x. IsLeastClaim x (least_said tree) claim) ec (subst (λ x. IsLeastClaim cost x claim) el h)
